-- The words of a connection with one part changed: the same words but for those of that part.
use Rattle.std.specs.Prelude.{Option}
use mathlib.Core.Path.{◌≡◌, refl, ap, ◌∙◌}
use mathlib.Core.Bool.{Bool}
use mathlib.Core.List.{List, ◌++◌, map}
use Prim.Native.Nat.{ℕ, ◌+◌, ◌-◌, ◌<◌, ◌≤◌}
use native.Mathlib.Omega.{arith}
use lib.ListN.{length, set, length-map, length-set}
use lib.Seq.{set-append_left, map-set}
use Rattle.std.proofs.lemmas.List.{set-append_right}
use Rattle.state.specs.declared.Session.{Session}
use Rattle.state.specs.declared.Stage.{Stage}
use Rattle.state.specs.declared.Connection.{Connection}
use Rattle.state.specs.With.{with_session, with_stage, with_over, with_last, with_ping}
use Rattle.words.specs.Session.{flag_number, outbound_word, inbound_word, status_word}
use Rattle.words.specs.State.{inbound_at, status_at, head_at, stage_at, over_at, last_at, ping_at, stage_number, ping_number, head_words, words_of}

-- ---- a store in a list of parts

set_past : (xs ys : List ℕ) (n i k a : ℕ) → length xs ≡ n → k ≡ n + i → set (xs ++ ys) k a ≡ xs ++ set ys i a
set_past xs ys n i k a e q =
    let at_most : n ≤ k = omega arith in
    let rest : k - n ≡ i = omega arith in
    set-append_right xs ys n k a e at_most ∙ ap (λ (j : ℕ). xs ++ set ys j a) rest

-- three columns of 128 and a head
module _ (a b s h : List ℕ) (la : length a ≡ 128) (lb : length b ≡ 128) (ls : length s ≡ 128) where
  pub in_first : (n v : ℕ) → n < 128 → set (a ++ (b ++ (s ++ h))) n v ≡ set a n v ++ (b ++ (s ++ h))
  in_first n v l = set-append_left a (b ++ (s ++ h)) n v (omega (arith, la))

  pub in_second : (n v : ℕ) → n < 128 → set (a ++ (b ++ (s ++ h))) (inbound_at + n) v ≡ a ++ (set b n v ++ (s ++ h))
  in_second n v l =
      set_past a (b ++ (s ++ h)) 128 n (inbound_at + n) v la refl
      ∙ ap (λ (t : List ℕ). a ++ t) (set-append_left b (s ++ h) n v (omega (arith, lb)))

  pub in_third : (n v : ℕ) → n < 128 → set (a ++ (b ++ (s ++ h))) (status_at + n) v ≡ a ++ (b ++ (set s n v ++ h))
  in_third n v l =
      set_past a (b ++ (s ++ h)) 128 (128 + n) (status_at + n) v la (omega arith)
      ∙ ap (λ (t : List ℕ). a ++ t) (set_past b (s ++ h) 128 n (128 + n) v lb refl
      ∙ ap (λ (t : List ℕ). b ++ t) (set-append_left s h n v (omega (arith, ls))))

  pub in_head : (k v : ℕ) → set (a ++ (b ++ (s ++ h))) (head_at + k) v ≡ a ++ (b ++ (s ++ set h k v))
  in_head k v =
      set_past a (b ++ (s ++ h)) 128 (256 + k) (head_at + k) v la (omega arith)
      ∙ ap (λ (t : List ℕ). a ++ t) (set_past b (s ++ h) 128 (128 + k) (256 + k) v lb (omega arith)
      ∙ ap (λ (t : List ℕ). b ++ t) (set_past s h 128 k (128 + k) v ls refl))

-- ---- the words of a connection with one part changed

module _ (c : Connection) (long : length c.sessions ≡ 128) where
  abbrev a : List ℕ
  a = map outbound_word c.sessions

  abbrev b : List ℕ
  b = map inbound_word c.sessions

  abbrev s : List ℕ
  s = map status_word c.sessions

  la : length a ≡ 128
  la = length-map c.sessions outbound_word ∙ long

  lb : length b ≡ 128
  lb = length-map c.sessions inbound_word ∙ long

  ls : length s ≡ 128
  ls = length-map c.sessions status_word ∙ long

  pub session_words : (n : ℕ) (x : Session) → n < 128
      → set (set (set (words_of c) n (outbound_word x)) (inbound_at + n) (inbound_word x)) (status_at + n) (status_word x) ≡ words_of (with_session n x c)
  unfolding words_of
  session_words n x l =
      let la' : length (set a n (outbound_word x)) ≡ 128 = length-set a n (outbound_word x) ∙ la in
      let lb' : length (set b n (inbound_word x)) ≡ 128 = length-set b n (inbound_word x) ∙ lb in
      rw (
        in_first a b s (head_words c) la lb ls n (outbound_word x) l,
        in_second (set a n (outbound_word x)) b s (head_words c) la' lb ls n (inbound_word x) l,
        in_third (set a n (outbound_word x)) (set b n (inbound_word x)) s (head_words c) la' lb' ls n (status_word x) l,
        map-set outbound_word c.sessions n x,
        map-set inbound_word c.sessions n x,
        map-set status_word c.sessions n x,
      )

  pub stage_words : (st : Stage) → set (words_of c) stage_at (stage_number st) ≡ words_of (with_stage st c)
  unfolding words_of
  stage_words st = in_head a b s (head_words c) la lb ls 0 (stage_number st)

  pub over_words : (over : Bool) → set (words_of c) over_at (flag_number over) ≡ words_of (with_over over c)
  unfolding words_of
  over_words over = in_head a b s (head_words c) la lb ls 1 (flag_number over)

  pub last_words : (n : ℕ) → set (words_of c) last_at n ≡ words_of (with_last n c)
  unfolding words_of
  last_words n = in_head a b s (head_words c) la lb ls 3 n

  pub ping_words : (p : Option ℕ) → set (words_of c) ping_at (ping_number p) ≡ words_of (with_ping p c)
  unfolding words_of
  ping_words p = in_head a b s (head_words c) la lb ls 4 (ping_number p)
