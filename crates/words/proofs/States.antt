-- The laws of a connection's words: the words of the connection of words are these words, if it is well formed; and the connection of the
-- words of a connection that is well formed is this connection.
use Rattle.std.specs.Prelude.{Option, Some, None}
use mathlib.Core.Path.{◌≡◌, refl, sym, ap, ◌∙◌}
use mathlib.Core.Bool.{Bool, true, false, ◌&&◌}
use mathlib.Core.List.{List, [], ◌∷◌, ◌++◌, map}
use Prim.Native.Nat.{ℕ, zero, suc, ◌+◌, ◌*◌, ◌-◌, ◌/◌, ◌%◌, ◌<◌}
use native.Mathlib.Nat.{not-suc-le-zero, le_of_suc-le-suc}
use native.Mathlib.Omega.{arith}
use lib.ListN.{length, get_or, take, drop, replicate, take-append-drop, length-drop, length-append, length-map}
use lib.Seq.{take_at, drop_at, get_or-drop, get_or-take, drop-drop, drop-cons, length-take-le}
use lib.Dec.{eqb, ltb}
use borrow.Author.Tests.{ne_eqb, lt-ltb, le-ltb, ltb-true, ltb-false, eqb-true, eqb-false}
use Rattle.laws.specs.Pick.{pick}
use Rattle.laws.proofs.Pick.{yes, no}
use Rattle.laws.proofs.Tests.{and_first, and_second, and_both}
use Rattle.laws.proofs.Below.{below_number}
use Rattle.wire.specs.declared.Role.{Role}
use Rattle.wire.specs.declared.Role.TheVariants as role
use Rattle.state.specs.declared.Session.{Session}
use Rattle.state.specs.declared.Stage.{Stage}
use Rattle.state.specs.declared.Stage.TheVariants as stage
use Rattle.state.specs.declared.Connection.{Connection}
use Rattle.state.specs.New.{blank}
use Rattle.protocol.specs.Connection.{role_of, exchanged, session_formed, all_formed, well_formed}
use Rattle.words.specs.Session.{outbound_word, inbound_word, status_word, session_of}
use Rattle.words.specs.State.{inbound_at, status_at, head_at, stage_at, over_at, own_at, last_at, ping_at, spare_at, spare_count, word_count, role_number, role_in, stage_number, stage_of, ping_number, ping_in, numbers16, stage_cases, ping_cases, head_words, words_of, zipped, all_zero, head_in_range, connection_of}
use Rattle.words.proofs.Sessions.{by_test, flag_number_lem, flag_back, flag_small, outbound_back, inbound_back, status_back, session_back}

-- ---- the parts that are no sessions

pub role_number_lem : (n : ℕ) → n < 2 → role_number (role_in n) ≡ n
unfolding role_in pick
role_number_lem n h = below_number (λ k. role_number (role_in k)) (λ k. k) 2 tt n h

pub role_back : (r : Role) → role_in (role_number r) ≡ r
unfolding role_in pick
role_back role.Client = refl
role_back role.Server = refl

pub role_small : (r : Role) → role_number r < 2
role_small role.Client = omega arith
role_small role.Server = omega arith

stage_number_lem : (n : ℕ) → stage_number (stage_of n) ≡ n
unfolding stage_of pick
stage_number_lem n =
    by_test (ltb n 2)
    (λ t. rw t (role_number_lem n (ltb-true n 2 t)))
    (λ f. rw f
    (by_test (eqb n 2)
    (λ t. rw t (sym (eqb-true n 2 t)))
    (λ g. let d = eqb-false n 2 g in rw (g, role_number_lem ((n - 3) % 2) (omega arith)) (omega (arith, ltb-false n 2 f)))))

pub stage_back : (s : Stage) → stage_of (stage_number s) ≡ s
unfolding stage_of pick
stage_back (stage.Fresh r) = rw (lt-ltb (role_number r) 2 (role_small r)) (ap stage.Fresh (role_back r))
stage_back stage.Started = refl
stage_back (stage.Up r far) =
    let l = role_small r in
    let n = 3 + (2 * far + role_number r) in
    let a : ltb n 2 ≡ false = le-ltb n 2 (omega arith) in
    let b : eqb n 2 ≡ false = ne_eqb n 2 (λ e. omega arith) in
    let m : (n - 3) % 2 ≡ role_number r = omega arith in
    let d : (n - 3) / 2 ≡ far = omega arith in
    rw (a, b, m, d, role_back r)

ping_number_lem : (n : ℕ) → ping_number (ping_in n) ≡ n
unfolding ping_in pick
ping_number_lem n = by_test (eqb n 0) (λ t. rw t (sym (eqb-true n 0 t))) (λ f. let d = eqb-false n 0 f in rw f (omega arith))

ping_back : (p : Option ℕ) → ping_in (ping_number p) ≡ p
unfolding ping_in pick
ping_back None = refl
ping_back (Some k) =
    let e : 1 + k - 1 ≡ k = omega arith in
    rw (ne_eqb (1 + k) 0 (λ q. omega arith), e)

zeros : (l : List ℕ) → all_zero l ≡ true → l ≡ replicate (length l) 0
zeros [] e = refl
zeros (x ∷ l) e =
    rw (eqb-true x 0 (and_first (eqb x 0) (all_zero l) e)) (ap (λ (t : List ℕ). 0 ∷ t) (zeros l (and_second (eqb x 0) (all_zero l) e)))

-- ---- the sessions

-- three columns of one length
module _ where
  zipped_outbound : (a b s : List ℕ) → length a ≡ length b → length a ≡ length s → map outbound_word (zipped a b s) ≡ a
  zipped_outbound [] b s p q = refl
  zipped_outbound (x ∷ a) [] s p q = absurd (omega arith)
  zipped_outbound (x ∷ a) (y ∷ b) [] p q = absurd (omega arith)
  zipped_outbound (x ∷ a) (y ∷ b) (z ∷ s) p q =
      let e : length a ≡ length b = omega arith in
      let f : length a ≡ length s = omega arith in
      rw (outbound_back x y z) (ap (λ (t : List ℕ). x ∷ t) (zipped_outbound a b s e f))

  zipped_inbound : (a b s : List ℕ) → length a ≡ length b → length a ≡ length s → map inbound_word (zipped a b s) ≡ b
  zipped_inbound [] [] s p q = refl
  zipped_inbound [] (y ∷ b) s p q = absurd (omega arith)
  zipped_inbound (x ∷ a) [] s p q = absurd (omega arith)
  zipped_inbound (x ∷ a) (y ∷ b) [] p q = absurd (omega arith)
  zipped_inbound (x ∷ a) (y ∷ b) (z ∷ s) p q =
      let e : length a ≡ length b = omega arith in
      let f : length a ≡ length s = omega arith in
      rw (inbound_back x y z) (ap (λ (t : List ℕ). y ∷ t) (zipped_inbound a b s e f))

  zipped_status : (a b s : List ℕ) → length a ≡ length b → length a ≡ length s → map status_word (zipped a b s) ≡ s
  zipped_status [] b [] p q = refl
  zipped_status [] b (z ∷ s) p q = absurd (omega arith)
  zipped_status (x ∷ a) [] s p q = absurd (omega arith)
  zipped_status (x ∷ a) (y ∷ b) [] p q = absurd (omega arith)
  zipped_status (x ∷ a) (y ∷ b) (z ∷ s) p q =
      let e : length a ≡ length b = omega arith in
      let f : length a ≡ length s = omega arith in
      rw (status_back x y z) (ap (λ (t : List ℕ). z ∷ t) (zipped_status a b s e f))

  pub zipped_length : (a b s : List ℕ) → length a ≡ length b → length a ≡ length s → length (zipped a b s) ≡ length a
  zipped_length a b s p q = sym (length-map (zipped a b s) outbound_word) ∙ ap length (zipped_outbound a b s p q)

  zipped_at : (a b s : List ℕ) (i : ℕ) → i < length a → i < length b → i < length s
      → get_or (zipped a b s) i blank ≡ session_of (get_or a i 0) (get_or b i 0) (get_or s i 0)
  zipped_at [] b s i h p q = absurd (not-suc-le-zero h)
  zipped_at (x ∷ a) [] s i h p q = absurd (not-suc-le-zero p)
  zipped_at (x ∷ a) (y ∷ b) [] i h p q = absurd (not-suc-le-zero q)
  zipped_at (x ∷ a) (y ∷ b) (z ∷ s) zero h p q = refl
  zipped_at (x ∷ a) (y ∷ b) (z ∷ s) (suc i) h p q =
      zipped_at a b s i (le_of_suc-le-suc h) (le_of_suc-le-suc p) (le_of_suc-le-suc q)

  zipped_back : (r : Role) (up : Bool) (l : List Session) → all_formed r up l ≡ true → zipped (map outbound_word l) (map inbound_word l) (map status_word l) ≡ l
  unfolding all_formed
  zipped_back r up [] e = refl
  zipped_back r up (x ∷ l) e =
      rw (session_back r up x (and_first (session_formed r up x) (all_formed r up l) e))
      (ap (λ (t : List Session). x ∷ t) (zipped_back r up l (and_second (session_formed r up x) (all_formed r up l) e)))

-- ---- the words of the connection of words

module _ (w : List ℕ) (long : length w ≡ word_count) where
  pub first_long : length (take 128 w) ≡ 128
  first_long = length-take-le 128 w (omega arith)

  pub second_long : length (take 128 (drop inbound_at w)) ≡ 128
  second_long = length-take-le 128 (drop inbound_at w) (omega (arith, length-drop inbound_at w))

  pub third_long : length (take 128 (drop status_at w)) ≡ 128
  third_long = length-take-le 128 (drop status_at w) (omega (arith, length-drop status_at w))

  pub sessions_long : length (connection_of w).sessions ≡ 128
  unfolding connection_of
  sessions_long =
      zipped_length (take 128 w) (take 128 (drop inbound_at w)) (take 128 (drop status_at w)) (first_long ∙ sym second_long) (first_long ∙ sym third_long)
      ∙ first_long

  -- the session of a number is that of its three words
  pub session_at_lem : (i : ℕ) → i < 128 → get_or (connection_of w).sessions i blank ≡ session_of (get_or w i 0) (get_or w (inbound_at + i) 0) (get_or w (status_at + i) 0)
  unfolding connection_of
  session_at_lem i h =
      zipped_at (take 128 w) (take 128 (drop inbound_at w)) (take 128 (drop status_at w)) i (omega (arith, first_long)) (omega (arith, second_long)) (omega (arith, third_long))
      ∙ rw (get_or-take 128 w i 0 h, get_or-take 128 (drop inbound_at w) i 0 h, get_or-take 128 (drop status_at w) i 0 h, get_or-drop inbound_at w i 0, get_or-drop status_at w i 0)

  spare_long : length (drop spare_at w) ≡ spare_count
  spare_long = length-drop spare_at w ∙ ap (λ (n : ℕ). n - spare_at) long

  head_words_lem : drop head_at w ≡ get_or w stage_at 0 ∷ get_or w over_at 0 ∷ get_or w own_at 0 ∷ get_or w last_at 0 ∷ get_or w ping_at 0 ∷ drop spare_at w
  head_words_lem =
      drop-cons w stage_at 0 (omega arith)
      ∙ ap (λ (t : List ℕ). get_or w stage_at 0 ∷ t) (drop-cons w over_at 0 (omega arith)
      ∙ ap (λ (t : List ℕ). get_or w over_at 0 ∷ t) (drop-cons w own_at 0 (omega arith)
      ∙ ap (λ (t : List ℕ). get_or w own_at 0 ∷ t) (drop-cons w last_at 0 (omega arith)
      ∙ ap (λ (t : List ℕ). get_or w last_at 0 ∷ t) (drop-cons w ping_at 0 (omega arith)))))

  pub last_fits : well_formed (connection_of w) ≡ true → ltb (connection_of w).last 128 ≡ true
  unfolding well_formed
  last_fits e = and_first (ltb (connection_of w).last 128) (all_formed (role_of (connection_of w).stage) (exchanged (connection_of w).stage) (connection_of w).sessions) e

  -- words whose connection is well formed have a head that fits
  pub head_fits_lem : well_formed (connection_of w) ≡ true → head_in_range w ≡ true
  unfolding connection_of
  head_fits_lem e =
      by_test (head_in_range w) (λ t. t)
      (λ f. let q : ltb 128 128 ≡ true = rw (no (head_in_range w) (get_or w last_at 0) 128 f) at (last_fits e) in
      let z : ◌≡◌ {A = ℕ} 0 1 = cc in absurd (omega arith))

  module _ (e : well_formed (connection_of w) ≡ true) where
    abbrev A : Bool
    A = ltb (get_or w stage_at 0) stage_cases

    abbrev B : Bool
    B = ltb (get_or w over_at 0) 2

    abbrev C : Bool
    C = ltb (get_or w own_at 0) numbers16

    abbrev D : Bool
    D = ltb (get_or w ping_at 0) ping_cases

    abbrev E : Bool
    E = all_zero (drop spare_at w)

    all_five : (A && B && C && D && E) ≡ true
    unfolding head_in_range
    all_five = head_fits_lem e

    first_four : (A && B && C && D) ≡ true
    first_four = and_first (A && B && C && D) E all_five

    first_three : (A && B && C) ≡ true
    first_three = and_first (A && B && C) D first_four

    first_two : (A && B) ≡ true
    first_two = and_first (A && B) C first_three

    pub stage_small : get_or w stage_at 0 < stage_cases
    stage_small = ltb-true _ _ (and_first A B first_two)

    pub over_flag : get_or w over_at 0 < 2
    over_flag = ltb-true _ _ (and_second A B first_two)

    pub own_small : get_or w own_at 0 < numbers16
    own_small = ltb-true _ _ (and_second (A && B) C first_three)

    pub ping_small : get_or w ping_at 0 < ping_cases
    ping_small = ltb-true _ _ (and_second (A && B && C) D first_four)

    pub last_word : (connection_of w).last ≡ get_or w last_at 0
    unfolding connection_of
    last_word = yes (head_in_range w) (get_or w last_at 0) 128 (head_fits_lem e)

    spare_zero : drop spare_at w ≡ replicate spare_count 0
    spare_zero = zeros (drop spare_at w) (and_second (A && B && C && D) E all_five) ∙ ap (λ (n : ℕ). replicate n 0) spare_long

    head_is : head_words (connection_of w) ≡ drop head_at w
    unfolding connection_of
    head_is =
        rw (stage_number_lem (get_or w stage_at 0), flag_number_lem (get_or w over_at 0) over_flag, yes (head_in_range w) (get_or w last_at 0) 128 (head_fits_lem e), ping_number_lem (get_or w ping_at 0))
        (sym (head_words_lem ∙ ap (λ (t : List ℕ). get_or w stage_at 0 ∷ get_or w over_at 0 ∷ get_or w own_at 0 ∷ get_or w last_at 0 ∷ get_or w ping_at 0 ∷ t) spare_zero))

    columns : (map outbound_word (connection_of w).sessions ≡ take 128 w) × (map inbound_word (connection_of w).sessions ≡ take 128 (drop inbound_at w))
        × (map status_word (connection_of w).sessions ≡ take 128 (drop status_at w))
    unfolding connection_of
    columns =
        let p = first_long ∙ sym second_long in
        let q = first_long ∙ sym third_long in (
          zipped_outbound (take 128 w) (take 128 (drop inbound_at w)) (take 128 (drop status_at w)) p q,
          zipped_inbound (take 128 w) (take 128 (drop inbound_at w)) (take 128 (drop status_at w)) p q,
          zipped_status (take 128 w) (take 128 (drop inbound_at w)) (take 128 (drop status_at w)) p q,
        )

    -- the words of the connection of words
    pub canonical : words_of (connection_of w) ≡ w
    unfolding words_of
    canonical =
        rw (columns.0, columns.1, columns.2, head_is)
        (ap (λ (t : List ℕ). take 128 w ++ (take 128 (drop inbound_at w) ++ (take 128 (drop status_at w) ++ t))) (sym (drop-drop 128 status_at w))
        ∙ ap (λ (t : List ℕ). take 128 w ++ (take 128 (drop inbound_at w) ++ t)) (take-append-drop 128 (drop status_at w) ∙ sym (drop-drop 128 inbound_at w))
        ∙ ap (λ (t : List ℕ). take 128 w ++ t) (take-append-drop 128 (drop inbound_at w)) ∙ take-append-drop 128 w)

-- ---- the connection of the words of a connection

-- what the types of a connection's parts say of them
pub record Typed (c : Connection) : Type 0 where
  pub sessions : length c.sessions ≡ 128
  pub stage : stage_number c.stage < stage_cases
  pub own : c.own < numbers16
  pub ping : ping_number c.ping < ping_cases

zeros_fit : (n : ℕ) → all_zero (replicate n 0) ≡ true
zeros_fit zero = refl
zeros_fit (suc n) = zeros_fit n

module _ (c : Connection) (t : Typed c) where
  abbrev outbound : List ℕ
  outbound = map outbound_word c.sessions

  abbrev inbound : List ℕ
  inbound = map inbound_word c.sessions

  abbrev status : List ℕ
  status = map status_word c.sessions

  outbound_long : length outbound ≡ 128
  outbound_long = length-map c.sessions outbound_word ∙ t.sessions

  inbound_long : length inbound ≡ 128
  inbound_long = length-map c.sessions inbound_word ∙ t.sessions

  status_long : length status ≡ 128
  status_long = length-map c.sessions status_word ∙ t.sessions

  first_words : take 128 (words_of c) ≡ outbound
  unfolding words_of
  first_words = take_at outbound (inbound ++ (status ++ head_words c)) 128 outbound_long

  from_inbound : drop inbound_at (words_of c) ≡ inbound ++ (status ++ head_words c)
  unfolding words_of
  from_inbound = drop_at outbound (inbound ++ (status ++ head_words c)) 128 outbound_long

  from_status : drop status_at (words_of c) ≡ status ++ head_words c
  from_status = sym (drop-drop 128 inbound_at (words_of c)) ∙ ap (drop 128) from_inbound ∙ drop_at inbound (status ++ head_words c) 128 inbound_long

  from_head : drop head_at (words_of c) ≡ head_words c
  from_head = sym (drop-drop 128 status_at (words_of c)) ∙ ap (drop 128) from_status ∙ drop_at status (head_words c) 128 status_long

  head_at_lem : (k : ℕ) → get_or (words_of c) (head_at + k) 0 ≡ get_or (head_words c) k 0
  head_at_lem k = sym (get_or-drop head_at (words_of c) k 0) ∙ ap (λ (l : List ℕ). get_or l k 0) from_head

  from_spare : drop spare_at (words_of c) ≡ replicate spare_count 0
  from_spare = sym (drop-drop 5 head_at (words_of c)) ∙ ap (drop 5) from_head

  pub words_long : length (words_of c) ≡ word_count
  unfolding words_of
  words_long = simp (length-append, outbound_long, inbound_long, status_long)

  words_fit_lem : head_in_range (words_of c) ≡ true
  unfolding head_in_range
  words_fit_lem =
      rw (head_at_lem 0, head_at_lem 1, head_at_lem 2, head_at_lem 4, from_spare)
      (and_both (and_both (and_both (and_both (lt-ltb _ _ t.stage) (lt-ltb _ _ (flag_small c.over))) (lt-ltb _ _ t.own)) (lt-ltb _ _ t.ping)) (zeros_fit spare_count))

  pub connection_back : well_formed c ≡ true → connection_of (words_of c) ≡ c
  unfolding connection_of well_formed
  connection_back e =
      let all = and_second (ltb c.last 128) (all_formed (role_of c.stage) (exchanged c.stage) c.sessions) e in
      let second : take 128 (drop inbound_at (words_of c)) ≡ inbound = ap (take 128) from_inbound ∙ take_at inbound (status ++ head_words c) 128 inbound_long in
      let third : take 128 (drop status_at (words_of c)) ≡ status = ap (take 128) from_status ∙ take_at status (head_words c) 128 status_long in
      simp (first_words, second, third, head_at_lem 0, head_at_lem 1, head_at_lem 2, head_at_lem 3, head_at_lem 4, zipped_back (role_of c.stage) (exchanged c.stage) c.sessions all, yes _ c.last 128 words_fit_lem, stage_back c.stage, flag_back c.over, ping_back c.ping)
