-- Words are those of a connection that is well formed exactly if the head fits, the number served last is below 128, and the words of every
-- session are below their limits.
use Rattle.std.proofs.Common.{◌≡◌, ℕ, zero, suc, ◌+◌, ◌-◌, ◌<◌, ◌↔◌, Bool, true, false, ◌&&◌, ltb, eqb, IsTrue, EachIndex, slice_index, List, [], ◌∷◌, length, get_or, take, drop, sym, refl, ap, subst, ◌∙◌, suc-le-suc, le_of_suc-le-suc, not-suc-le-zero, arith, eq-eqb, eqb-true, lt-ltb, ltb-true, ltb-false}
use mathlib.Core.Bool.{false≢true}
use lib.ListN.{length-drop}
use lib.Seq.{take_all, get_or-drop, get_or-take, length-take-le}
use Rattle.laws.proofs.Pick.{yes, no}
use Rattle.laws.proofs.Tests.{and_first, and_second, and_both, true_false}
use Rattle.wire.specs.declared.Role.{Role}
use Rattle.state.specs.declared.Session.{Session}
use Rattle.state.specs.New.{blank}
use Rattle.protocol.specs.Connection.{role_of, exchanged, session_formed, all_formed, well_formed}
use Rattle.words.specs.Session.{endless_number, status_limit, words_fit}
use Rattle.words.specs.State.{inbound_at, status_at, last_at, word_count, all_zero, head_in_range, sessions_of, connection_of}
use Rattle.words.proofs.Sessions.{by_test, formed_words}
use Rattle.words_access.proofs.Access.{each_formed}
use Rattle.words.proofs.States.{sessions_long, session_at_lem}

-- ---- words that are zero

each_zero : (l : List ℕ) → all_zero l ≡ true → (k : ℕ) → k < length l → get_or l k 0 ≡ 0
each_zero [] e k h = absurd (not-suc-le-zero h)
each_zero (x ∷ l) e zero h = eqb-true x 0 (and_first (eqb x 0) (all_zero l) e)
each_zero (x ∷ l) e (suc k) h = each_zero l (and_second (eqb x 0) (all_zero l) e) k (le_of_suc-le-suc h)

zero_of_each : (l : List ℕ) → ((k : ℕ) → k < length l → get_or l k 0 ≡ 0) → all_zero l ≡ true
zero_of_each [] e = refl
zero_of_each (x ∷ l) e = and_both (eq-eqb x 0 (e zero (omega arith))) (zero_of_each l (λ k h. e (suc k) (suc-le-suc h)))

pub zero_is : (b : Bool) (l : List ℕ) → (IsTrue b ↔ EachIndex l (λ k. slice_index l k ≡ 0)) → b ≡ all_zero l
zero_is true l e = sym (zero_of_each l (e.0 refl))
zero_is false l e = by_test (all_zero l) (λ t. absurd (false≢true (e.1 (each_zero l t)))) (λ f. sym f)

-- ---- all sessions, and each of them

all_of_each : (r : Role) (up : Bool) (l : List Session) → ((i : ℕ) → i < length l → session_formed r up (get_or l i blank) ≡ true) → all_formed r up l ≡ true
unfolding all_formed
all_of_each r up [] e = refl
all_of_each r up (x ∷ l) e = and_both (e zero (omega arith)) (all_of_each r up l (λ i h. e (suc i) (suc-le-suc h)))

module _ (r : Role) (up : Bool) (w : List ℕ) (long : length w ≡ word_count) where
  abbrev pub Fit : ℕ → Bool
  Fit i = words_fit (get_or w i 0) (get_or w (inbound_at + i) 0) (get_or w (status_at + i) 0) (status_limit r up)

  formed_here : (i : ℕ) → i < 128 → session_formed r up (get_or (sessions_of w) i blank) ≡ Fit i
  unfolding connection_of
  formed_here i h =
      ap (session_formed r up) (session_at_lem w long i h) ∙ formed_words r up (get_or w i 0) (get_or w (inbound_at + i) 0) (get_or w (status_at + i) 0)

  number : length (sessions_of w) ≡ 128
  unfolding connection_of
  number = sessions_long w long

  pub all_fit : ((i : ℕ) → i < 128 → Fit i ≡ true) → all_formed r up (sessions_of w) ≡ true
  all_fit e = all_of_each r up (sessions_of w) (λ i h. let k : i < 128 = omega (arith, number) in formed_here i k ∙ e i k)

  pub each_fits : all_formed r up (sessions_of w) ≡ true → (i : ℕ) → i < 128 → Fit i ≡ true
  each_fits e i h = sym (formed_here i h) ∙ each_formed r up (sessions_of w) i e (omega (arith, number))

  -- ---- the columns of the rations, and that of the statuses

  abbrev rations : List ℕ
  rations = take 256 w

  abbrev statuses : List ℕ
  statuses = take 128 (drop 256 w)

  ration_at : (k : ℕ) → k < 256 → get_or rations k 0 ≡ get_or w k 0
  ration_at k h = get_or-take 256 w k 0 h

  status_at_lem : (k : ℕ) → k < 128 → get_or statuses k 0 ≡ get_or w (status_at + k) 0
  status_at_lem k h = get_or-take 128 (drop 256 w) k 0 h ∙ get_or-drop 256 w k 0

  rations_long : length rations ≡ 256
  rations_long = length-take-le 256 w (omega arith)

  statuses_long : length statuses ≡ 128
  statuses_long = length-take-le 128 (drop 256 w) (omega (arith, length-drop 256 w))

  abbrev RationsFit : Type 0
  RationsFit = EachIndex rations (λ k. slice_index rations k < 1 + endless_number)

  abbrev StatusesFit : ℕ → Type 0
  StatusesFit limit = EachIndex statuses (λ k. slice_index statuses k < limit)

  module _ (limit : ℕ) (is : limit ≡ status_limit r up) where
    columns_fit : RationsFit → StatusesFit limit → all_formed r up (sessions_of w) ≡ true
    columns_fit x y =
        all_fit (λ i h.
        let a : get_or w i 0 < 1 + endless_number = omega (arith, x i (omega (arith, rations_long)), ration_at i (omega arith)) in
        let b : get_or w (inbound_at + i) 0 < 1 + endless_number = omega (arith, x (inbound_at + i) (omega (arith, rations_long)), ration_at (inbound_at + i) (omega arith)) in
        let s : get_or w (status_at + i) 0 < status_limit r up = omega (arith, y i (omega (arith, statuses_long)), is, status_at_lem i h) in
        and_both (and_both (lt-ltb _ _ a) (lt-ltb _ _ b)) (lt-ltb _ _ s))

    statuses_fit : all_formed r up (sessions_of w) ≡ true → StatusesFit limit
    statuses_fit e k h =
        let l : k < 128 = omega (arith, statuses_long) in
        let s = ltb-true _ _ (and_second (ltb (get_or w k 0) (1 + endless_number) && ltb (get_or w (inbound_at + k) 0) (1 + endless_number)) (ltb (get_or w (status_at + k) 0) (status_limit r up)) (each_fits e k l)) in
        omega (arith, s, is, status_at_lem k l)

    pub statuses_decide : (y : Bool) → RationsFit → (IsTrue y ↔ StatusesFit limit) → y ≡ all_formed r up (sessions_of w)
    statuses_decide true x e = sym (columns_fit x (e.0 refl))
    statuses_decide false x e = by_test (all_formed r up (sessions_of w)) (λ t. absurd (false≢true (e.1 (statuses_fit t)))) (λ f. sym f)

  both_fit : all_formed r up (sessions_of w) ≡ true → (i : ℕ) → i < 128 → (get_or w i 0 < 1 + endless_number) × (get_or w (inbound_at + i) 0 < 1 + endless_number)
  both_fit e i h =
      let A = ltb (get_or w i 0) (1 + endless_number) in
      let B = ltb (get_or w (inbound_at + i) 0) (1 + endless_number) in
      let p = and_first (A && B) (ltb (get_or w (status_at + i) 0) (status_limit r up)) (each_fits e i h) in
      (ltb-true _ _ (and_first A B p), ltb-true _ _ (and_second A B p))

  rations_fit : all_formed r up (sessions_of w) ≡ true → RationsFit
  rations_fit e k h =
      let l : k < 256 = omega (arith, rations_long) in
      let here = ration_at k l in
      by_test (ltb k 128)
      (λ t. let a = (both_fit e k (ltb-true k 128 t)).0 in omega (arith, here, a))
      (λ f.
      let m = ltb-false k 128 f in
      let q : inbound_at + (k - 128) ≡ k = omega arith in
      let b = (both_fit e (k - 128) (omega arith)).1 in
      let b' : get_or w k 0 < 1 + endless_number = subst (λ (n : ℕ). get_or w n 0 < 1 + endless_number) q b in
      omega (arith, here, b'))

  pub rations_decide : (x : Bool) → (IsTrue x ↔ RationsFit) → x ≡ false → x ≡ all_formed r up (sessions_of w)
  rations_decide x e f = by_test (all_formed r up (sessions_of w)) (λ t. absurd (true_false (e.1 (rations_fit t)) f)) (λ g. f ∙ sym g)

-- ---- the head decides first

-- the spare words go up to the end
pub spare_is : (w : List ℕ) → length w ≡ 400 → take 11 (drop 389 w) ≡ drop 389 w
spare_is w long = take_all 11 (drop 389 w) (omega (arith, length-drop 389 w))

pub well_formed_is : (w : List ℕ)
    → well_formed (connection_of w)
    ≡ (head_in_range w && (ltb (get_or w last_at 0) 128 && all_formed (role_of (connection_of w).stage) (exchanged (connection_of w).stage) (sessions_of w)))
unfolding well_formed connection_of
well_formed_is w =
    by_test (head_in_range w)
    (λ t. rw (yes (head_in_range w) (get_or w last_at 0) 128 t, t))
    (λ f. rw (no (head_in_range w) (get_or w last_at 0) 128 f, f))
