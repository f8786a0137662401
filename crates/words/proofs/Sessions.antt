-- The laws of a session's three words: they are those of a session that is well formed exactly if each is below its limit; the words of the
-- session of three words are these words; and the session of the words of a session that is well formed is this session.
use mathlib.Core.Path.{◌≡◌, refl, sym, ap, ◌∙◌}
use mathlib.Core.Bool.{Bool, true, false, not, ◌&&◌, ◌||◌}
use Prim.Native.Nat.{ℕ, ◌+◌, ◌*◌, ◌-◌, ◌/◌, ◌%◌, ◌<◌, ◌≤◌}
use native.Mathlib.Omega.{arith}
use lib.Dec.{eqb, ltb, leb}
use borrow.Author.Tests.{eq-eqb, ne_eqb, lt-ltb, le-ltb, le-leb, ltb-true, ltb-false, leb-true, eqb-true, eqb-false}
use Rattle.laws.specs.Pick.{pick}
use Rattle.laws.proofs.Tests.{and_first, and_second}
use Rattle.laws.proofs.Below.{below_number, below_test}
use Rattle.ration.specs.declared.Ration.{Ration}
use Rattle.ration.specs.declared.Ration.TheVariants as ration
use Rattle.ration.specs.Ration.{in_range}
use Rattle.wire.specs.declared.Role.{Role}
use Rattle.wire.specs.declared.Role.TheVariants as role
use Rattle.wire.specs.Message.{is_client, only_if}
use Rattle.state.specs.declared.Side.{Side}
use Rattle.state.specs.declared.Side.TheVariants as side
use Rattle.state.specs.declared.Before.{Before}
use Rattle.state.specs.declared.Before.TheVariants as before
use Rattle.state.specs.declared.Sides.{Sides}
use Rattle.state.specs.declared.Sides.TheVariants as sides
use Rattle.state.specs.declared.Outcome.{Outcome}
use Rattle.state.specs.declared.Outcome.TheVariants as outcome
use Rattle.state.specs.declared.Session.{Session}
use Rattle.protocol.specs.Slot.{slot_size}
use Rattle.protocol.specs.Ask.{sends}
use Rattle.protocol.specs.Connection.{placed, session_formed}
use Rattle.words.specs.Session.{endless_number, ration_number, ration_in, side_cases, before_cases, outcome_cases, side_number, side_of, before_number, before_of, outcome_number, outcome_of, flag_number, held_number, held_cases, open_from, opening_from, phases_end, phase_number, Phase, none_held, open_held, opening_held, phase_of, resting_sides, sides_in, held_in, outbound_word, inbound_word, status_word, session_of, phases_at, status_limit, words_fit}

-- ---- a test and its two answers

-- a fact that follows from either answer of a test
pub by_test : {A : Type 0} (t : Bool) → (t ≡ true → A) → (t ≡ false → A) → A
by_test true y n = y refl
by_test false y n = n refl

-- two tests that follow from each other are the same
pub same_test : (a b : Bool) → (a ≡ true → b ≡ true) → (b ≡ true → a ≡ true) → a ≡ b
same_test true b p q = sym (p refl)
same_test false true p q = q refl
same_test false false p q = refl

-- ---- rations

-- the number of the ration of a number is that number
pub ration_number_lem : (n : ℕ) → ration_number (ration_in n) ≡ n
unfolding ration_in pick
ration_number_lem n = by_test (eqb n endless_number) (λ e. rw e (sym (eqb-true n endless_number e))) (λ e. rw e)

-- in range exactly up to the number of the endless one
ration_range : (n : ℕ) → in_range (ration_in n) ≡ ltb n (1 + endless_number)
unfolding ration_in pick
ration_range n =
    by_test (eqb n endless_number)
    (λ e. rw (e, lt-ltb n (1 + endless_number) (omega (arith, eqb-true n endless_number e))))
    (λ e. rw e (same_test _ _
    (λ t. lt-ltb n (1 + endless_number) (omega (arith, leb-true n 2_147_483_647 t)))
    (λ t. let d = eqb-false n endless_number e in le-leb n 2_147_483_647 (omega (arith, ltb-true n (1 + endless_number) t)))))

-- the ration of its number, if it is in range
ration_back : (r : Ration) → in_range r ≡ true → ration_in (ration_number r) ≡ r
unfolding ration_in pick
ration_back (ration.Finite n) e = rw (ne_eqb n endless_number (λ q. omega (arith, leb-true n 2_147_483_647 e)))
ration_back ration.Endless e = refl

-- ---- cases and their numbers

pub side_back : (s : Side) → side_of (side_number s) ≡ s
unfolding side_of pick
side_back side.Open = refl
side_back side.Finished = refl
side_back side.Ended = refl

pub before_back : (b : Before) → before_of (before_number b) ≡ b
unfolding before_of pick
before_back before.Idle = refl
before_back before.Finished = refl
before_back before.Ended = refl

pub outcome_back : (o : Outcome) → outcome_of (outcome_number o) ≡ o
unfolding outcome_of pick
outcome_back outcome.None = refl
outcome_back outcome.Running = refl
outcome_back outcome.Complete = refl
outcome_back outcome.MayRetry = refl
outcome_back outcome.MustNotRetry = refl

pub side_number_lem : (n : ℕ) → n < side_cases → side_number (side_of n) ≡ n
unfolding side_of pick
side_number_lem n h = below_number (λ k. side_number (side_of k)) (λ k. k) side_cases tt n h

pub before_number_lem : (n : ℕ) → n < before_cases → before_number (before_of n) ≡ n
unfolding before_of pick
before_number_lem n h = below_number (λ k. before_number (before_of k)) (λ k. k) before_cases tt n h

pub outcome_number_lem : (n : ℕ) → n < outcome_cases → outcome_number (outcome_of n) ≡ n
unfolding outcome_of pick
outcome_number_lem n h = below_number (λ k. outcome_number (outcome_of k)) (λ k. k) outcome_cases tt n h

resting_number : (z held : ℕ) → z < open_from → phase_number (resting_sides z) held ≡ z
unfolding resting_sides side_of pick
resting_number z held h = below_number (λ k. phase_number (resting_sides k) held) (λ k. k) open_from tt z h

pub side_small : (s : Side) → side_number s < side_cases
side_small side.Open = omega arith
side_small side.Finished = omega arith
side_small side.Ended = omega arith

pub before_small : (b : Before) → before_number b < before_cases
before_small before.Idle = omega arith
before_small before.Finished = omega arith
before_small before.Ended = omega arith

pub outcome_small : (o : Outcome) → outcome_number o < outcome_cases
outcome_small outcome.None = omega arith
outcome_small outcome.Running = omega arith
outcome_small outcome.Complete = omega arith
outcome_small outcome.MayRetry = omega arith
outcome_small outcome.MustNotRetry = omega arith

-- ---- the phase of a number, and the number of a phase

pub flag_number_lem : (n : ℕ) → n < 2 → flag_number (eqb n 1) ≡ n
flag_number_lem n h = below_number (λ k. flag_number (eqb k 1)) (λ k. k) 2 tt n h

pub flag_back : (b : Bool) → eqb (flag_number b) 1 ≡ b
flag_back true = refl
flag_back false = refl

pub flag_small : (b : Bool) → flag_number b < 2
flag_small true = omega arith
flag_small false = omega arith

pub held_number_lem : (h : ℕ) → held_number (h / 2) (eqb (h % 2) 1) ≡ h
held_number_lem h = rw (flag_number_lem (h % 2) (omega arith)) (omega arith)

pub phase_number_lem : (z : ℕ) → phase_number (sides_in (phase_of z)) (held_in (phase_of z)) ≡ z
unfolding phase_of pick
phase_number_lem z =
    by_test (ltb z open_from)
    (λ t. rw t (resting_number z 0 (ltb-true z open_from t)))
    (λ f. rw f
    (by_test (ltb z opening_from)
    (λ t. rw (t, side_number_lem ((z - open_from) % side_cases) (omega arith)) (omega (arith, ltb-false z open_from f)))
    (λ g. rw (g, before_number_lem ((z - opening_from) % before_cases) (omega arith)) (omega (arith, ltb-false z opening_from g)))))

-- a phase below their end holds no more than a slot and a finish
pub held_below : (z : ℕ) → z < phases_end → held_in (phase_of z) < held_cases
unfolding phase_of pick
held_below z l =
    by_test (ltb z open_from)
    (λ t. rw t (omega arith))
    (λ f. rw f (by_test (ltb z opening_from) (λ t. rw t (omega (arith, ltb-true z opening_from t))) (λ g. rw g (omega arith))))

-- the words of the session of three words
pub outbound_back : (a b s : ℕ) → outbound_word (session_of a b s) ≡ a
unfolding session_of
outbound_back a b s = ration_number_lem a

pub inbound_back : (a b s : ℕ) → inbound_word (session_of a b s) ≡ b
unfolding session_of
inbound_back a b s = ration_number_lem b

pub status_back : (a b s : ℕ) → status_word (session_of a b s) ≡ s
unfolding status_word session_of
status_back a b s =
    rw (outcome_number_lem (s % outcome_cases) (omega arith), held_number_lem (held_in (phase_of (s / outcome_cases))), phase_number_lem (s / outcome_cases)) (omega arith)

-- ---- rule 14

-- what is asked of a phase
abbrev phase_tests : Role → Bool → Phase → Bool
phase_tests r up p =
    leb (held_in p / 2) slot_size && only_if (not (sends (sides_in p))) (eqb (held_in p / 2) 0) && only_if (eqb (held_in p % 2) 1) (sends (sides_in p)) && placed r up (sides_in p)

resting_fits : (r : Role) (up : Bool) (z : ℕ) → z < open_from → phase_tests r up (none_held z) ≡ (eqb z 0 || up)
unfolding resting_sides side_of pick
resting_fits role.Client true z h = below_test (λ k. phase_tests role.Client true (none_held k)) (λ k. eqb k 0 || true) open_from tt z h
resting_fits role.Client false z h = below_test (λ k. phase_tests role.Client false (none_held k)) (λ k. eqb k 0 || false) open_from tt z h
resting_fits role.Server true z h = below_test (λ k. phase_tests role.Server true (none_held k)) (λ k. eqb k 0 || true) open_from tt z h
resting_fits role.Server false z h = below_test (λ k. phase_tests role.Server false (none_held k)) (λ k. eqb k 0 || false) open_from tt z h

or_true : (b : Bool) → (b || true) ≡ true
or_true true = refl
or_true false = refl

sending_fits : (r : Role) (up : Bool) (t h : ℕ) → h < held_cases → phase_tests r up (open_held t h) ≡ up
sending_fits r up t h l = rw (le-leb (h / 2) slot_size (omega arith), or_true (not (eqb (h % 2) 1)))

opening_fits : (r : Role) (up : Bool) (b h : ℕ) → phase_tests r up (opening_held b h) ≡ (ltb h held_cases && (is_client r && up))
opening_fits r up b h =
    let e : leb (h / 2) slot_size ≡ ltb h held_cases =
    same_test _ _ (λ t. lt-ltb h held_cases (omega (arith, leb-true (h / 2) slot_size t))) (λ t. le-leb (h / 2) slot_size (omega (arith, ltb-true h held_cases t))) in
    rw (e, or_true (not (eqb (h % 2) 1))) (go (ltb h held_cases) (is_client r && up))
  where
    go : (x y : Bool) → (x && true && true && y) ≡ (x && y)
    go true y = refl
    go false y = refl

-- which phases may be there
fitting : Role → Bool → ℕ → Bool
fitting r up z = pick (ltb z open_from) (eqb z 0 || up) (pick (ltb z opening_from) up (ltb z phases_end && (is_client r && up)))

phase_fits : (r : Role) (up : Bool) (z : ℕ) → phase_tests r up (phase_of z) ≡ fitting r up z
unfolding phase_of pick fitting
phase_fits r up z =
    by_test (ltb z open_from)
    (λ t. rw t (resting_fits r up z (ltb-true z open_from t)))
    (λ f. rw f
    (by_test (ltb z opening_from)
    (λ t. rw t (sending_fits r up ((z - open_from) % side_cases) ((z - open_from) / side_cases) (omega (arith, ltb-true z opening_from t))))
    (λ g. let e : ltb ((z - opening_from) / before_cases) held_cases ≡ ltb z phases_end =
    same_test _ _
    (λ t. lt-ltb z phases_end (omega (arith, ltb-true ((z - opening_from) / before_cases) held_cases t, ltb-false z opening_from g)))
    (λ t. lt-ltb ((z - opening_from) / before_cases) held_cases (omega (arith, ltb-true z phases_end t))) in
    rw g (opening_fits r up ((z - opening_from) % before_cases) ((z - opening_from) / before_cases) ∙ ap (λ (x : Bool). x && (is_client r && up)) e))))

-- these are the phases below the limit
phase_limit : (r : Role) (up : Bool) (z : ℕ) → fitting r up z ≡ ltb z (phases_at r up)
unfolding fitting pick
phase_limit role.Client true z =
    by_test (ltb z open_from)
    (λ t. rw (t, or_true (eqb z 0)) (sym (lt-ltb z phases_end (omega (arith, ltb-true z open_from t)))))
    (λ f. rw f
    (by_test (ltb z opening_from)
    (λ t. rw t (sym (lt-ltb z phases_end (omega (arith, ltb-true z opening_from t)))))
    (λ g. rw g (and_true (ltb z phases_end)))))
  where
    and_true : (x : Bool) → (x && true) ≡ x
    and_true true = refl
    and_true false = refl
phase_limit role.Server true z =
    by_test (ltb z open_from)
    (λ t. rw (t, or_true (eqb z 0)) (sym (lt-ltb z opening_from (omega (arith, ltb-true z open_from t)))))
    (λ f. rw f
    (by_test (ltb z opening_from)
    (λ t. rw t)
    (λ g. rw g (none (ltb z phases_end)))))
  where
    none : (x : Bool) → (x && false) ≡ false
    none true = refl
    none false = refl
phase_limit r false z =
    by_test (ltb z open_from)
    (λ t. rw t (go (eqb z 0)
    (same_test _ _ (λ e. lt-ltb z 1 (omega (arith, eqb-true z 0 e))) (λ e. eq-eqb z 0 (omega (arith, ltb-true z 1 e))))))
    (λ f. rw (f, le-ltb z 1 (omega (arith, ltb-false z open_from f)))
    (by_test (ltb z opening_from) (λ t. rw t) (λ g. rw g (none (ltb z phases_end) (is_client r)))))
  where
    go : {y : Bool} (x : Bool) → x ≡ y → (x || false) ≡ y
    go true e = e
    go false e = e

    none : (x y : Bool) → (x && (y && false)) ≡ false
    none true true = refl
    none true false = refl
    none false y = refl

scaled : (z s n : ℕ) → z ≡ s / outcome_cases → ltb z n ≡ ltb s (outcome_cases * n)
scaled z s n e =
    same_test _ _
    (λ t. lt-ltb s (outcome_cases * n) (omega (arith, e, ltb-true z n t)))
    (λ t. lt-ltb z n (omega (arith, e, ltb-true s (outcome_cases * n) t)))

status_limit_lem : (r : Role) (up : Bool) (s : ℕ) → fitting r up (s / outcome_cases) ≡ ltb s (status_limit r up)
unfolding status_limit
status_limit_lem r up s = phase_limit r up (s / outcome_cases) ∙ scaled (s / outcome_cases) s (phases_at r up) refl

five : (a b c d e q : Bool) → (b && c && d && e) ≡ q → (a && b && c && d && e) ≡ (a && q)
five true b c d e q h = h
five false b c d e q h = refl

-- a session is well formed exactly if each of its words is below its limit
pub formed_words : (r : Role) (up : Bool) (a b s : ℕ) → session_formed r up (session_of a b s) ≡ words_fit a b s (status_limit r up)
unfolding session_formed session_of
formed_words r up a b s =
    let p = phase_of (s / outcome_cases) in
    five (in_range (ration_in a) && in_range (ration_in b)) (leb (held_in p / 2) slot_size) (only_if (not (sends (sides_in p))) (eqb (held_in p / 2) 0)) (only_if (eqb (held_in p % 2) 1) (sends (sides_in p))) (placed r up (sides_in p)) (ltb s (status_limit r up)) (phase_fits r up (s / outcome_cases) ∙ status_limit_lem r up s)
    ∙ rw (ration_range a, ration_range b)

-- ---- the session of the words of a session

-- nothing is held for a side that does not send
phase_back : (z : Sides) (h : ℕ) → h < held_cases → (sends z ≡ false → h ≡ 0) → (sides_in (phase_of (phase_number z h)) ≡ z) × (held_in (phase_of (phase_number z h)) ≡ h)
unfolding phase_of resting_sides side_of pick
phase_back sides.Idle h l e = (refl, sym (e refl))
phase_back (sides.Live side.Finished side.Open) h l e = (refl, sym (e refl))
phase_back (sides.Live side.Finished side.Finished) h l e = (refl, sym (e refl))
phase_back (sides.Live side.Finished side.Ended) h l e = (refl, sym (e refl))
phase_back (sides.Live side.Ended side.Open) h l e = (refl, sym (e refl))
phase_back (sides.Live side.Ended side.Finished) h l e = (refl, sym (e refl))
phase_back (sides.Live side.Ended side.Ended) h l e = (refl, sym (e refl))
phase_back (sides.Live side.Open t) h l e =
    let q = side_small t in
    let n = open_from + (side_cases * h + side_number t) in
    let a : ltb n open_from ≡ false = le-ltb n open_from (omega arith) in
    let b : ltb n opening_from ≡ true = lt-ltb n opening_from (omega arith) in
    let m : (n - open_from) % side_cases ≡ side_number t = omega arith in
    let d : (n - open_from) / side_cases ≡ h = omega arith in
    (rw (a, b, m) (ap (sides.Live side.Open) (side_back t)), rw (a, b, d))
phase_back (sides.Opening s) h l e =
    let q = before_small s in
    let n = opening_from + (before_cases * h + before_number s) in
    let a : ltb n open_from ≡ false = le-ltb n open_from (omega arith) in
    let b : ltb n opening_from ≡ false = le-ltb n opening_from (omega arith) in
    let m : (n - opening_from) % before_cases ≡ before_number s = omega arith in
    let d : (n - opening_from) / before_cases ≡ h = omega arith in
    (rw (a, b, m) (ap sides.Opening (before_back s)), rw (a, b, d))

-- what the tests of a session that is well formed say
module _ (r : Role) (up : Bool) (x : Session) (e : session_formed r up x ≡ true) where
  abbrev T1 : Bool
  T1 = in_range x.outbound && in_range x.inbound

  abbrev T2 : Bool
  T2 = leb x.waiting slot_size

  abbrev T3 : Bool
  T3 = only_if (not (sends x.sides)) (eqb x.waiting 0)

  abbrev T4 : Bool
  T4 = only_if x.finish (sends x.sides)

  four_tests : (T1 && T2 && T3 && T4) ≡ true
  unfolding session_formed
  four_tests = and_first (T1 && T2 && T3 && T4) (placed r up x.sides) e

  three_tests : (T1 && T2 && T3) ≡ true
  three_tests = and_first (T1 && T2 && T3) T4 four_tests

  two_tests : (T1 && T2) ≡ true
  two_tests = and_first (T1 && T2) T3 three_tests

  fits_outbound : in_range x.outbound ≡ true
  fits_outbound = and_first (in_range x.outbound) (in_range x.inbound) (and_first T1 T2 two_tests)

  fits_inbound : in_range x.inbound ≡ true
  fits_inbound = and_second (in_range x.outbound) (in_range x.inbound) (and_first T1 T2 two_tests)

  fits_waiting : x.waiting ≤ slot_size
  fits_waiting = leb-true _ _ (and_second T1 T2 two_tests)

  held_none : sends x.sides ≡ false → held_number x.waiting x.finish ≡ 0
  held_none s =
      let w = eqb-true x.waiting 0 (rw s at (and_second (T1 && T2) T3 three_tests)) in
      let f : not x.finish || false ≡ true = rw s at (and_second (T1 && T2 && T3) T4 four_tests) in
      rw (w, unset x.finish f)
    where
      unset : (b : Bool) → (not b || false) ≡ true → flag_number b ≡ 0
      unset true q = let z : ◌≡◌ {A = ℕ} 0 1 = cc in absurd (omega arith)
      unset false q = refl

  abbrev held : ℕ
  held = held_number x.waiting x.finish

  held_small : held < held_cases
  held_small = omega (arith, fits_waiting, flag_small x.finish)

  pub session_back : session_of (outbound_word x) (inbound_word x) (status_word x) ≡ x
  unfolding session_of status_word
  session_back =
      let z = phase_number x.sides held in
      let ln = outcome_small x.outcome in
      let lf = flag_small x.finish in
      let p = phase_back x.sides held held_small held_none in
      let e3 : (outcome_number x.outcome + outcome_cases * z) % outcome_cases ≡ outcome_number x.outcome = omega arith in
      let e4 : (outcome_number x.outcome + outcome_cases * z) / outcome_cases ≡ z = omega arith in
      let e5 : (2 * x.waiting + flag_number x.finish) / 2 ≡ x.waiting = omega arith in
      let e6 : (2 * x.waiting + flag_number x.finish) % 2 ≡ flag_number x.finish = omega arith in
      simp (e3, e4, p.0, p.1, e5, e6, flag_back x.finish, outcome_back x.outcome, ration_back x.outbound fits_outbound, ration_back x.inbound fits_inbound)
