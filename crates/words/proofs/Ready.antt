-- Whether a session is ready for a turn, from two of its words.
use mathlib.Core.Path.{◌≡◌, sym, ◌∙◌}
use mathlib.Core.Bool.{true, false}
use Prim.Native.Nat.{ℕ, ◌+◌, ◌*◌, ◌-◌, ◌/◌, ◌%◌, ◌≤◌}
use native.Mathlib.Omega.{arith}
use lib.Dec.{eqb, ltb}
use borrow.Author.Tests.{ne_eqb, lt-ltb, le-ltb, ltb-true, ltb-false, eqb-true}
use Rattle.laws.specs.Pick.{pick}
use Rattle.protocol.specs.Ask.{positive, due, ready_in, ready_session}
use Rattle.state.specs.declared.Session.{Session}
use Rattle.words.specs.Session.{endless_number, session_parts, none_held, outcome_cases, side_cases, ended_from, open_from, opening_from, finish_from, waiting_from, ration_in, phase_of, resting_sides, session_of, ready_words}
use Rattle.words.proofs.Sessions.{by_test}

resting_unready : (x : Session) (z : ℕ) → ready_in x (resting_sides z) ≡ false
unfolding resting_sides pick
resting_unready x z = by_test (eqb z 0) (λ t. rw t) (λ f. rw f (by_test (ltb z ended_from) (λ t. rw t) (λ g. rw g)))

positive_number : (n : ℕ) → positive (ration_in n) ≡ ltb 0 n
unfolding ration_in pick
positive_number n =
    by_test (eqb n endless_number)
    (λ t. rw t (sym (lt-ltb 0 n (omega (arith, eqb-true n endless_number t)))))
    (λ f. rw f)

-- the first phase of a side that is open with a finish asked for, and the first with bytes waiting
abbrev finish_phase : ℕ
finish_phase = open_from + side_cases

abbrev waiting_phase : ℕ
waiting_phase = open_from + side_cases * 2

-- what is due at a side that sends, from what is held for it
due_held : (a z : ℕ) → open_from ≤ z
    → due ((z - open_from) / side_cases / 2) (ration_in a) (eqb ((z - open_from) / side_cases % 2) 1)
    ≡ pick (ltb z finish_phase) false (pick (ltb z waiting_phase) true (ltb 0 a))
unfolding pick
due_held a z l =
    by_test (ltb z finish_phase)
    (λ t. let s = ltb-true z finish_phase t in
    let e : (z - open_from) / side_cases ≡ 0 = omega arith in
    rw (t, e))
    (λ f. let s = ltb-false z finish_phase f in rw f
    (by_test (ltb z waiting_phase)
    (λ t. let u = ltb-true z waiting_phase t in
    let e : (z - open_from) / side_cases ≡ 1 = omega arith in
    rw (t, e))
    (λ g. let u = ltb-false z waiting_phase g in
    let e : eqb ((z - open_from) / side_cases / 2) 0 ≡ false = ne_eqb ((z - open_from) / side_cases / 2) 0 (λ q. omega arith) in
    rw (g, e) (positive_number a))))

-- the same limits for the status
due_status : (a s : ℕ)
    → pick (ltb (s / outcome_cases) finish_phase) false (pick (ltb (s / outcome_cases) waiting_phase) true (ltb 0 a))
    ≡ pick (ltb s finish_from) false (pick (ltb s waiting_from) true (ltb 0 a))
unfolding pick
due_status a s =
    by_test (ltb (s / outcome_cases) finish_phase)
    (λ t. rw (t, lt-ltb s finish_from (omega (arith, ltb-true (s / outcome_cases) finish_phase t))))
    (λ f. let u = ltb-false (s / outcome_cases) finish_phase f in rw (f, le-ltb s finish_from (omega arith))
    (by_test (ltb (s / outcome_cases) waiting_phase)
    (λ t. rw (t, lt-ltb s waiting_from (omega (arith, ltb-true (s / outcome_cases) waiting_phase t))))
    (λ g. rw (g, le-ltb s waiting_from (omega (arith, ltb-false (s / outcome_cases) waiting_phase g))))))

pub ready_words_lem : (a b s : ℕ) → ready_session (session_of a b s) ≡ ready_words a s
unfolding ready_session ready_words session_of phase_of pick
ready_words_lem a b s =
    by_test (ltb (s / outcome_cases) open_from)
    (λ t. let l = ltb-true (s / outcome_cases) open_from t in
    rw (t, lt-ltb s finish_from (omega arith)) (resting_unready (session_parts a b (s % outcome_cases) (none_held (s / outcome_cases))) (s / outcome_cases)))
    (λ f. let l = ltb-false (s / outcome_cases) open_from f in rw f
    (by_test (ltb (s / outcome_cases) opening_from)
    (λ t. let h = ltb-true (s / outcome_cases) opening_from t in
    rw (t, lt-ltb s (outcome_cases * opening_from) (omega arith)) (due_held a (s / outcome_cases) l ∙ due_status a s))
    (λ g. let h = ltb-false (s / outcome_cases) opening_from g in
    rw (g, le-ltb s finish_from (omega arith), le-ltb s waiting_from (omega arith), le-ltb s (outcome_cases * opening_from) (omega arith)))))
