-- `ended_status` meets its contract: the outcome changes, the phase stays. The sum fits: the largest status has no outcome, and keeps none.
use mathlib.Core.Path.{◌≡◌}
use Prim.Native.Nat.{ℕ, ◌+◌, ◌*◌, ◌/◌, ◌%◌, ◌<◌}
use native.Mathlib.Omega.{arith}
use lib.Dec.{eqb}
use borrow.Author.Tests.{eqb-true, eqb-false}
use Rattle.laws.specs.Pick.{pick}
use Rattle.state.specs.declared.Sides.{Sides}
use Rattle.state.specs.New.{blank}
use Rattle.state.specs.With.{with_sides, with_outcome}
use Rattle.protocol.specs.Connection.{Cause, shutdown_received, error_received, own_shutdown, line_lost, ending}
use Rattle.connection.specs.Cause.{cause_as}
use Rattle.words.specs.Session.{outcome_cases, outcome_number, outcome_of, phase_of, sides_in}
use Rattle.words.proofs.Sessions.{by_test, outcome_small}
use Rattle.words_access.specs.Access.{ended_status, status_session}
use Rattle.words_access.proofs.ending.ended_status.Goals as goal

-- the outcome that the cause leaves, of a status
abbrev left : Cause → ℕ → ℕ
left cause s = outcome_number (ending cause (status_session s)).outcome

none_stays : (cause : Cause) (z : Sides) (n : ℕ) → n ≡ 0 → outcome_number (ending cause (with_outcome (outcome_of n) (with_sides z blank))).outcome ≡ 0
unfolding outcome_of pick
none_stays shutdown_received z n e = rw e
none_stays error_received z n e = rw e
none_stays own_shutdown z n e = rw e
none_stays line_lost z n e = rw e

fits : (cause : Cause) (s : ℕ) → s < 18_446_744_073_709_551_616 → outcome_cases * (s / outcome_cases) + left cause s < 18_446_744_073_709_551_616
fits cause s h =
    by_test (eqb (s % outcome_cases) 0)
    (λ t. let z = none_stays cause (sides_in (phase_of (s / outcome_cases))) (s % outcome_cases) (eqb-true _ _ t) in omega arith)
    (λ f. let d = eqb-false (s % outcome_cases) 0 f in omega (arith, outcome_small (ending cause (status_session s)).outcome))

pub join-requires : goal.join-requires
join-requires c =
    let cause = cause_as c.args.cause in
    let s = c.args.status in
    let e : outcome_number c.ended_session-ended.result.outcome ≡ left cause s = simp (c.ended_session-ended.ensures, c.status_session.ensures) in
    let z = fits cause s (omega arith) in
    omega (arith, c.split-phase.ensures.above, e, z)

pub returns : goal.returns
unfolding ended_status
returns c =
    let e : outcome_number c.ended_session-ended.result.outcome ≡ left (cause_as c.args.cause) c.args.status = simp (c.ended_session-ended.ensures, c.status_session.ensures) in
    omega (arith, c.join.ensures, c.split-phase.ensures.above, e)
