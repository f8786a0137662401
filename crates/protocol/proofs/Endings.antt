-- What ends a connection, and what each end makes of a session, in outcomes alone, for every pair of sides: from the rules.
use mathlib.Core.Path.{◌≡◌, refl}
use mathlib.Core.Bool.{false}
use mathlib.Core.List.{[]}
use Prim.Native.Nat.{ℕ}
use Rattle.laws.specs.Result.{Fault}
use Rattle.wire.specs.declared.Message.TheVariants as msg
use Rattle.state.specs.declared.Side.{Side}
use Rattle.state.specs.declared.Side.TheVariants as side
use Rattle.state.specs.declared.Before.{Before}
use Rattle.state.specs.declared.Sides.{Sides}
use Rattle.state.specs.declared.Sides.TheVariants as sides
use Rattle.state.specs.declared.Outcome.{Outcome}
use Rattle.state.specs.declared.Outcome.TheVariants as outcome
use Rattle.state.specs.declared.Session.{Session}
use Rattle.state.specs.declared.Connection.{Connection}
use Rattle.state.specs.With.{with_sides, with_outcome}
use Rattle.protocol.specs.Connection.{Cause, shutdown_received, error_received, own_shutdown, line_lost, ending}
use Rattle.protocol.specs.Plan.{take, settle}
use Rattle.protocol.specs.Judge.{done, message, ends_by, error_after, violate, accept, breach, judge}
use Rattle.protocol.specs.Call.{running, lost_rule}

-- a session with these sides and the first outcome has the second one afterwards, whatever else it holds
abbrev Leaves : Cause → Sides → Outcome → Outcome → Type 0
Leaves cause z before after = (x : Session) → (ending cause (with_outcome before (with_sides z x))).outcome ≡ after

-- ---- an outcome that does not run stays

abbrev Stays : Cause → Sides → Outcome → Type 0
Stays cause z o = Leaves cause z o o

pub others_stay : (cause : Cause) (z : Sides)
    → Stays cause z outcome.None × Stays cause z outcome.Complete × Stays cause z outcome.MayRetry × Stays cause z outcome.MustNotRetry
others_stay shutdown_received z = (λ _. refl, λ _. refl, λ _. refl, λ _. refl)
others_stay error_received z = (λ _. refl, λ _. refl, λ _. refl, λ _. refl)
others_stay own_shutdown z = (λ _. refl, λ _. refl, λ _. refl, λ _. refl)
others_stay line_lost z = (λ _. refl, λ _. refl, λ _. refl, λ _. refl)

-- ---- an outcome that runs

pub error_finished : (o : Side) → Leaves error_received (sides.Live o side.Finished) outcome.Running outcome.Complete
error_finished o x = refl

pub error_open : (o : Side) → Leaves error_received (sides.Live o side.Open) outcome.Running outcome.MustNotRetry
error_open o x = refl

pub error_opening : (b : Before) → Leaves error_received (sides.Opening b) outcome.Running outcome.MayRetry
error_opening b x = refl

pub lost_sent : (o t : Side) → Leaves line_lost (sides.Live o t) outcome.Running outcome.MustNotRetry
lost_sent o t x = refl

pub lost_opening : (b : Before) → Leaves line_lost (sides.Opening b) outcome.Running outcome.MayRetry
lost_opening b x = refl

pub shutdown_any : (z : Sides) → Leaves shutdown_received z outcome.Running outcome.MayRetry
shutdown_any z x = refl

pub own_shutdown_leaves : (x : Session) → ending own_shutdown x ≡ x
own_shutdown_leaves x = refl

-- in no history does a number run that is idle or whose far side is ended: it counts as sent
pub error_ended : (o : Side) → Leaves error_received (sides.Live o side.Ended) outcome.Running outcome.MustNotRetry
error_ended o x = refl

pub error_idle : Leaves error_received sides.Idle outcome.Running outcome.MustNotRetry
error_idle x = refl

pub lost_idle : Leaves line_lost sides.Idle outcome.Running outcome.MustNotRetry
lost_idle x = refl

-- ---- which end it is: of every connection, a message of any length, a violation of any number and place

pub error_ends : (c : Connection) (length : ℕ)
    → judge c (msg.Error length) ≡ accept (ends_by c error_received (message (msg.Error length) false) [])
unfolding judge settle
error_ends c length = refl

pub shutdown_ends : (c : Connection) (length : ℕ)
    → judge c (msg.Shutdown length) ≡ accept (ends_by c shutdown_received (message (msg.Shutdown length) false) [])
unfolding judge settle
shutdown_ends c length = refl

pub violation_ends : (c : Connection) (f : Fault)
    → breach c f ≡ violate (record { fault = f; cause = line_lost; reply = error_after c.stage c.own })
violation_ends c f = refl

pub lost_ends : (c : Connection) → lost_rule c ≡ running c (take (ends_by c line_lost done []))
unfolding lost_rule
lost_ends c = refl
