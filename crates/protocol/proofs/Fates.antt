-- What each rule does to a session's outcome is what is told of its fate: from the rules.
use mathlib.Core.Path.{◌≡◌, refl, ap, ◌∙◌}
use mathlib.Core.Bool.{Bool, true, false}
use mathlib.Core.List.{List}
use Prim.Native.Nat.{ℕ}
use lib.ListN.{take}
use Rattle.laws.specs.Pick.{pick}
use Rattle.ration.specs.declared.Ration.{Ration}
use Rattle.wire.specs.declared.Role.{Role}
use Rattle.wire.specs.declared.Role.TheVariants as role
use Rattle.state.specs.declared.Side.{Side}
use Rattle.state.specs.declared.Side.TheVariants as side
use Rattle.state.specs.declared.Before.TheVariants as before
use Rattle.state.specs.declared.Sides.{Sides}
use Rattle.state.specs.declared.Sides.TheVariants as sides
use Rattle.state.specs.declared.Outcome.{Outcome}
use Rattle.state.specs.declared.Outcome.TheVariants as outcome
use Rattle.state.specs.declared.Session.{Session}
use Rattle.protocol.specs.Message.{SessionMessage, data_of, increment_of, abort_of, close_of, acknowledgment_of}
use Rattle.protocol.specs.Session.{follow, becomes, settled}
use Rattle.protocol.specs.Receipt.{Taken, aborted, data_to, increment_to, abort_to, close_to, arriving, other, receipt}
use Rattle.protocol.specs.Ask.{open_of, open_ask, put_ask, finish_ask, grant_ask, abort_plan, abort_ask, close_plan, close_ask, turn_of, turn_ask}
use Rattle.protocol.specs.Connection.{Cause, shutdown_received, error_received, own_shutdown, line_lost, unless_sent, unless_finished, ending}
use Rattle.protocol.specs.Observed.{Event, opens, aborts, received}
use Rattle.protocol.specs.Asked.{is_unsent}
use Rattle.protocol.specs.Fate.{complete, fate_of, if_running, unless_unsent, by_partial, fate_after, Ended, by_shutdown, by_error, by_own_shutdown, by_lost_line, far_finished, fate_ended}
use Rattle.protocol.proofs.Plans.{Takes}
use Rattle.protocol.proofs.Views.{ends_of, sends_of, look}

becomes_is : (o n : Outcome) → fate_of (becomes o n) ≡ if_running (fate_of o) (fate_of n)
becomes_is outcome.None n = refl
becomes_is outcome.Running n = refl
becomes_is outcome.Complete n = refl
becomes_is outcome.MayRetry n = refl
becomes_is outcome.MustNotRetry n = refl

-- the fate of what is taken, by the event that tells it, and where nothing is told
abbrev pub Fated : Bool → Session → Event → Taken → Type 0
Fated unsent x e t = fate_of t.session.outcome ≡ fate_after unsent (fate_of x.outcome) e

abbrev pub Unfated : Session → Taken → Type 0
Unfated x t = fate_of t.session.outcome ≡ fate_of x.outcome

-- ---- local calls

pub open_fate : (r : Role) (x : Session) (unsent : Bool) → Takes (Fated unsent x opens) (open_ask r x)
unfolding open_ask
open_fate r x unsent _ = go x.sides
  where
    go : (z : Sides) → Takes (Fated unsent x opens) (open_of x z)
    go sides.Idle = refl
    go (sides.Opening b) = tt
    go (sides.Live side.Open t) = tt
    go (sides.Live side.Finished side.Open) = tt
    go (sides.Live side.Finished side.Finished) = tt
    go (sides.Live side.Finished side.Ended) = refl
    go (sides.Live side.Ended side.Open) = tt
    go (sides.Live side.Ended side.Finished) = tt
    go (sides.Live side.Ended side.Ended) = refl

pub put_fate : (x : Session) (n : ℕ) → Takes (Unfated x) (put_ask x n)
unfolding put_ask
put_fate x n _ _ = refl

pub finish_fate : (x : Session) → Takes (Unfated x) (finish_ask x)
unfolding finish_ask
finish_fate x _ = refl

pub grant_fate : (x : Session) (n : ℕ) → Takes (Unfated x) (grant_ask x n)
unfolding grant_ask
grant_fate x n _ _ _ = refl

pub abort_fate : (r : Role) (far : Ration) (x : Session) (s : List ℕ) (partial : Bool) → Takes (Fated (is_unsent (look far x s).sends) x aborts) (abort_ask r x partial)
unfolding abort_ask
abort_fate r far x s partial _ = go x.sides
  where
    go : (z : Sides) → Takes (Fated (is_unsent (sends_of far z (take x.waiting s) x.outbound x.finish)) x aborts) (abort_plan x partial z)
    go sides.Idle = tt
    go (sides.Opening b) = becomes_is x.outcome outcome.MayRetry
    go (sides.Live side.Open t) = becomes_is x.outcome outcome.MustNotRetry
    go (sides.Live side.Finished side.Open) = becomes_is x.outcome outcome.MustNotRetry
    go (sides.Live side.Finished side.Finished) = becomes_is x.outcome outcome.MustNotRetry
    go (sides.Live side.Finished side.Ended) = tt
    go (sides.Live side.Ended t) = tt

pub close_fate : (r : Role) (x : Session) → Takes (Unfated x) (close_ask r x)
unfolding close_ask
close_fate r x _ = go x.sides
  where
    go : (z : Sides) → Takes (Unfated x) (close_plan x z)
    go sides.Idle = tt
    go (sides.Opening b) = tt
    go (sides.Live side.Open t) = tt
    go (sides.Live side.Finished t) = refl
    go (sides.Live side.Ended t) = tt

pub turn_fate : (own far : Ration) (x : Session) → Takes (Unfated x) (turn_ask own far x)
unfolding turn_ask
turn_fate own far x = go x.sides
  where
    go : (z : Sides) → Takes (Unfated x) (turn_of own far x z)
    go sides.Idle = tt
    go (sides.Opening b) = refl
    go (sides.Live side.Open t) = λ _. refl
    go (sides.Live side.Finished t) = tt
    go (sides.Live side.Ended t) = tt

-- ---- receipts

module _ (x : Session) (unsent : Bool) where
  data_fate : (r : Role) (n : ℕ) (close eof ack : Bool) (o t : Side) → Takes (Fated unsent x (received (data_of n false close eof ack))) (data_to r x n close o t)
  data_fate r n true eof ack side.Ended t = becomes_is x.outcome outcome.Complete
  data_fate r n false eof ack side.Ended t = refl
  data_fate r n true eof ack side.Finished t = λ _. becomes_is x.outcome outcome.Complete
  data_fate r n false eof ack side.Finished t = λ _. refl
  data_fate r n true eof ack side.Open t = λ _. becomes_is x.outcome outcome.Complete
  data_fate r n false eof ack side.Open t = λ _. refl

  increment_fate : (n : ℕ) (o t : Side) → Takes (Fated unsent x (received (increment_of n))) (increment_to x n o t)
  increment_fate n side.Open t = λ _. refl
  increment_fate n side.Finished t = refl
  increment_fate n side.Ended t = refl

  aborted_is : (p : Bool) → fate_of (becomes x.outcome (aborted p)) ≡ if_running (fate_of x.outcome) (by_partial p)
  aborted_is true = becomes_is x.outcome outcome.MustNotRetry
  aborted_is false = becomes_is x.outcome outcome.MayRetry

  abort_received : (r : Role) (p : Bool) (o t : Side) → Takes (Fated unsent x (received (abort_of p))) (abort_to r (settled (aborted p) x) o t)
  abort_received r p side.Open t = aborted_is p
  abort_received role.Client p side.Finished t = aborted_is p
  abort_received role.Server p side.Finished t = aborted_is p
  abort_received r p side.Ended t = aborted_is p

  close_received : (r : Role) (o t : Side) → Takes (Fated unsent x (received close_of)) (close_to r (settled outcome.Complete x) o t)
  close_received r side.Open t = becomes_is x.outcome outcome.Complete
  close_received r side.Finished t = becomes_is x.outcome outcome.Complete
  close_received r side.Ended t = becomes_is x.outcome outcome.Complete

  arriving_fate : (r : Role) (m : SessionMessage) (o t : Side) → Takes (Fated unsent x (received m)) (arriving r x m o (follow t m))
  arriving_fate r (data_of n true close eof ack) o side.Open = tt
  arriving_fate r (data_of n true close eof ack) o side.Finished = tt
  arriving_fate r (data_of n true close eof ack) o side.Ended = tt
  arriving_fate r (data_of n false close eof ack) o side.Open = data_fate r n close eof ack o _
  arriving_fate r (data_of n false close eof ack) o side.Finished = tt
  arriving_fate r (data_of n false close eof ack) o side.Ended = tt
  arriving_fate r (increment_of n) o side.Open = increment_fate n o side.Open
  arriving_fate r (increment_of n) o side.Finished = increment_fate n o side.Finished
  arriving_fate r (increment_of n) o side.Ended = tt
  arriving_fate r (abort_of p) o side.Open = abort_received r p o side.Ended
  arriving_fate r (abort_of p) o side.Finished = abort_received r p o side.Ended
  arriving_fate r (abort_of p) o side.Ended = tt
  arriving_fate r close_of o side.Open = tt
  arriving_fate r close_of o side.Finished = close_received r o side.Ended
  arriving_fate r close_of o side.Ended = tt
  arriving_fate r acknowledgment_of o side.Open = refl
  arriving_fate r acknowledgment_of o side.Finished = refl
  arriving_fate r acknowledgment_of o side.Ended = tt

  other_fate : (r : Role) (m : SessionMessage) (z : Sides) → Takes (Fated unsent x (received m)) (other r x m z)
  other_fate r m sides.Idle = tt
  other_fate r m (sides.Opening b) = tt
  other_fate r m (sides.Live o t) = arriving_fate r m o t

  pub receipt_fate : (r : Role) (own far : Ration) (m : SessionMessage) → Takes (Fated unsent x (received m)) (receipt r own far x m)
  unfolding receipt
  receipt_fate r own far (data_of n true close eof ack) = λ _ _. refl
  receipt_fate r own far (data_of n false close eof ack) = other_fate r (data_of n false close eof ack) x.sides
  receipt_fate r own far (increment_of n) = other_fate r (increment_of n) x.sides
  receipt_fate r own far (abort_of p) = other_fate r (abort_of p) x.sides
  receipt_fate r own far close_of = other_fate r close_of x.sides
  receipt_fate r own far acknowledgment_of = other_fate r acknowledgment_of x.sides

-- ---- the end of the connection

abbrev pub ended_by : Cause → Ended
ended_by shutdown_received = by_shutdown
ended_by error_received = by_error
ended_by own_shutdown = by_own_shutdown
ended_by line_lost = by_lost_line

module _ (far : Ration) (x : Session) (s : List ℕ) where
  unsent_is : (z : Sides) → fate_of (unless_sent z) ≡ unless_unsent (is_unsent (sends_of far z (take x.waiting s) x.outbound x.finish))
  unsent_is sides.Idle = refl
  unsent_is (sides.Opening b) = refl
  unsent_is (sides.Live side.Open t) = refl
  unsent_is (sides.Live side.Finished t) = refl
  unsent_is (sides.Live side.Ended t) = refl

  finished_is : (z : Sides)
      → fate_of (unless_finished z) ≡ pick (far_finished (ends_of z)) complete (unless_unsent (is_unsent (sends_of far z (take x.waiting s) x.outbound x.finish)))
  unfolding pick
  finished_is sides.Idle = refl
  finished_is (sides.Opening before.Idle) = refl
  finished_is (sides.Opening before.Finished) = refl
  finished_is (sides.Opening before.Ended) = refl
  finished_is (sides.Live o side.Open) = unsent_is (sides.Live o side.Open)
  finished_is (sides.Live o side.Finished) = refl
  finished_is (sides.Live o side.Ended) = unsent_is (sides.Live o side.Ended)

  pub ending_fate : (cause : Cause) → fate_of (ending cause x).outcome ≡ fate_ended (look far x s) (ended_by cause) (fate_of x.outcome)
  ending_fate shutdown_received = becomes_is x.outcome outcome.MayRetry
  ending_fate error_received = becomes_is x.outcome (unless_finished x.sides) ∙ ap (if_running (fate_of x.outcome)) (finished_is x.sides)
  ending_fate own_shutdown = refl
  ending_fate line_lost = becomes_is x.outcome (unless_sent x.sides) ∙ ap (if_running (fate_of x.outcome)) (unsent_is x.sides)
