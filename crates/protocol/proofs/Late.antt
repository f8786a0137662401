-- A message is reported late exactly if it crossed our eof, Abort or Close, as observed: from the rules.
use mathlib.Core.Path.{◌≡◌, refl}
use mathlib.Core.Bool.{Bool, true, false}
use Prim.Native.Nat.{ℕ}
use Rattle.ration.specs.declared.Ration.{Ration}
use Rattle.wire.specs.declared.Role.{Role}
use Rattle.wire.specs.declared.Role.TheVariants as role
use Rattle.state.specs.declared.Side.{Side}
use Rattle.state.specs.declared.Side.TheVariants as side
use Rattle.state.specs.declared.Sides.{Sides}
use Rattle.state.specs.declared.Sides.TheVariants as sides
use Rattle.state.specs.declared.Outcome.TheVariants as outcome
use Rattle.state.specs.declared.Session.{Session}
use Rattle.protocol.specs.Message.{SessionMessage, data_of, increment_of, abort_of, close_of, acknowledgment_of}
use Rattle.protocol.specs.Session.{follow, after_data, settled}
use Rattle.protocol.specs.Receipt.{Taken, aborted, data_to, increment_to, abort_to, close_to, arriving, other, receipt}
use Rattle.protocol.specs.Observed.{Ends, unused, ends, late_for}
use Rattle.protocol.proofs.Plans.{Takes}
use Rattle.protocol.proofs.Views.{ends_of}

abbrev pub Marked : Ends → SessionMessage → Taken → Type 0
Marked v m t = t.late ≡ late_for v m

open_late : (v : Ends) (n : ℕ) (close eof ack : Bool) → false ≡ late_for v (data_of n true close eof ack)
open_late unused n close eof ack = refl
open_late (ends o t) n close eof ack = refl

module _ (r : Role) (x : Session) where
  data_late : (n : ℕ) (close eof ack : Bool) (o t t' : Side) → Takes (Marked (ends o t) (data_of n false close eof ack)) (data_to r x n close o t')
  data_late n close eof ack side.Ended t t' = refl
  data_late n close eof ack side.Finished t t' = λ _. refl
  data_late n true eof ack side.Open t t' = λ _. refl
  data_late n false eof ack side.Open t t' = λ _. refl

  increment_late : (n : ℕ) (o t : Side) → Takes (Marked (ends o t) (increment_of n)) (increment_to x n o t)
  increment_late n side.Open t = λ _. refl
  increment_late n side.Finished t = refl
  increment_late n side.Ended t = refl

  abort_late : (q : Role) (y : Session) (p : Bool) (o t t' : Side) → Takes (Marked (ends o t) (abort_of p)) (abort_to q y o t')
  abort_late q y p side.Open t t' = refl
  abort_late role.Client y p side.Finished t t' = refl
  abort_late role.Server y p side.Finished t t' = refl
  abort_late q y p side.Ended t t' = refl

  close_late : (y : Session) (o t t' : Side) → Takes (Marked (ends o t) close_of) (close_to r y o t')
  close_late y side.Open t t' = refl
  close_late y side.Finished t t' = refl
  close_late y side.Ended t t' = refl

  arriving_late : (m : SessionMessage) (o t : Side) → Takes (Marked (ends o t) m) (arriving r x m o (follow t m))
  arriving_late (data_of n true close eof ack) o side.Open = tt
  arriving_late (data_of n true close eof ack) o side.Finished = tt
  arriving_late (data_of n true close eof ack) o side.Ended = tt
  arriving_late (data_of n false close eof ack) o side.Open = data_late n close eof ack o side.Open (after_data close eof)
  arriving_late (data_of n false close eof ack) o side.Finished = tt
  arriving_late (data_of n false close eof ack) o side.Ended = tt
  arriving_late (increment_of n) o side.Open = increment_late n o side.Open
  arriving_late (increment_of n) o side.Finished = increment_late n o side.Finished
  arriving_late (increment_of n) o side.Ended = tt
  arriving_late (abort_of p) o side.Open = abort_late r (settled (aborted p) x) p o side.Open side.Ended
  arriving_late (abort_of p) o side.Finished = abort_late r (settled (aborted p) x) p o side.Finished side.Ended
  arriving_late (abort_of p) o side.Ended = tt
  arriving_late close_of o side.Open = tt
  arriving_late close_of o side.Finished = close_late (settled outcome.Complete x) o side.Finished side.Ended
  arriving_late close_of o side.Ended = tt
  arriving_late acknowledgment_of o side.Open = refl
  arriving_late acknowledgment_of o side.Finished = refl
  arriving_late acknowledgment_of o side.Ended = tt

  other_late : (m : SessionMessage) (z : Sides) → Takes (Marked (ends_of z) m) (other r x m z)
  other_late m sides.Idle = tt
  other_late m (sides.Opening b) = tt
  other_late m (sides.Live o t) = arriving_late m o t

  pub receipt_late : (own far : Ration) (m : SessionMessage) → Takes (Marked (ends_of x.sides) m) (receipt r own far x m)
  unfolding receipt
  receipt_late own far (data_of n true close eof ack) = λ _ _. open_late (ends_of x.sides) n close eof ack
  receipt_late own far (data_of n false close eof ack) = other_late (data_of n false close eof ack) x.sides
  receipt_late own far (increment_of n) = other_late (increment_of n) x.sides
  receipt_late own far (abort_of p) = other_late (abort_of p) x.sides
  receipt_late own far close_of = other_late close_of x.sides
  receipt_late own far acknowledgment_of = other_late acknowledgment_of x.sides
