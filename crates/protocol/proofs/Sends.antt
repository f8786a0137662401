-- What each rule sends for its session, as it is observed to be due: from the rules. A turn's is in Turns.
use mathlib.Core.Path.{◌≡◌, refl}
use mathlib.Core.Bool.{Bool, true, false}
use mathlib.Core.List.{List, [], ◌∷◌}
use Prim.Native.Nat.{ℕ}
use lib.ListN.{take}
use Rattle.laws.specs.Pick.{pick}
use Rattle.ration.specs.declared.Ration.{Ration}
use Rattle.wire.specs.declared.Role.{Role}
use Rattle.wire.specs.declared.Role.TheVariants as role
use Rattle.state.specs.declared.Side.{Side}
use Rattle.state.specs.declared.Side.TheVariants as side
use Rattle.state.specs.declared.Sides.{Sides}
use Rattle.state.specs.declared.Sides.TheVariants as sides
use Rattle.state.specs.declared.Outcome.TheVariants as outcome
use Rattle.state.specs.declared.Session.{Session}
use Rattle.protocol.specs.Message.{SessionMessage, data_of, increment_of, abort_of, close_of, acknowledgment_of}
use Rattle.protocol.specs.Session.{follow, after_data, settled}
use Rattle.protocol.specs.Receipt.{Taken, aborted, data_to, increment_to, abort_to, close_to, arriving, other, receipt}
use Rattle.protocol.specs.Ask.{open_of, open_ask, put_ask, finish_ask, grant_ask, abort_plan, abort_ask, close_plan, close_ask}
use Rattle.protocol.specs.Observed.{Ends, unused, ends, replies_at}
use Rattle.protocol.specs.Asked.{is_unsent}
use Rattle.protocol.proofs.Plans.{Takes}
use Rattle.protocol.proofs.Views.{ends_of, sends_of, look}

-- the messages that a rule sends if it takes
abbrev pub Sends : List SessionMessage → Taken → Type 0
Sends ms t = t.sent ≡ ms

-- ---- local calls

pub open_sends : (r : Role) (x : Session) → Takes (Sends []) (open_ask r x)
unfolding open_ask
open_sends r x _ = go x.sides
  where
    go : (z : Sides) → Takes (Sends []) (open_of x z)
    go sides.Idle = refl
    go (sides.Opening b) = tt
    go (sides.Live side.Open t) = tt
    go (sides.Live side.Finished side.Open) = tt
    go (sides.Live side.Finished side.Finished) = tt
    go (sides.Live side.Finished side.Ended) = refl
    go (sides.Live side.Ended side.Open) = tt
    go (sides.Live side.Ended side.Finished) = tt
    go (sides.Live side.Ended side.Ended) = refl

pub put_sends : (x : Session) (n : ℕ) → Takes (Sends []) (put_ask x n)
unfolding put_ask
put_sends x n _ _ = refl

pub finish_sends : (x : Session) → Takes (Sends []) (finish_ask x)
unfolding finish_ask
finish_sends x _ = refl

pub grant_sends : (x : Session) (n : ℕ) → Takes (Sends (increment_of n ∷ [])) (grant_ask x n)
unfolding grant_ask
grant_sends x n _ _ _ = refl

-- an opening that is aborted sends nothing
pub abort_sends : (r : Role) (far : Ration) (x : Session) (s : List ℕ) (partial : Bool)
    → Takes (Sends (pick (is_unsent (look far x s).sends) [] (abort_of partial ∷ []))) (abort_ask r x partial)
unfolding abort_ask pick
abort_sends r far x s partial _ = go x.sides
  where
    go : (z : Sides) → Takes (Sends (pick (is_unsent (sends_of far z (take x.waiting s) x.outbound x.finish)) [] (abort_of partial ∷ []))) (abort_plan x partial z)
    go sides.Idle = tt
    go (sides.Opening b) = refl
    go (sides.Live side.Open t) = refl
    go (sides.Live side.Finished side.Open) = refl
    go (sides.Live side.Finished side.Finished) = refl
    go (sides.Live side.Finished side.Ended) = tt
    go (sides.Live side.Ended t) = tt

pub close_sends : (r : Role) (x : Session) → Takes (Sends (close_of ∷ [])) (close_ask r x)
unfolding close_ask
close_sends r x _ = go x.sides
  where
    go : (z : Sides) → Takes (Sends (close_of ∷ [])) (close_plan x z)
    go sides.Idle = tt
    go (sides.Opening b) = tt
    go (sides.Live side.Open t) = tt
    go (sides.Live side.Finished t) = refl
    go (sides.Live side.Ended t) = tt

-- ---- receipts

module _ (x : Session) where
  -- an open Data gets no reply
  open_replies : (r : Role) (n : ℕ) (close eof ack : Bool) (v : Ends) → [] ≡ replies_at r v (data_of n true close eof ack)
  unfolding pick
  open_replies r n close eof ack unused = refl
  open_replies r n close eof ack (ends o t) = refl

  data_replies : (r : Role) (n : ℕ) (close eof ack : Bool) (o t t' : Side) → Takes (Sends (replies_at r (ends o t) (data_of n false close eof ack))) (data_to r x n close o t')
  unfolding pick
  data_replies r n true eof ack side.Ended t t' = refl
  data_replies r n false eof ack side.Ended t t' = refl
  data_replies r n true eof ack side.Finished t t' = λ _. refl
  data_replies r n false eof ack side.Finished t t' = λ _. refl
  data_replies r n true eof ack side.Open t t' = λ _. refl
  data_replies r n false eof ack side.Open t t' = λ _. refl

  increment_replies : (r : Role) (n : ℕ) (o t : Side) → Takes (Sends (replies_at r (ends o t) (increment_of n))) (increment_to x n o t)
  unfolding pick
  increment_replies r n side.Open t = λ _. refl
  increment_replies r n side.Finished t = refl
  increment_replies r n side.Ended t = refl

  abort_replies : (r : Role) (y : Session) (p : Bool) (o t t' : Side) → Takes (Sends (replies_at r (ends o t) (abort_of p))) (abort_to r y o t')
  unfolding pick
  abort_replies role.Client y p side.Open t t' = refl
  abort_replies role.Server y p side.Open t t' = refl
  abort_replies role.Client y p side.Finished t t' = refl
  abort_replies role.Server y p side.Finished t t' = refl
  abort_replies role.Client y p side.Ended t t' = refl
  abort_replies role.Server y p side.Ended t t' = refl

  close_replies : (r : Role) (y : Session) (o t t' : Side) → Takes (Sends (replies_at r (ends o t) close_of)) (close_to r y o t')
  unfolding pick
  close_replies r y side.Open t t' = refl
  close_replies r y side.Finished t t' = refl
  close_replies r y side.Ended t t' = refl

  arriving_replies : (r : Role) (m : SessionMessage) (o t : Side) → Takes (Sends (replies_at r (ends o t) m)) (arriving r x m o (follow t m))
  unfolding pick
  arriving_replies r (data_of n true close eof ack) o side.Open = tt
  arriving_replies r (data_of n true close eof ack) o side.Finished = tt
  arriving_replies r (data_of n true close eof ack) o side.Ended = tt
  arriving_replies r (data_of n false close eof ack) o side.Open = data_replies r n close eof ack o side.Open (after_data close eof)
  arriving_replies r (data_of n false close eof ack) o side.Finished = tt
  arriving_replies r (data_of n false close eof ack) o side.Ended = tt
  arriving_replies r (increment_of n) o side.Open = increment_replies r n o side.Open
  arriving_replies r (increment_of n) o side.Finished = increment_replies r n o side.Finished
  arriving_replies r (increment_of n) o side.Ended = tt
  arriving_replies r (abort_of p) o side.Open = abort_replies r (settled (aborted p) x) p o side.Open side.Ended
  arriving_replies r (abort_of p) o side.Finished = abort_replies r (settled (aborted p) x) p o side.Finished side.Ended
  arriving_replies r (abort_of p) o side.Ended = tt
  arriving_replies r close_of o side.Open = tt
  arriving_replies r close_of o side.Finished = close_replies r (settled outcome.Complete x) o side.Finished side.Ended
  arriving_replies r close_of o side.Ended = tt
  arriving_replies r acknowledgment_of o side.Open = refl
  arriving_replies r acknowledgment_of o side.Finished = refl
  arriving_replies r acknowledgment_of o side.Ended = tt

  other_replies : (r : Role) (m : SessionMessage) (z : Sides) → Takes (Sends (replies_at r (ends_of z) m)) (other r x m z)
  other_replies r m sides.Idle = tt
  other_replies r m (sides.Opening b) = tt
  other_replies r m (sides.Live o t) = arriving_replies r m o t

  pub receipt_sends : (r : Role) (own far : Ration) (m : SessionMessage) → Takes (Sends (replies_at r (ends_of x.sides) m)) (receipt r own far x m)
  unfolding receipt
  receipt_sends r own far (data_of n true close eof ack) = λ _ _. open_replies r n close eof ack (ends_of x.sides)
  receipt_sends r own far (data_of n false close eof ack) = other_replies r (data_of n false close eof ack) x.sides
  receipt_sends r own far (increment_of n) = other_replies r (increment_of n) x.sides
  receipt_sends r own far (abort_of p) = other_replies r (abort_of p) x.sides
  receipt_sends r own far close_of = other_replies r close_of x.sides
  receipt_sends r own far acknowledgment_of = other_replies r acknowledgment_of x.sides
