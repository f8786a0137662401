-- With which numbers the rules refuse: a local call below 20 and not 14, what is received with 25 to 28, by its type. From the rules, written
-- out.
use mathlib.Core.Path.{◌≡◌, refl}
use mathlib.Core.Bool.{Bool, true, false, not, ◌&&◌}
use Prim.Native.Nat.{ℕ}
use lib.Dec.{eqb, ltb}
use Rattle.ration.specs.declared.Ration.{Ration}
use Rattle.wire.specs.declared.Role.{Role}
use Rattle.wire.specs.declared.Role.TheVariants as role
use Rattle.wire.specs.declared.Message.{Message}
use Rattle.state.specs.declared.Side.{Side}
use Rattle.state.specs.declared.Side.TheVariants as side
use Rattle.state.specs.declared.Sides.{Sides}
use Rattle.state.specs.declared.Sides.TheVariants as sides
use Rattle.state.specs.declared.Outcome.TheVariants as outcome
use Rattle.state.specs.declared.Session.{Session}
use Rattle.state.specs.declared.Connection.{Connection}
use Rattle.protocol.specs.Message.{ConnectionMessage, no_operation_of, shutdown_of, error_of, ping_of, ping_ack_of, SessionMessage, data_of, increment_of, abort_of, close_of, acknowledgment_of}
use Rattle.protocol.specs.Session.{Move, to, wrong, follow, settled}
use Rattle.protocol.specs.Receipt.{aborted, data_to, increment_to, abort_to, close_to, arriving, other, receipt}
use Rattle.protocol.specs.Ask.{open_of, open_ask, put_ask, finish_ask, grant_ask, abort_plan, abort_ask, close_plan, close_ask, turn_of, turn_ask}
use Rattle.protocol.specs.Judge.{judge_whole}
use Rattle.protocol.proofs.Plans.{Stops}

-- a number that a check behind the test of the state may refuse with
abbrev pub is_low : ℕ → Bool
is_low n = not (eqb n 14) && ltb n 20

abbrev pub Low : ℕ → Type 0
Low n = is_low n ≡ true

pub open_low : (r : Role) (x : Session) → Stops Low (open_ask r x)
unfolding open_ask
open_low r x = (refl, go x.sides)
  where
    go : (z : Sides) → Stops Low (open_of x z)
    go sides.Idle = tt
    go (sides.Opening b) = refl
    go (sides.Live side.Open t) = refl
    go (sides.Live side.Finished side.Open) = refl
    go (sides.Live side.Finished side.Finished) = refl
    go (sides.Live side.Finished side.Ended) = tt
    go (sides.Live side.Ended side.Open) = refl
    go (sides.Live side.Ended side.Finished) = refl
    go (sides.Live side.Ended side.Ended) = tt

pub put_low : (x : Session) (n : ℕ) → Stops Low (put_ask x n)
unfolding put_ask
put_low x n = (refl, (refl, tt))

pub finish_low : (x : Session) → Stops Low (finish_ask x)
unfolding finish_ask
finish_low x = (refl, tt)

pub grant_low : (x : Session) (n : ℕ) → Stops Low (grant_ask x n)
unfolding grant_ask
grant_low x n = (refl, (refl, (refl, tt)))

pub abort_low : (r : Role) (x : Session) (partial : Bool) → Stops Low (abort_ask r x partial)
unfolding abort_ask
abort_low r x partial = (refl, go x.sides)
  where
    go : (z : Sides) → Stops Low (abort_plan x partial z)
    go sides.Idle = refl
    go (sides.Opening b) = tt
    go (sides.Live side.Open t) = tt
    go (sides.Live side.Finished side.Open) = tt
    go (sides.Live side.Finished side.Finished) = tt
    go (sides.Live side.Finished side.Ended) = refl
    go (sides.Live side.Ended t) = refl

pub close_low : (r : Role) (x : Session) → Stops Low (close_ask r x)
unfolding close_ask
close_low r x = (refl, go x.sides)
  where
    go : (z : Sides) → Stops Low (close_plan x z)
    go sides.Idle = refl
    go (sides.Opening b) = refl
    go (sides.Live side.Open t) = refl
    go (sides.Live side.Finished t) = tt
    go (sides.Live side.Ended t) = refl

pub turn_low : (own far : Ration) (x : Session) → Stops Low (turn_ask own far x)
unfolding turn_ask
turn_low own far x = go x.sides
  where
    go : (z : Sides) → Stops Low (turn_of own far x z)
    go sides.Idle = refl
    go (sides.Opening b) = tt
    go (sides.Live side.Open t) = (refl, tt)
    go (sides.Live side.Finished t) = refl
    go (sides.Live side.Ended t) = refl

-- ---- what is received: 25 of any message of a session, 26 of Data, 27 of an IncrementRation, 28 of a PingAck, and no other number

module _ (P : SessionMessage → ℕ → Type 0) (h25 : (m : SessionMessage) → P m 25)
    (h26 : (n : ℕ) (opens close eof ack : Bool) → P (data_of n opens close eof ack) 26) (h27 : (n : ℕ) → P (increment_of n) 27) (x : Session) where
  data_numbers : (r : Role) (n : ℕ) (opens close eof ack : Bool) (o t : Side) → Stops (P (data_of n opens close eof ack)) (data_to r x n close o t)
  data_numbers r n opens close eof ack side.Ended t = tt
  data_numbers r n opens close eof ack side.Finished t = (h26 n opens close eof ack, tt)
  data_numbers r n opens true eof ack side.Open t = (h26 n opens true eof ack, tt)
  data_numbers r n opens false eof ack side.Open t = (h26 n opens false eof ack, tt)

  increment_numbers : (n : ℕ) (o t : Side) → Stops (P (increment_of n)) (increment_to x n o t)
  increment_numbers n side.Open t = (h27 n, tt)
  increment_numbers n side.Finished t = tt
  increment_numbers n side.Ended t = tt

  abort_numbers : (r : Role) (p : Bool) (y : Session) (o t : Side) → Stops (P (abort_of p)) (abort_to r y o t)
  abort_numbers r p y side.Open t = tt
  abort_numbers role.Client p y side.Finished t = tt
  abort_numbers role.Server p y side.Finished t = tt
  abort_numbers r p y side.Ended t = tt

  close_numbers : (r : Role) (y : Session) (o t : Side) → Stops (P close_of) (close_to r y o t)
  close_numbers r y side.Open t = tt
  close_numbers r y side.Finished t = tt
  close_numbers r y side.Ended t = tt

  arriving_numbers : (r : Role) (m : SessionMessage) (o : Side) (v : Move) → Stops (P m) (arriving r x m o v)
  arriving_numbers r m o wrong = h25 m
  arriving_numbers r (data_of n opens close eof ack) o (to t) = data_numbers r n opens close eof ack o t
  arriving_numbers r (increment_of n) o (to t) = increment_numbers n o t
  arriving_numbers r (abort_of p) o (to t) = abort_numbers r p (settled (aborted p) x) o t
  arriving_numbers r close_of o (to t) = close_numbers r (settled outcome.Complete x) o t
  arriving_numbers r acknowledgment_of o (to t) = tt

  other_numbers : (r : Role) (m : SessionMessage) (z : Sides) → Stops (P m) (other r x m z)
  other_numbers r m sides.Idle = h25 m
  other_numbers r m (sides.Opening b) = h25 m
  other_numbers r m (sides.Live o t) = arriving_numbers r m o (follow t m)

  pub receipt_numbers : (r : Role) (own far : Ration) (m : SessionMessage) → Stops (P m) (receipt r own far x m)
  unfolding receipt
  receipt_numbers r own far (data_of n true close eof ack) = (h25 (data_of n true close eof ack), (h26 n true close eof ack, tt))
  receipt_numbers r own far (data_of n false close eof ack) = other_numbers r (data_of n false close eof ack) x.sides
  receipt_numbers r own far (increment_of n) = other_numbers r (increment_of n) x.sides
  receipt_numbers r own far (abort_of p) = other_numbers r (abort_of p) x.sides
  receipt_numbers r own far close_of = other_numbers r close_of x.sides
  receipt_numbers r own far acknowledgment_of = other_numbers r acknowledgment_of x.sides

pub whole_numbers : (P : ConnectionMessage → ℕ → Type 0) → ((k : ℕ) → P (ping_ack_of k) 28) → (c : Connection) (m : Message) (w : ConnectionMessage)
    → Stops (P w) (judge_whole c m w)
whole_numbers P h28 c m no_operation_of = tt
whole_numbers P h28 c m shutdown_of = tt
whole_numbers P h28 c m error_of = tt
whole_numbers P h28 c m (ping_of k) = tt
whole_numbers P h28 c m (ping_ack_of k) = (h28 k, tt)
