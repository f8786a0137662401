-- A message is taken exactly if the published protocol lets the far end send it now, and is otherwise refused with the number told; a
-- turn serves a session exactly if it is ready.
use mathlib.Core.Path.{◌≡◌, refl, sym, ap, ◌∙◌}
use mathlib.Core.Bool.{Bool, true, false, not, ◌&&◌, true≢false, false≢true}
use mathlib.Core.List.{List}
use Prim.Native.Nat.{ℕ}
use lib.ListN.{take}
use Rattle.laws.specs.Pick.{pick}
use Rattle.laws.proofs.Tests.{not_false, not_true}
use Rattle.ration.specs.declared.Ration.{Ration}
use Rattle.ration.specs.Ration.{in_range, allows, plus}
use Rattle.wire.specs.declared.Role.{Role}
use Rattle.wire.specs.declared.Role.TheVariants as role
use Rattle.state.specs.declared.Side.{Side}
use Rattle.state.specs.declared.Side.TheVariants as side
use Rattle.state.specs.declared.Before.TheVariants as before
use Rattle.state.specs.declared.Sides.{Sides}
use Rattle.state.specs.declared.Sides.TheVariants as sides
use Rattle.state.specs.declared.Outcome.TheVariants as outcome
use Rattle.state.specs.declared.Session.{Session}
use Rattle.protocol.specs.Message.{SessionMessage, data_of, increment_of, abort_of, close_of, acknowledgment_of}
use Rattle.protocol.specs.Session.{after_data, follow, settled}
use Rattle.protocol.specs.Receipt.{data_to, increment_to, abort_to, close_to, aborted, arriving, other, acceptable, receipt}
use Rattle.protocol.specs.Ask.{due, ready_session, ready_in, turn_of, turn_ask}
use Rattle.protocol.specs.Connection.{placed}
use Rattle.protocol.specs.Observed.{wrong_of, wrong_number, ends, Seen, established, permits_theirs, may_open, may_arrive}
use Rattle.protocol.proofs.Plans.{Exactly}
use Rattle.protocol.proofs.Views.{ends_of, sends_of, look}
use Rattle.protocol.proofs.Receipts.{begins, Possible}

-- one check of what may be sent, and nothing more
once : (a : Bool) (n : ℕ) → (not a ≡ true → (a ≡ false) × (n ≡ n)) × (not a ≡ false → a ≡ true)
once a n = ((λ e. (not_true a e, refl)), not_false a)

module _ (r : Role) (own far : Ration) (x : Session) (s : List ℕ) where
  -- what is observed of the session, if its sides were these
  abbrev seen_at : Sides → Seen
  seen_at z = record { standing = ends_of z; sends = sends_of far z (take x.waiting s) x.outbound x.finish; inbound = x.inbound }

  data_exact : (n : ℕ) (close eof ack : Bool) (o : Side)
      → Exactly (permits_theirs (ends o side.Open) (seen_at (sides.Live o side.Open)) (data_of n false close eof ack)) 26 (data_to r x n close o (after_data close eof))
  data_exact n close eof ack side.Ended = refl
  data_exact n close eof ack side.Finished = once (allows x.inbound n) 26
  data_exact n true eof ack side.Open = once (allows x.inbound n) 26
  data_exact n false eof ack side.Open = once (allows x.inbound n) 26

  increment_exact : (n : ℕ) (o t : Side) → established t ≡ true
      → Exactly (permits_theirs (ends o t) (seen_at (sides.Live o t)) (increment_of n)) 27 (increment_to x n o t)
  increment_exact n side.Open side.Open e = once (in_range (plus x.outbound n)) 27
  increment_exact n side.Open side.Finished e = once (in_range (plus x.outbound n)) 27
  increment_exact n side.Open side.Ended e = absurd (false≢true e)
  increment_exact n side.Finished t e = rw e
  increment_exact n side.Ended t e = rw e

  abort_exact : (q : Role) (y : Session) (o : Side) → Exactly true 25 (abort_to q y o side.Ended)
  abort_exact q y side.Open = refl
  abort_exact role.Client y side.Finished = refl
  abort_exact role.Server y side.Finished = refl
  abort_exact q y side.Ended = refl

  close_exact : (y : Session) (o : Side) → Exactly true 25 (close_to r y o side.Ended)
  close_exact y side.Open = refl
  close_exact y side.Finished = refl
  close_exact y side.Ended = refl

  -- a message other than an open Data, to a number with two sides
  arriving_exact : (m : SessionMessage) (o t : Side) → begins m ≡ false
      → Exactly (permits_theirs (ends o t) (seen_at (sides.Live o t)) m) (wrong_of (ends o t) m) (arriving r x m o (follow t m))
  unfolding pick
  arriving_exact (data_of n true close eof ack) o t b = absurd (true≢false b)
  arriving_exact (data_of n false close eof ack) o side.Open b = data_exact n close eof ack o
  arriving_exact (data_of n false close eof ack) o side.Finished b = (refl, refl)
  arriving_exact (data_of n false close eof ack) o side.Ended b = (refl, refl)
  arriving_exact (increment_of n) o side.Open b = increment_exact n o side.Open refl
  arriving_exact (increment_of n) o side.Finished b = increment_exact n o side.Finished refl
  arriving_exact (increment_of n) o side.Ended b = (refl, refl)
  arriving_exact (abort_of p) o side.Open b = abort_exact r (settled (aborted p) x) o
  arriving_exact (abort_of p) o side.Finished b = abort_exact r (settled (aborted p) x) o
  arriving_exact (abort_of p) o side.Ended b = (refl, refl)
  arriving_exact close_of o side.Open b = (refl, refl)
  arriving_exact close_of o side.Finished b = close_exact (settled outcome.Complete x) o
  arriving_exact close_of o side.Ended b = (refl, refl)
  arriving_exact acknowledgment_of o side.Open b = refl
  arriving_exact acknowledgment_of o side.Finished b = refl
  arriving_exact acknowledgment_of o side.Ended b = (refl, refl)

  -- nothing may be sent for a number whose far side is ended, or that was never used
  ended_exact : (m : SessionMessage) (o : Side) (v : Seen) → begins m ≡ false → (permits_theirs (ends o side.Ended) v m ≡ false) × (25 ≡ wrong_of (ends o side.Ended) m)
  unfolding pick
  ended_exact (data_of n true close eof ack) o v b = absurd (true≢false b)
  ended_exact (data_of n false close eof ack) o v b = (refl, refl)
  ended_exact (increment_of n) o v b = (refl, refl)
  ended_exact (abort_of p) o v b = (refl, refl)
  ended_exact close_of o v b = (refl, refl)
  ended_exact acknowledgment_of o v b = (refl, refl)

  other_exact : (m : SessionMessage) (z : Sides) → begins m ≡ false → Exactly (permits_theirs (ends_of z) (seen_at z) m) (wrong_of (ends_of z) m) (other r x m z)
  other_exact m sides.Idle b = (refl, refl)
  other_exact m (sides.Opening before.Idle) b = (refl, refl)
  other_exact m (sides.Opening before.Finished) b = ended_exact m side.Finished (seen_at (sides.Opening before.Finished)) b
  other_exact m (sides.Opening before.Ended) b = ended_exact m side.Ended (seen_at (sides.Opening before.Ended)) b
  other_exact m (sides.Live o t) b = arriving_exact m o t b

acceptable_is : (z : Sides) → placed role.Server true z ≡ true → may_open role.Server (ends_of z) ≡ acceptable z
acceptable_is sides.Idle p = refl
acceptable_is (sides.Opening b) p = absurd (false≢true p)
acceptable_is (sides.Live side.Open t) p = refl
acceptable_is (sides.Live side.Finished t) p = refl
acceptable_is (sides.Live side.Ended side.Open) p = refl
acceptable_is (sides.Live side.Ended side.Finished) p = refl
acceptable_is (sides.Live side.Ended side.Ended) p = refl

-- two checks in a row, the first with 25, the second with 26
twice : (t c a b : Bool) → c ≡ a → t ≡ (c && b)
    → (not a ≡ true → (t ≡ false) × (25 ≡ pick {A = ℕ} c 26 25)) × (not a ≡ false → (not b ≡ true → (t ≡ false) × (26 ≡ pick {A = ℕ} c 26 25)) × (not b ≡ false → t ≡ true))
unfolding pick
twice t c a b q e = (first, second)
  where
    with_c : (d : Bool) → a ≡ d → c ≡ d
    with_c d h = q ∙ h

    first : not a ≡ true → (t ≡ false) × (25 ≡ pick {A = ℕ} c 26 25)
    first h = let z = with_c false (not_true a h) in (e ∙ ap (λ (d : Bool). d && b) z, sym (ap (λ (d : Bool). pick {A = ℕ} d 26 25) z))

    second : not a ≡ false → (not b ≡ true → (t ≡ false) × (26 ≡ pick {A = ℕ} c 26 25)) × (not b ≡ false → t ≡ true)
    second h =
        let z = with_c true (not_false a h) in
        ((λ k. (e ∙ ap (λ (d : Bool). d && b) z ∙ not_true b k, sym (ap (λ (d : Bool). pick {A = ℕ} d 26 25) z))), λ k. e ∙ ap (λ (d : Bool). d && b) z ∙ not_false b k)

-- a message is taken exactly if the published protocol lets the far end send it now
pub receipt_exact : (r : Role) (own far : Ration) (x : Session) (s : List ℕ) (m : SessionMessage) → placed r true x.sides ≡ true → Possible r m
    → Exactly (may_arrive r own (look far x s) m) (wrong_number r (ends_of x.sides) m) (receipt r own far x m)
unfolding receipt
receipt_exact role.Client own far x s (data_of n true close eof ack) p q = absurd (true≢false q)
receipt_exact role.Server own far x s (data_of n true close eof ack) p q =
    twice _ (may_open role.Server (ends_of x.sides)) (acceptable x.sides) (allows own n) (acceptable_is x.sides p) refl
receipt_exact r own far x s (data_of n false close eof ack) p q = other_exact r own far x s (data_of n false close eof ack) x.sides refl
receipt_exact r own far x s (increment_of n) p q = other_exact r own far x s (increment_of n) x.sides refl
receipt_exact r own far x s (abort_of b) p q = other_exact r own far x s (abort_of b) x.sides refl
receipt_exact r own far x s close_of p q = other_exact r own far x s close_of x.sides refl
receipt_exact r own far x s acknowledgment_of p q = other_exact r own far x s acknowledgment_of x.sides refl

-- a turn serves a session exactly if it is ready
pub turn_exact : (own far : Ration) (x : Session) → Exactly (ready_session x) 9 (turn_ask own far x)
unfolding turn_ask ready_session
turn_exact own far x = go x.sides
  where
    go : (z : Sides) → Exactly (ready_in x z) 9 (turn_of own far x z)
    go sides.Idle = (refl, refl)
    go (sides.Opening b) = refl
    go (sides.Live side.Open t) = once (due x.waiting x.outbound x.finish) 9
    go (sides.Live side.Finished t) = (refl, refl)
    go (sides.Live side.Ended t) = (refl, refl)
