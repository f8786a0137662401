-- The queue after a put and after a turn, if the slot can be served; otherwise the queue as it was.
use Rattle.std.specs.Prelude.{ℕ, ◌-◌, Bool, ◌&&◌, List, eqb, ltb, leb, length}
use Rattle.laws.specs.Pick.{pick}
use Rattle.protocol.specs.Slot.{slot_size, queue_size}
use Rattle.protocol.specs.Queue.{slot, with_slot, put_slot, turn_slot}

-- the queue has its length, the number is a session number, and no more bytes wait than a slot holds
abbrev pub servable : ℕ → ℕ → ℕ → Bool
servable queue n waiting = eqb queue queue_size && ltb n 128 && leb waiting slot_size

unfoldable pub put_into : List ℕ → ℕ → ℕ → List ℕ → List ℕ
put_into queue n waiting bytes =
    pick (servable (length queue) n waiting)
    (pick (leb (length bytes) (slot_size - waiting)) (with_slot n (put_slot waiting bytes (slot n queue)) queue) queue) queue

unfoldable pub taken_from : List ℕ → ℕ → ℕ → ℕ → List ℕ
taken_from queue n waiting count =
    pick (servable (length queue) n waiting)
    (pick (leb count waiting) (with_slot n (turn_slot waiting count (slot n queue)) queue) queue) queue
