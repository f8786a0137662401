-- The sizes of the queue and of the room of a turn in numbers, how much a put may add, and where the slot of a number is: from the definitions.
use mathlib.Core.Path.{◌≡◌, refl}
use mathlib.Core.Bool.{Bool, false}
use mathlib.Core.List.{List, ◌++◌}
use Prim.Native.Nat.{ℕ, ◌+◌, ◌*◌, ◌-◌}
use lib.ListN.{length, take, drop, replicate}
use lib.Dec.{leb}
use Rattle.ration.specs.declared.Ration.{Ration}
use Rattle.protocol.specs.Slot.{slot_size, queue_size, turn_room}
use Rattle.protocol.specs.Queue.{slot, with_slot, put_slot, turn_slot}
use Rattle.protocol.specs.Observed.{sending}
use Rattle.protocol.specs.Asked.{may_put}

pub sizes : (slot_size ≡ 512) × (queue_size ≡ 65_536) × (turn_room ≡ 516)
sizes = (refl, refl, refl)

-- with the bytes of a put at most 512 wait
pub put_within : (unsent : Bool) (waiting : List ℕ) (r : Ration) (n : ℕ) → may_put (sending unsent waiting r false) n ≡ leb (length waiting + n) 512
put_within unsent waiting r n = refl

-- number n has the 512 bytes from n times 512 on
pub slot_stands : (n : ℕ) (queue : List ℕ) → slot n queue ≡ take 512 (drop (n * 512) queue)
slot_stands n queue = refl

pub with_slot_stands : (n : ℕ) (s queue : List ℕ) → with_slot n s queue ≡ take (n * 512) queue ++ s ++ drop (n * 512 + 512) queue
with_slot_stands n s queue = refl

-- a put sets its bytes behind those that wait, a turn removes the first n that wait; zeros follow up to 512
pub put_stands : (waiting : ℕ) (bytes s : List ℕ)
    → put_slot waiting bytes s ≡ (take waiting s ++ bytes) ++ replicate (512 - length (take waiting s ++ bytes)) 0
put_stands waiting bytes s = refl

pub turn_stands : (waiting n : ℕ) (s : List ℕ)
    → turn_slot waiting n s ≡ take (waiting - n) (drop n s) ++ replicate (512 - length (take (waiting - n) (drop n s))) 0
turn_stands waiting n s = refl
