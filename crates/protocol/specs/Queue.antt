-- The queue: what put and turn do to the slot that they serve, and to nothing else.
use Rattle.std.specs.Prelude.{ℕ, ◌+◌, ◌-◌, ◌*◌, List, ◌++◌, length, take, drop, replicate}
use Rattle.protocol.specs.Slot.{slot_size}

-- the slot of a number; waiting bytes are first in it
abbrev pub slot : ℕ → List ℕ → List ℕ
slot n queue = take slot_size (drop (n * slot_size) queue)

-- the queue with another slot for a number
abbrev pub with_slot : ℕ → List ℕ → List ℕ → List ℕ
with_slot n s queue = take (n * slot_size) queue ++ s ++ drop (n * slot_size + slot_size) queue

-- bytes, and zeros to the slot's end
abbrev pub padded : List ℕ → List ℕ
padded bytes = bytes ++ replicate (slot_size - length bytes) 0

-- a put: the bytes go behind those that wait
abbrev pub after_put : ℕ → List ℕ → List ℕ → List ℕ
after_put waiting bytes s = take waiting s ++ bytes

abbrev pub put_slot : ℕ → List ℕ → List ℕ → List ℕ
put_slot waiting bytes s = padded (after_put waiting bytes s)

-- a turn: the first n waiting bytes are gone, and the others move to the front
abbrev pub after_turn : ℕ → ℕ → List ℕ → List ℕ
after_turn waiting n s = take (waiting - n) (drop n s)

abbrev pub turn_slot : ℕ → ℕ → List ℕ → List ℕ
turn_slot waiting n s = padded (after_turn waiting n s)
