-- The sizes of the queue: 512 bytes for each of the 128 session numbers.
use Rattle.std.specs.Prelude.{ℕ, ◌*◌, ◌+◌}

abbrev pub slot_size : ℕ
slot_size = 512

abbrev pub queue_size : ℕ
queue_size = 128 * slot_size

-- the room that a turn needs: a header and a slot
abbrev pub turn_room : ℕ
turn_room = 4 + slot_size
