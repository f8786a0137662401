-- Bytes written at the front of a lent room.
use Rattle.std.specs.Prelude.{ℕ, List, ◌++◌, length, drop, leb}
use Rattle.laws.specs.Pick.{pick}

-- bytes written over the front of a room; the room past them stays as lent
abbrev pub overlaid : List ℕ → List ℕ → List ℕ
overlaid bytes room = bytes ++ drop (length bytes) room

-- how many bytes are written, and the room after them; a room that is too small stays as lent
unfoldable pub at_front : List ℕ → List ℕ → ℕ × List ℕ
at_front bytes room = pick (leb (length bytes) (length room)) (length bytes, overlaid bytes room) (0, room)
