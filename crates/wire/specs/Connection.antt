-- The header that each direction begins with, by the published layout tables, which are the same for both ends.
use Rattle.std.specs.Prelude.{ℕ, ◌/◌, ◌%◌, List, [], ◌∷◌, ◌++◌, length, take, drop, ltb, leb}
use Rattle.laws.specs.Pick.{pick}
use Rattle.laws.specs.Result.{fault, Result, ok, refused, violation}
use Rattle.wire.specs.Pattern.{O, I, x, bits}
use Rattle.wire.specs.Layout.{LayoutRow, row, fixed, first_wrong, digits, magic, version, initial_ration, reserved}

abbrev pub connection_layout : List LayoutRow
connection_layout =
    row 0 (bits O I O O I O I O) magic
    ∷ row 1 (bits O I I O I I O I) magic
    ∷ row 2 (bits O I I I O I O I) magic
    ∷ row 3 (bits O I I I I O O O) magic
    ∷ row 4 (bits O O O O O O O I) version
    ∷ row 5 (bits x x x x x x x x) initial_ration
    ∷ row 6 (bits x x x x x x x x) initial_ration
    ∷ row 7 (bits O O O O O O O O) reserved
    ∷ []

-- what the eight bytes say: the header number, or 22 at the first byte that is not as the layout fixes it
unfoldable pub parse_connection_header : List ℕ → Result ℕ
parse_connection_header header =
    pick (fixed connection_layout header) (ok (digits initial_ration connection_layout header 0))
    (violation (fault 22 (first_wrong connection_layout header)))

-- what is at the front of the input: 10 for fewer than 8 bytes
unfoldable pub read_connection_header : List ℕ → Result ℕ
read_connection_header s = pick (ltb (length s) 8) (refused 10) (parse_connection_header (take 8 s))

-- "Jmux", version 1, the number, 0
abbrev pub connection_header : ℕ → List ℕ
connection_header n = 0x4A ∷ 0x6D ∷ 0x75 ∷ 0x78 ∷ 0x01 ∷ n / 256 ∷ n % 256 ∷ 0x00 ∷ []

-- what a writer answers, with its room: 8 for too little room
unfoldable pub write_connection_header : ℕ → List ℕ → Result ℕ × List ℕ
write_connection_header n room = pick (leb 8 (length room)) (ok 8, connection_header n ++ drop 8 room) (refused 8, room)
