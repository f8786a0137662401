-- The published layout tables: which bits of a header are reserved, and which hold each item.
use Rattle.std.specs.Prelude.{ℕ, List, [], ◌∷◌, Bool, true, false, ◌&&◌, ◌||◌, get_or, eqb}
use Rattle.laws.specs.Pick.{pick}
use Rattle.wire.specs.Pattern.{Bit, O, I, x, -, bits, fits, with_bits}
use Rattle.wire.specs.declared.Kind.{Kind}
use Rattle.wire.specs.declared.Kind.TheVariants as kind
use Rattle.wire.specs.declared.Message.{Message}
use Rattle.wire.specs.declared.Message.TheVariants.{NoOperation, Shutdown, Ping, PingAck, Error, IncrementRation, Abort, Close, Acknowledgment, Data}

-- what a row describes: bits that are fixed, or an item under its published name (`opens` is open, a reserved word here;
-- `body` is data or detail)
pub data Item : Type 0 where
  identifier reserved length cookie shift increment session_id partial opens close eof ack_required : Item
  body magic version initial_ration : Item

-- a number for each item, by which items are compared
abbrev number : Item → ℕ
number identifier = 0
number reserved = 1
number length = 2
number cookie = 3
number shift = 4
number increment = 5
number session_id = 6
number partial = 7
number opens = 8
number close = 9
number eof = 10
number ack_required = 11
number body = 12
number magic = 13
number version = 14
number initial_ration = 15

pub record LayoutRow : Type 0 where
  pub offset : ℕ
  pub pattern : List Bit
  pub item : Item

abbrev pub row : ℕ → List Bit → Item → LayoutRow
row at p i = record { offset = at; pattern = p; item = i }

-- bytes 2 and 3, one item
abbrev wide : List Bit → Item → List LayoutRow → List LayoutRow
wide p i rows = row 2 p i ∷ row 3 p i ∷ rows

-- a length in bytes 2 and 3, and from byte 4 on that many bytes
abbrev length_and_body : List LayoutRow
length_and_body = wide (bits x x x x x x x x) length (row 4 [] body ∷ [])

-- a session identifier is in a byte with its top bit reserved
abbrev session : List LayoutRow → List LayoutRow
session rows = row 1 (bits O - - - - - - -) reserved ∷ row 1 (bits - x x x x x x x) session_id ∷ rows

-- the layout of a message that pertains to the connection as a whole
abbrev whole : List Bit → List LayoutRow → List LayoutRow
whole first rows = row 0 first identifier ∷ row 1 (bits O O O O O O O O) reserved ∷ rows

abbrev pub layout : Kind → List LayoutRow
layout kind.NoOperation = whole (bits O O O O O O O O) length_and_body
layout kind.Shutdown = whole (bits O O O O O O I O) length_and_body
layout kind.Ping = whole (bits O O O O O I O O) (wide (bits x x x x x x x x) cookie [])
layout kind.PingAck = whole (bits O O O O O I I O) (wide (bits x x x x x x x x) cookie [])
layout kind.Error = whole (bits O O O O I O O O) length_and_body
layout kind.IncrementRation =
    row 0 (bits O O O I - - - -) identifier
    ∷ row 0 (bits - - - - x x x -) shift
    ∷ row 0 (bits - - - - - - - O) reserved
    ∷ session (wide (bits x x x x x x x x) increment [])
layout kind.Abort =
    row 0 (bits O O I O O O - -) identifier
    ∷ row 0 (bits - - - - - - x -) partial
    ∷ row 0 (bits - - - - - - - O) reserved
    ∷ session length_and_body
layout kind.Close = row 0 (bits O O I I O O O O) identifier ∷ session (wide (bits O O O O O O O O) reserved [])
layout kind.Acknowledgment = row 0 (bits O I O O O O O O) identifier ∷ session (wide (bits O O O O O O O O) reserved [])
layout kind.Data =
    row 0 (bits I O O - - - - -) identifier
    ∷ row 0 (bits - - - x - - - -) opens
    ∷ row 0 (bits - - - - x - - -) close
    ∷ row 0 (bits - - - - - x - -) eof
    ∷ row 0 (bits - - - - - - x -) ack_required
    ∷ row 0 (bits - - - - - - - O) reserved
    ∷ session length_and_body

-- each bit that a row fixes is as the row says
abbrev pub fixed : List LayoutRow → List ℕ → Bool
fixed [] header = true
fixed (r ∷ rs) header = fits r.pattern 128 (get_or header r.offset 0) && fixed rs header

-- the place of the first byte that is not as a row fixes it, where there is one, since the rows are in the order of their bytes
unfoldable pub first_wrong : List LayoutRow → List ℕ → ℕ
first_wrong [] header = 0
first_wrong (r ∷ rs) header = pick (fits r.pattern 128 (get_or header r.offset 0)) (first_wrong rs header) r.offset

-- the binary digits of n, and behind them the bits of each row that describes the item
abbrev pub digits : Item → List LayoutRow → List ℕ → ℕ → ℕ
digits i [] header n = n
digits i (r ∷ rs) header n =
    digits i rs header (pick (eqb (number i) (number r.item)) (with_bits r.pattern 128 (get_or header r.offset 0) n) n)

-- whether a layout has a row for the item
abbrev pub has_item : Item → List LayoutRow → Bool
has_item i [] = false
has_item i (r ∷ rs) = eqb (number i) (number r.item) || has_item i rs

-- the place of the first byte that holds the item; 0 if the layout has no row for it
unfoldable pub item_place : Item → List LayoutRow → ℕ
item_place i [] = 0
item_place i (r ∷ rs) = pick (has_item i (r ∷ [])) r.offset (item_place i rs)

-- the number that an item of a message holds
abbrev pub item : Kind → Item → List ℕ → ℕ
item k i header = digits i (layout k) header 0

-- a flag is set if its bit is 1
abbrev pub flag : Kind → Item → List ℕ → Bool
flag k i header = eqb (item k i header) 1

-- the message of a type, with every item that its layout has
abbrev pub message : Kind → List ℕ → Message
message kind.NoOperation h = NoOperation (item kind.NoOperation length h)
message kind.Shutdown h = Shutdown (item kind.Shutdown length h)
message kind.Ping h = Ping (item kind.Ping cookie h)
message kind.PingAck h = PingAck (item kind.PingAck cookie h)
message kind.Error h = Error (item kind.Error length h)
message kind.IncrementRation h =
    IncrementRation (item kind.IncrementRation shift h) (item kind.IncrementRation session_id h)
    (item kind.IncrementRation increment h)
message kind.Abort h = Abort (flag kind.Abort partial h) (item kind.Abort session_id h) (item kind.Abort length h)
message kind.Close h = Close (item kind.Close session_id h)
message kind.Acknowledgment h = Acknowledgment (item kind.Acknowledgment session_id h)
message kind.Data h =
    Data (flag kind.Data opens h) (flag kind.Data close h) (flag kind.Data eof h) (flag kind.Data ack_required h)
    (item kind.Data session_id h) (item kind.Data length h)
