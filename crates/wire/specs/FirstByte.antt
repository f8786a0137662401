-- The published table of first bytes: each row is a bit pattern, and the message type that it names.
use Rattle.std.specs.Prelude.{ℕ, List, [], ◌∷◌, Option, Some, None}
use Rattle.laws.specs.Pick.{pick}
use Rattle.wire.specs.Pattern.{Bit, O, I, x, bits, fits}
use Rattle.wire.specs.declared.Kind.{Kind}
use Rattle.wire.specs.declared.Kind.TheVariants.{NoOperation, Shutdown, Ping, PingAck, Error, IncrementRation, Abort, Close, Acknowledgment, Data}

pub record TypeRow : Type 0 where
  pub pattern : List Bit
  pub kind : Kind

abbrev row : List Bit → Kind → TypeRow
row p k = record { pattern = p; kind = k }

abbrev pub type_table : List TypeRow
type_table =
    row (bits O O O O O O O O) NoOperation
    ∷ row (bits O O O O O O I O) Shutdown
    ∷ row (bits O O O O O I O O) Ping
    ∷ row (bits O O O O O I I O) PingAck
    ∷ row (bits O O O O I O O O) Error
    ∷ row (bits O O O I x x x O) IncrementRation
    ∷ row (bits O O I O O O x O) Abort
    ∷ row (bits O O I I O O O O) Close
    ∷ row (bits O I O O O O O O) Acknowledgment
    ∷ row (bits I O O x x x x O) Data
    ∷ []

-- the type of the row that the byte fits
abbrev pub lookup : List TypeRow → ℕ → Option Kind
lookup [] byte = None
lookup (r ∷ rs) byte = pick (fits r.pattern 128 byte) (Some r.kind) (lookup rs byte)

unfoldable pub kind_of : ℕ → Option Kind
kind_of byte = lookup type_table byte
