-- The connection header of an input that has its eight bytes.
use Rattle.std.proofs.Common.{◌≡◌, ℕ, List, ap, sym, ◌∙◌}
use Rattle.std.specs.Array.{IsFirstChunk}
use borrow.Author.Tests.{le-ltb}
use Rattle.laws.specs.Result.{Result}
use Rattle.laws.proofs.Pick.{no}
use Rattle.wire.specs.Connection.{parse_connection_header, read_connection_header}

pub long : {s bytes : List ℕ} {r : Result ℕ} → IsFirstChunk s bytes 8 → r ≡ parse_connection_header bytes → r ≡ read_connection_header s
unfolding read_connection_header
long {s} h e = e ∙ ap parse_connection_header h.same ∙ sym (no _ _ _ (le-ltb _ _ h.enough))
