-- `parse_connection_header` meets its contract, by the laws of the eight bytes.
use Rattle.std.proofs.Common.{◌∙◌, sym, arith}
use Rattle.laws.specs.Pick.{pick}
use Rattle.wire.proofs.Tables.{two_bytes}
use Rattle.wire.proofs.Reading.{number_ok, number_bad}
use Rattle.wire_connection_header.proofs.reading.parse_connection_header.Goals as goal

pub returns-in-Some : goal.returns-in-Some
returns-in-Some c = let h = c.in-Some.ensures in number_bad c.args.bytes h.0 h.1

pub returns : goal.returns
unfolding pick
returns c = number_ok c.args.bytes c.in_default.ensures (c.from_be_bytes.ensures ∙ sym (two_bytes _ _ (omega arith) (omega arith)))
