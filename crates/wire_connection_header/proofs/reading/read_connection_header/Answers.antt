-- `read_connection_header` meets its contract, by the laws of short and long inputs.
use Rattle.std.proofs.Common.{◌≡◌, Err, rules}
use Rattle.refusal.specs.declared.ReadError.TheVariants.{Violated}
use Rattle.wire.proofs.Reading.{header_short}
use Rattle.wire_connection_header.proofs.Long.{long}
use Rattle.wire_connection_header.proofs.reading.read_connection_header.Goals as goal

pub returns-in_default : goal.returns-in_default
returns-in_default c = header_short _ c.in_default.ensures.cases

pub returns-in_err-parse_connection_header : goal.returns-in_err-parse_connection_header
returns-in_err-parse_connection_header c =
    let h : c.from_residual.result ≡ Err (Violated c.in_err-parse_connection_header.field-0.0) = search rules in
    rw h (long c.in-Some.ensures.cases c.in_err-parse_connection_header.ensures)

pub returns : goal.returns
returns c = long c.in-Some.ensures.cases c.in_ok-parse_connection_header.ensures
