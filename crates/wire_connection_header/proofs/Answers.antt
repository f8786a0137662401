-- What a violation that the reader of headers finds says: the number and the place that its fault holds, as they are.
use Rattle.std.specs.Prelude.{Err}
use mathlib.Core.Path.{◌≡◌, refl}
use Rattle.laws.specs.Result.{violation}
use Rattle.refusal.specs.declared.Fault.{Fault}
use Rattle.refusal.specs.declared.ReadError.TheVariants.{Violated}
use Rattle.refusal.specs.Number.{violation_number}
use Rattle.wire_connection_header.specs.Answer.{header_parsed_as, header_read_as}

pub parsed_says : (f : Fault) → header_parsed_as (Err f) ≡ violation (record { number = violation_number f.violation; place = f.offset })
parsed_says f = refl

pub read_says : (f : Fault) → header_read_as (Err (Violated f)) ≡ violation (record { number = violation_number f.violation; place = f.offset })
read_says f = refl
