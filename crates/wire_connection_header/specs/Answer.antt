-- What each answer of the reader and of the writers means, in the numbers and values of docs/PROTOCOL.md.
use Rattle.std.specs.Prelude as prelude
use Rattle.std.specs.Prelude.{ℕ, Ok, Err}
use Rattle.laws.specs.Result.{Result, ok, violation}
use Rattle.refusal.specs.Number.{fault_as}
use Rattle.refusal.specs.Failure.{or_refused, or_unread}
use Rattle.refusal.specs.declared.Fault.{Fault}
use Rattle.refusal.specs.declared.ReadError.{ReadError}
use Rattle.refusal.specs.declared.Refusal.{Refusal}

abbrev pub header_parsed_as : prelude.Result ℕ Fault → Result ℕ
header_parsed_as (Ok n) = ok n
header_parsed_as (Err f) = violation (fault_as f)

abbrev pub header_read_as : prelude.Result ℕ ReadError → Result ℕ
header_read_as r = or_unread (λ n. n) r

abbrev pub written_as : prelude.Result ℕ Refusal → Result ℕ
written_as r = or_refused (λ n. n) r
