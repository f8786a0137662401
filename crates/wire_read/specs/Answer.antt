-- What each answer of the reader means, in the numbers and values of docs/PROTOCOL.md, "Messages" and "Violations".
use Rattle.std.specs.Prelude as prelude
use Rattle.std.specs.Prelude.{ℕ, ◌+◌, List, [], ◌∷◌, Ok, Err}
use Rattle.laws.specs.Result.{Result, ok, refused, violation}
use Rattle.refusal.specs.Number.{fault_as}
use Rattle.refusal.specs.Failure.{or_unread}
use Rattle.refusal.specs.declared.Fault.{Fault}
use Rattle.refusal.specs.declared.ReadError.{ReadError}
use Rattle.wire.specs.declared.Message.{Message}
use Rattle.wire.specs.Message.{body_length}
use Rattle.wire_read.specs.declared.Sized.{Sized}
use Rattle.wire_read.specs.declared.Parsed.{Parsed}
use Rattle.wire_read.specs.declared.headers.Header.{Header}

abbrev pub parsed_as : prelude.Result Message Fault → Result Message
parsed_as (Ok m) = ok m
parsed_as (Err f) = violation (fault_as f)

-- what the header of a message means, without how many bytes follow it
abbrev pub header_as : prelude.Result Parsed Fault → Result Message
header_as (Ok p) = ok p.message
header_as (Err f) = violation (fault_as f)

abbrev pub read_as : prelude.Result Message ReadError → Result Message
read_as r = or_unread (λ m. m) r

-- how many bytes a message has, its header and its body; 0 where there is none
abbrev pub size_in : Result Message → ℕ
size_in (ok m) = 4 + body_length m
size_in (refused n) = 0
size_in (violation f) = 0

-- a result and its size
abbrev pub with_size : Result Message → Result Message × ℕ
with_size r = (r, size_in r)

-- what a reading with its size means
abbrev pub sized_as : prelude.Result Sized ReadError → Result Message × ℕ
sized_as (Ok s) = (ok s.message, s.size)
sized_as (Err e) = (read_as (Err e), 0)

-- the bytes of a header
abbrev pub header_bytes : Header → List ℕ
header_bytes h = h.first ∷ h.second ∷ h.third ∷ h.fourth ∷ []
