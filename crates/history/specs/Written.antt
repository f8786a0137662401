-- All that is read in the bytes that a call wrote, one after another: our connection header and messages, up to bytes that are neither.
use Rattle.std.specs.Prelude.{ℕ, zero, suc, ◌+◌, List, [], ◌∷◌, ◌++◌, length, drop}
use Rattle.laws.specs.Result.{Result, ok, refused, violation}
use Rattle.wire.specs.declared.Role.{Role}
use Rattle.wire.specs.declared.Message.{Message}
use Rattle.wire.specs.Message.{body_length, read_message}
use Rattle.wire.specs.Connection.{read_connection_header}
use Rattle.protocol.specs.Judge.{Output, header_out, sent}

-- what each reader finds first, or nothing
abbrev pub message_in : Result Message → List Output
message_in (ok m) = sent m ∷ []
message_in (refused n) = []
message_in (violation f) = []

abbrev pub header_in : Result ℕ → List Output
header_in (ok n) = header_out n ∷ []
header_in (refused n) = []
header_in (violation f) = []

-- how many bytes it has
abbrev pub size_of : Output → ℕ
size_of (header_out n) = 8
size_of (sent m) = 4 + body_length m

-- what is at the front, and what `rest` reads behind its bytes
abbrev pub with_rest : (List ℕ → List Output) → List ℕ → List Output → List Output
with_rest rest bytes [] = []
with_rest rest bytes (o ∷ os) = o ∷ rest (drop (size_of o) bytes)

-- at most this many, up to bytes that are neither; no bytes are both a message and a connection header
unfoldable pub written_up_to : ℕ → Role → List ℕ → List Output
written_up_to zero r bytes = []
written_up_to (suc k) r bytes = with_rest (written_up_to k r) bytes (message_in (read_message r bytes) ++ header_in (read_connection_header bytes))

-- all of them: each has at least four bytes, so there are no more of them than bytes
abbrev pub all_written : Role → List ℕ → List Output
all_written r bytes = written_up_to (length bytes) r bytes
