-- What each entry of a log means to write, and which of that may be written then; told from the log alone.
use Rattle.std.specs.Prelude.{ℕ, ◌+◌, ◌≡◌, Bool, true, false, not, ◌&&◌, List, [], ◌∷◌, ◌++◌, map, drop, eqb}
use Rattle.laws.specs.Pick.{pick}
use Rattle.laws.specs.Result.{Result, ok, refused, violation}
use Rattle.wire.specs.declared.Role.{Role}
use Rattle.wire.specs.declared.Message.TheVariants as msg
use Rattle.wire.specs.Message.{is_client, is_server, body_length, read_message}
use Rattle.wire.specs.Connection.{read_connection_header}
use Rattle.state.specs.declared.Setup.{Setup}
use Rattle.protocol.specs.Message.{ConnectionMessage, no_operation_of, shutdown_of, error_of, ping_of, ping_ack_of, SessionMessage, Scope, whole, of_session, scope, numbered}
use Rattle.protocol.specs.Judge.{Report, done, served, header_received, message, Output, header_out, sent}
use Rattle.protocol.specs.Observed.{Greeting, no_header, own_header, both_headers, greeted, Seen, replies_to, due_data, may_write, from_role}
use Rattle.history.specs.Log.{Call, Entry}
use Rattle.history.specs.Meaning.{meaning}
use Rattle.history.specs.Account.{Account, concerned, far_of, seen_before}

-- ---- what is meant

-- our header has not been sent
abbrev pub ungreeted : Greeting → Bool
ungreeted no_header = true
ungreeted own_header = false
ungreeted (both_headers far) = false

-- the next thing to arrive is the far header
abbrev pub header_due : Role → Greeting → Bool
header_due r no_header = is_server r
header_due r own_header = true
header_due r (both_headers far) = false

abbrev pub answered_in : Role → Seen → Scope → List SessionMessage
answered_in r v (whole w) = []
answered_in r v (of_session i m) = replies_to r v m

-- a turn sends what is due, a message received gets its answer
abbrev pub meant_for : Role → Call → Report → Seen → List SessionMessage
meant_for r k done v = (meaning k).sends v
meant_for r k (served n) v = due_data v ∷ []
meant_for r k (header_received far) v = []
meant_for r k (message m late) v = answered_in r v (scope m)

-- a Ping is answered with a PingAck of its cookie
abbrev pub answer_of_all : Scope → List Output
answer_of_all (whole no_operation_of) = []
answer_of_all (whole shutdown_of) = []
answer_of_all (whole error_of) = []
answer_of_all (whole (ping_of k)) = sent (msg.PingAck k) ∷ []
answer_of_all (whole (ping_ack_of k)) = []
answer_of_all (of_session i m) = []

-- a server answers the first header with its own
abbrev pub meant_of_all : Setup → Call → Report → List Output
meant_of_all s k done = (meaning k).writes s.header
meant_of_all s k (served n) = []
meant_of_all s k (header_received far) = pick (is_server s.role) (header_out s.header ∷ []) []
meant_of_all s k (message m late) = answer_of_all (scope m)

-- a violation is answered with Error, after our header if that was not sent; a refusal below 20 means nothing
abbrev pub meant_by : Setup → Account → Call → Result Report → List Output
meant_by s a k (ok p) = meant_of_all s k p ++ map (λ m. sent (numbered (concerned k (ok p)) m)) (meant_for s.role k p a.seen)
meant_by s a k (refused n) = []
meant_by s a k (violation f) = pick (ungreeted a.line.greeting) (header_out s.header ∷ []) [] ++ (sent (msg.Error 0) ∷ [])

-- ---- what is read

-- the other end reads the bytes as these, one after another, and nothing is left over
unfoldable pub ReadInOrder : Role → List ℕ → List Output → Type 0
ReadInOrder from bytes [] = bytes ≡ []
ReadInOrder from bytes (header_out n ∷ outs) = (read_connection_header bytes ≡ ok n) × ReadInOrder from (drop 8 bytes) outs
ReadInOrder from bytes (sent m ∷ outs) = (read_message from bytes ≡ ok m) × ReadInOrder from (drop (4 + body_length m) bytes) outs

-- ---- what may be written

-- what is taken is a Ping with the cookie
abbrev pub is_ping : ℕ → Scope → Bool
is_ping k (whole no_operation_of) = false
is_ping k (whole shutdown_of) = false
is_ping k (whole error_of) = false
is_ping k (whole (ping_of j)) = eqb j k
is_ping k (whole (ping_ack_of j)) = false
is_ping k (of_session i m) = false

abbrev pub takes_ping : ℕ → Result Report → Bool
takes_ping k (ok done) = false
takes_ping k (ok (served n)) = false
takes_ping k (ok (header_received far)) = false
takes_ping k (ok (message m late)) = is_ping k (scope m)
takes_ping k (refused n) = false
takes_ping k (violation f) = false

abbrev pub is_violation : Result Report → Bool
is_violation (ok r) = false
is_violation (refused n) = false
is_violation (violation f) = true

-- answers with which our header may be sent: a client's call that reports nothing, or a server's that takes the far header or finds it bad
abbrev pub greets : Role → Result Report → Bool
greets r (ok done) = is_client r
greets r (ok (served n)) = false
greets r (ok (header_received far)) = is_server r
greets r (ok (message m late)) = false
greets r (refused n) = false
greets r (violation f) = is_server r

-- a PingAck answers one Ping, a Shutdown is a server's, an Error answers a violation; nothing but an Error is sent before the headers are
-- exchanged
abbrev pub whole_may_go : Role → Bool → Result Report → ConnectionMessage → Bool
whole_may_go r up answer no_operation_of = up
whole_may_go r up answer shutdown_of = up && is_server r
whole_may_go r up answer error_of = is_violation answer
whole_may_go r up answer (ping_of k) = up
whole_may_go r up answer (ping_ack_of k) = up && takes_ping k answer

-- a session's message is for the number that the entry concerns, has a type and flags that our end may send, and is one that the published
-- protocol lets us send now
abbrev pub message_may_go : Setup → Account → Entry → Scope → Bool
message_may_go s a e (whole w) = whole_may_go s.role (greeted a.line.greeting) e.answer w
message_may_go s a e (of_session i x) =
    eqb i (concerned e.call e.answer) && greeted a.line.greeting
    && from_role s.role x && may_write s.role (far_of a.line) (seen_before s (concerned e.call e.answer) a e) x

-- nothing is sent on a connection that is over, and our header is sent once and in its turn
abbrev pub may_go : Setup → Account → Entry → Output → Bool
may_go s a e (header_out n) = not a.line.over && ungreeted a.line.greeting && greets s.role e.answer
may_go s a e (sent m) = not a.line.over && message_may_go s a e (scope m)
