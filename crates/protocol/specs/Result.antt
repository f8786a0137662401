-- The whole result of each call: answer, bytes used and written, connection, queue and room.
use Rattle.std.specs.Prelude.{ℕ, ◌+◌, ◌-◌, Bool, List, [], ◌∷◌, ◌++◌, length, take}
use Rattle.std.specs.Prelude as prelude
use Rattle.laws.specs.Result.{Result, ok, refused, violation}
use Rattle.laws.specs.Room.{overlaid}
use Rattle.refusal.specs.declared.Failure.{Failure}
use Rattle.refusal.specs.Failure.{or_failed}
use Rattle.wire.specs.Message as wire
use Rattle.wire.specs.Message.{body_length}
use Rattle.wire.specs.Connection.{connection_header}
use Rattle.state.specs.declared.Connection.{Connection}
use Rattle.state.specs.declared.Answer.{Answer}
use Rattle.state.specs.declared.Answer.TheVariants as answer
use Rattle.state.specs.declared.Called.{Called}
use Rattle.protocol.specs.Plan.{Plan, settle}
use Rattle.protocol.specs.Connection.{at, ended}
use Rattle.protocol.specs.Judge.{Report, done, served, header_received, message, Output, header_out, sent, Effect, Decision, refuse, violate, accept, commit}
use Rattle.protocol.specs.Queue.{slot, with_slot, put_slot, turn_slot}
use Rattle.protocol.specs.Call.{start_rule, open_rule, put_rule, finish_rule, turn_rule, grant_rule, abort_rule, close_rule, ping_rule, shutdown_rule, lost_rule, receive_rule}

-- ---- answers

-- what a call reports that is taken
abbrev pub report_as : Answer → Report
report_as answer.Done = done
report_as (answer.Served n) = served n
report_as (answer.Header n) = header_received n
report_as (answer.Message m late) = message m late

-- the answer, or why there is none, in the numbers and values of docs/PROTOCOL.md, "Refusals" and "Violations"
abbrev pub answer_as : prelude.Result Answer Failure → Result Report
answer_as a = or_failed report_as a

-- what a call gives beside the buffers
pub record Given : Type 0 where
  pub connection : Connection
  pub answer : Result Report
  pub used : ℕ
  pub wrote : ℕ
  pub start : ℕ
  pub end : ℕ

abbrev pub called_as : Called → Given
called_as r =
    record {
      connection = r.connection;
      answer = answer_as r.answer;
      used = r.used;
      wrote = r.wrote;
      start = r.start;
      end = r.end;
    }

-- ---- bytes

-- how many bytes of the input are used, and where in them the payload starts and ends
pub record Extent : Type 0 where
  pub used : ℕ
  pub start : ℕ
  pub end : ℕ

abbrev pub no_input : Extent
no_input = record { used = 0; start = 0; end = 0 }

-- a message that is taken uses 4 bytes plus its length, a header 8
abbrev pub extent_of : Report → Extent
extent_of done = no_input
extent_of (served n) = no_input
extent_of (header_received n) = record { used = 8; start = 0; end = 0 }
extent_of (message m late) = record { used = 4 + body_length m; start = 4; end = 4 + body_length m }

-- the bytes of what is written; `payload` holds those that follow a Data header
abbrev pub bytes_of : List ℕ → Output → List ℕ
bytes_of payload (header_out n) = connection_header n
bytes_of payload (sent m) = wire.header m ++ take (body_length m) payload

unfoldable pub bytes_of_all : List ℕ → List Output → List ℕ
bytes_of_all payload [] = []
bytes_of_all payload (o ∷ os) = bytes_of payload o ++ bytes_of_all payload os

abbrev pub written_by : List ℕ → Decision → List ℕ
written_by payload (refuse n) = []
written_by payload (violate b) = bytes_of_all payload b.reply
written_by payload (accept e) = bytes_of_all payload e.outs

-- ---- what a decision gives

-- the new value, from the effect, if the call is taken, else the old one
abbrev pub if_taken : {A : Type 0} → Decision → (Effect → A) → A → A
if_taken (refuse n) new old = old
if_taken (violate b) new old = old
if_taken (accept e) new old = new e

abbrev pub giving : Connection → Result Report → Extent → List ℕ → Given
giving c answer x bytes =
    record { connection = c; answer = answer; used = x.used; wrote = length bytes; start = x.start; end = x.end }

-- a refusal leaves the connection as it is; a violation uses no input and ends the connection
abbrev pub given_in : Connection → List ℕ → Extent → Decision → Given
given_in c payload x (refuse n) = giving c (refused n) no_input []
given_in c payload x (violate b) = giving (ended b.cause c) (violation b.fault) no_input (bytes_of_all payload b.reply)
given_in c payload x (accept e) = giving (commit c e) (ok e.report) x (bytes_of_all payload e.outs)

-- as much of the input is used as the report says
abbrev pub given : Connection → List ℕ → Decision → Given
given c payload d = given_in c payload (if_taken d (λ e. extent_of e.report) no_input) d

abbrev pub decided : Plan Effect → Decision
decided p = settle refuse accept p

-- ---- the calls

abbrev pub in_room : Connection → List ℕ → Decision → Given × List ℕ
in_room c room d = (given c [] d, overlaid (written_by [] d) room)

unfoldable pub start_call : Connection → List ℕ → Given × List ℕ
start_call c room = in_room c room (decided (start_rule c (length room)))

unfoldable pub open_call : Connection → ℕ → Given
open_call c n = given c [] (decided (open_rule c n))

unfoldable pub put_call : Connection → ℕ → List ℕ → List ℕ → Given × List ℕ
put_call c n bytes queue =
    let d = decided (put_rule c n (length bytes) (length queue)) in
    (given c [] d, if_taken d (λ e. with_slot n (put_slot (at c n).waiting bytes (slot n queue)) queue) queue)

unfoldable pub finish_call : Connection → ℕ → Given
finish_call c n = given c [] (decided (finish_rule c n))

-- the queue after a turn that sent some of the bytes that wait for a number
abbrev pub turned : Connection → List ℕ → Effect → List ℕ
turned c queue e =
    let w = (at c e.number).waiting in
    with_slot e.number (turn_slot w (w - e.session.waiting) (slot e.number queue)) queue

-- the bytes that follow a turn's header are the first that wait
abbrev pub turn_payload : List ℕ → Decision → List ℕ
turn_payload queue d = if_taken d (λ e. slot e.number queue) []

unfoldable pub turn_call : Connection → List ℕ → List ℕ → Given × List ℕ × List ℕ
turn_call c queue room =
    let d = decided (turn_rule c (length queue) (length room)) in
    let payload = turn_payload queue d in
    (given c payload d, if_taken d (turned c queue) queue, overlaid (written_by payload d) room)

unfoldable pub grant_call : Connection → ℕ → ℕ → List ℕ → Given × List ℕ
grant_call c n amount room = in_room c room (decided (grant_rule c n amount (length room)))

unfoldable pub abort_call : Connection → ℕ → Bool → List ℕ → Given × List ℕ
abort_call c n partial room = in_room c room (decided (abort_rule c n partial (length room)))

unfoldable pub close_call : Connection → ℕ → List ℕ → Given × List ℕ
close_call c n room = in_room c room (decided (close_rule c n (length room)))

unfoldable pub ping_call : Connection → ℕ → List ℕ → Given × List ℕ
ping_call c cookie room = in_room c room (decided (ping_rule c cookie (length room)))

unfoldable pub shutdown_call : Connection → List ℕ → Given × List ℕ
shutdown_call c room = in_room c room (decided (shutdown_rule c (length room)))

unfoldable pub lost_call : Connection → Given
lost_call c = given c [] (decided (lost_rule c))

unfoldable pub receive_call : Connection → List ℕ → List ℕ → Given × List ℕ
receive_call c input room = in_room c room (receive_rule c input (length room))
