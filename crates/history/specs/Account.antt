-- What a log tells about the connection and about each session number; the engine's state does not appear.
use Rattle.std.specs.Prelude.{ℕ, false, List, [], ◌++◌}
use Rattle.laws.specs.Result.{Result, ok, refused, violation}
use Rattle.laws.specs.Runs.{fold, gather}
use Rattle.ration.specs.declared.Ration.{Ration}
use Rattle.ration.specs.declared.Ration.TheVariants as ration
use Rattle.ration.specs.Ration.{from_header}
use Rattle.wire.specs.declared.Role.{Role}
use Rattle.state.specs.declared.Setup.{Setup}
use Rattle.protocol.specs.Message.{no_operation_of, shutdown_of, error_of, ping_of, ping_ack_of, SessionMessage, Scope, whole, of_session, scope}
use Rattle.protocol.specs.Judge.{Report, done, served, header_received, message, Output, header_out, sent}
use Rattle.protocol.specs.Observed.{no_header, both_headers, start_told, no_ping, Event, received, wrote, silent, unused, Seen, observe}
use Rattle.history.specs.Log.{Call, Entry}
use Rattle.history.specs.Meaning.{Line, line_over, with_greeting, with_pinging, only, meaning}
use Rattle.history.specs.Written.{all_written}

-- ---- about the connection

-- a Shutdown or an Error that is taken makes it over
abbrev pub line_by_message : Line → Scope → Line
line_by_message l (whole no_operation_of) = l
line_by_message l (whole shutdown_of) = line_over l
line_by_message l (whole error_of) = line_over l
line_by_message l (whole (ping_of k)) = l
line_by_message l (whole (ping_ack_of k)) = with_pinging no_ping l
line_by_message l (of_session i m) = l

abbrev pub line_by_report : Line → Call → Report → Line
line_by_report l k done = (meaning k).line l
line_by_report l k (served n) = l
line_by_report l k (header_received far) = with_greeting (both_headers far) l
line_by_report l k (message m late) = line_by_message l (scope m)

-- a refused call changes nothing, except that a refusal from 20 up makes the connection over
abbrev pub line_by_answer : Line → Call → Result Report → Line
line_by_answer l k (ok r) = line_by_report l k r
line_by_answer l k (refused n) = l
line_by_answer l k (violation f) = line_over l

abbrev pub line_after : Line → Entry → Line
line_after l e = line_by_answer l e.call e.answer

-- ---- about a session number: what happens to it

abbrev pub in_scope : ℕ → (SessionMessage → Event) → Scope → List Event
in_scope n f (whole w) = []
in_scope n f (of_session i m) = only n i (f m)

-- a message that is taken, by the report
abbrev pub reported : ℕ → Call → Report → List Event
reported n k done = (meaning k).told n
reported n k (served i) = []
reported n k (header_received far) = []
reported n k (message m late) = in_scope n received (scope m)

-- a message that is written
abbrev pub output_seen : ℕ → Output → List Event
output_seen n (header_out own) = []
output_seen n (sent m) = in_scope n wrote (scope m)

-- what a call that is taken tells by its report
abbrev pub told_by : ℕ → Call → Result Report → List Event
told_by n k (ok p) = reported n k p
told_by n k (refused j) = []
told_by n k (violation f) = []

abbrev pub events_by_answer : Role → ℕ → Call → List ℕ → Result Report → List Event
events_by_answer r n k bytes (ok p) = reported n k p ++ gather (output_seen n) (all_written r bytes)
events_by_answer r n k bytes (refused j) = []
events_by_answer r n k bytes (violation f) = []

abbrev pub events : Role → ℕ → Entry → List Event
events r n e = events_by_answer r n e.call e.wrote e.answer

-- ---- the number that an entry concerns, or 0 if it concerns the connection as a whole

abbrev pub session_in : Scope → ℕ
session_in (whole w) = 0
session_in (of_session i m) = i

abbrev pub reported_of : Call → Report → ℕ
reported_of k done = (meaning k).number
reported_of k (served n) = n
reported_of k (header_received far) = 0
reported_of k (message m late) = session_in (scope m)

abbrev pub concerned : Call → Result Report → ℕ
concerned k (ok p) = reported_of k p
concerned k (refused j) = 0
concerned k (violation f) = 0

-- ---- all that a log tells about a number

pub record Account : Type 0 where
  pub line : Line
  pub seen : Seen

-- nothing has happened
abbrev pub blank_account : Setup → Account
blank_account s =
    record {
      line = record { over = false; greeting = no_header; pinging = no_ping };
      seen = record { standing = unused; sends = silent; inbound = ration.Finite 0 };
    }

abbrev pub far_of : Line → Ration
far_of l = start_told l.greeting

unfoldable pub account_after : Setup → ℕ → Account → Entry → Account
account_after s n a e =
    record {
      line = line_after a.line e;
      seen = fold (observe (from_header s.header) (far_of a.line)) a.seen (events s.role n e);
    }

-- what the log so far and then the entry tell, without what the entry writes
abbrev pub seen_before : Setup → ℕ → Account → Entry → Seen
seen_before s n a e = fold (observe (from_header s.header) (far_of a.line)) a.seen (told_by n e.call e.answer)

unfoldable pub observed : Setup → ℕ → List Entry → Account
observed s n es = fold (account_after s n) (blank_account s) es
