-- What each call answers, told from the log: its checks in the order of docs/PROTOCOL.md, "Refusals", each with its number; 14 is never
-- answered in a history.
use Rattle.std.specs.Prelude.{ℕ, Bool, true, false, not, List, length, eqb, ltb, leb}
use Rattle.laws.specs.Result.{Result, ok, refused}
use Rattle.wire.specs.declared.Role.{Role}
use Rattle.wire.specs.Message.{is_client, is_server}
use Rattle.state.specs.declared.Setup.{Setup}
use Rattle.protocol.specs.Slot.{queue_size, turn_room}
use Rattle.protocol.specs.Judge.{Report, done}
use Rattle.protocol.specs.Observed.{Greeting, no_header, own_header, both_headers, greeted, Pinging, no_ping, pinged}
use Rattle.protocol.specs.Asked.{may_ask_open, open_number, may_put, put_number, may_finish, may_ask_grant, grant_number, may_ask_abort, abort_number, may_ask_close, close_number}
use Rattle.history.specs.Log.{Call, start, open_session, put, finish, turn, grant, abort, close, ping, shutdown, lost, receive}
use Rattle.history.specs.Meaning.{Line}
use Rattle.history.specs.Account.{Account}
use Rattle.history.specs.Meant.{ungreeted}

-- the first check that holds refuses with its number
abbrev pub refusing : Bool → ℕ → Result Report → Result Report
refusing true n rest = refused n
refusing false n rest = rest

-- what is asked of a session is taken if it is allowed, else refused with the number
abbrev pub taken_if : Bool → ℕ → Result Report
taken_if true n = ok done
taken_if false n = refused n

-- 2 for a connection that is over
abbrev pub unless_over : Line → Result Report → Result Report
unless_over l rest = refusing l.over 2 rest

-- then 1 if the headers are not exchanged
abbrev pub if_up : Line → Result Report → Result Report
if_up l rest = unless_over l (refusing (not (greeted l.greeting)) 1 rest)

-- 8 for less room than is needed, 3 for a number above 127
abbrev pub if_room : ℕ → List ℕ → Result Report → Result Report
if_room asked room rest = refusing (ltb (length room) asked) 8 rest

abbrev pub if_number : ℕ → Result Report → Result Report
if_number n rest = refusing (leb 128 n) 3 rest

abbrev pub is_pinging : Pinging → Bool
is_pinging no_ping = false
is_pinging (pinged k) = true

-- a client that is not started receives nothing
abbrev pub is_unstarted : Role → Greeting → Bool
is_unstarted r no_header = is_client r
is_unstarted r own_header = false
is_unstarted r (both_headers far) = false

-- `queue` is the length of the queue, `a` is what the log tells about the number that the call names, and `rest` is what the search
-- of a turn or the reading of a receive answers
abbrev pub answer_told : Setup → ℕ → Account → Call → Result Report → Result Report
answer_told s queue a (start room) rest =
    unless_over a.line (if_room 8 room (refusing (is_server s.role) 4 (refusing (not (ungreeted a.line.greeting)) 5 (ok done))))
answer_told s queue a (open_session n) rest = if_up a.line (if_number n (taken_if (may_ask_open s.role a.seen) (open_number s.role)))
answer_told s queue a (put n bytes) rest =
    if_up a.line
    (refusing (not (eqb queue queue_size)) 8 (if_number n (taken_if (may_put a.seen.sends (length bytes)) (put_number a.seen.sends))))
answer_told s queue a (finish n) rest = if_up a.line (if_number n (taken_if (may_finish s.role a.seen) 5))
answer_told s queue a (turn room) rest = if_up a.line (if_room turn_room room (refusing (not (eqb queue queue_size)) 8 rest))
answer_told s queue a (grant n amount room) rest =
    if_up a.line (if_room 4 room (if_number n (taken_if (may_ask_grant a.seen amount) (grant_number a.seen amount))))
answer_told s queue a (abort n partial room) rest =
    if_up a.line (if_room 4 room (if_number n (taken_if (may_ask_abort s.role a.seen partial) (abort_number s.role partial))))
answer_told s queue a (close n room) rest =
    if_up a.line (if_room 4 room (if_number n (taken_if (may_ask_close s.role a.seen) (close_number s.role))))
answer_told s queue a (ping cookie room) rest = if_up a.line (if_room 4 room (refusing (is_pinging a.line.pinging) 13 (ok done)))
answer_told s queue a (shutdown room) rest = if_up a.line (if_room 4 room (refusing (is_client s.role) 4 (ok done)))
answer_told s queue a lost rest = unless_over a.line (ok done)
answer_told s queue a (receive input room) rest =
    unless_over a.line (refusing (is_unstarted s.role a.line.greeting) 1 (if_room 12 room rest))
