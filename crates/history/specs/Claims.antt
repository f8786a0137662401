-- What is claimed of every log: for every role, header number, queue and list of calls, refused ones included. And for every state: what
-- a call leaves that is not taken or ends the connection, what any call leaves of its room, and which call is refused with 14.
use Rattle.std.specs.Prelude.{ℕ, ◌+◌, ◌≤◌, ◌<◌, ◌≡◌, ◌↔◌, Bool, true, false, not, ◌&&◌, ◌||◌, List, [], ◌∷◌, ◌++◌, length, take, drop, get_or, eqb}
use Rattle.laws.specs.Result.{Fault, Result, ok, refused, violation}
use Rattle.laws.specs.Circle.{nearest}
use Rattle.laws.specs.Runs.{Every, gather, times}
use Rattle.ration.specs.declared.Ration.{Ration}
use Rattle.ration.specs.Ration.{from_header}
use Rattle.wire.specs.declared.Message.{Message}
use Rattle.wire.specs.declared.Message.TheVariants as msg
use Rattle.wire.specs.Message as wire
use Rattle.wire.specs.Message.{body_length, read_message}
use Rattle.wire.specs.Connection.{connection_header, read_connection_header}
use Rattle.state.specs.declared.Side.{Side}
use Rattle.state.specs.declared.Side.TheVariants as side
use Rattle.state.specs.declared.Session.{Session}
use Rattle.state.specs.declared.Stage.{Stage}
use Rattle.state.specs.declared.Stage.TheVariants as stage
use Rattle.state.specs.declared.Connection.{Connection}
use Rattle.state.specs.declared.Setup.{Setup}
use Rattle.protocol.specs.Slot.{slot_size, queue_size, turn_room}
use Rattle.protocol.specs.Queue.{slot}
use Rattle.protocol.specs.Message.{ConnectionMessage, no_operation_of, shutdown_of, error_of, ping_of, ping_ack_of, data_of, increment_of, abort_of, close_of, acknowledgment_of, numbered, Scope, whole, of_session, scope}
use Rattle.protocol.specs.Connection.{other_end, at, well_formed}
use Rattle.protocol.specs.Judge.{Report, done, served, header_received, message, Output, header_out, sent, fault_of}
use Rattle.protocol.specs.Observed.{Pinging, greeted, awaits, Sending, silent, sending, is_ready, any_lapse, ends, established, due_data, late_for, may_arrive, wrong_number}
use Rattle.protocol.specs.Fate.{fate_of}
use Rattle.protocol.specs.Totals.{blank_ledger, Balanced, Covers}
use Rattle.history.specs.Log.{Call, put, turn, ping, receive, room_of, State, called, Entry, next, out, run}
use Rattle.history.specs.Log as log
use Rattle.history.specs.Written.{all_written}
use Rattle.history.specs.Meaning.{meaning}
use Rattle.history.specs.Account.{Account, line_after, events, concerned, far_of, observed, blank_account}
use Rattle.history.specs.Held.{account_of}
use Rattle.history.specs.Faults.{ReceiveFault}
use Rattle.history.specs.Answers.{answer_told}
use Rattle.history.specs.Meant.{header_due, meant_by, ReadInOrder, may_go}
use Rattle.history.specs.Sums.{summed}
use Rattle.history.specs.Fates.{fate_told}

-- ---- the words of the third demand, that nobody waits for ever

-- a session number is ready, as the log so far tells it
abbrev pub ready : Setup → ℕ → List Entry → Bool
ready s n a = is_ready (observed s n a).seen.sends

-- the session number of a Data message
abbrev pub data_in : Scope → List ℕ
data_in (whole w) = []
data_in (of_session i (data_of size begins close eof ack)) = i ∷ []
data_in (of_session i (increment_of amount)) = []
data_in (of_session i (abort_of partial)) = []
data_in (of_session i close_of) = []
data_in (of_session i acknowledgment_of) = []

abbrev pub data_number : Output → List ℕ
data_number (header_out own) = []
data_number (sent m) = data_in (scope m)

-- the numbers of all Data messages that an entry wrote
abbrev pub data_written : Setup → Entry → List ℕ
data_written s e = gather data_number (all_written s.role e.wrote)

abbrev pub has : ℕ → List ℕ → Bool
has n [] = false
has n (k ∷ ks) = eqb k n || has n ks

-- this entry makes the connection over
abbrev pub is_over : Setup → Entry → Bool
is_over s e = (line_after (blank_account s).line e).over

-- a wait lapses: the number's abort is taken, an Abort, Close or close flag for it is taken, or the connection is over
abbrev pub lapse : Setup → ℕ → Entry → Bool
lapse s n e = any_lapse (events s.role n e) || is_over s e

-- the entry has neither the number's own data message nor a lapse
abbrev pub waits_on : Setup → ℕ → Entry → Bool
waits_on s n e = not (has n (data_written s e)) && not (lapse s n e)

-- the last number of a list, or the given one if the list is empty
abbrev pub last_of : ℕ → List ℕ → ℕ
last_of i [] = i
last_of i (k ∷ ks) = last_of k ks

-- the number whose data message was written last, 127 at first
abbrev pub last_served : Setup → List Entry → ℕ
last_served s a = last_of 127 (gather (data_written s) a)

-- ---- nobody waits for ever

-- n is ready after a; b follows, with neither its own data message nor a lapse in it
pub record Waits (s : Setup) (n : ℕ) (a b : List Entry) : Type 0 where
  pub still_ready : ready s n (a ++ b) ≡ true
  pub each_once : (m : ℕ) → m < 128 → times m (gather (data_written s) b) ≤ 1
  pub at_most_127 : length (gather (data_written s) b) ≤ 127

abbrev pub waiting_bytes : Sending → List ℕ
waiting_bytes silent = []
waiting_bytes (sending unsent bytes r end) = bytes

-- a turn that is not refused: the number served is the first ready one after the last one served; what is written is that
-- session's data message and nothing else, with the first bytes waiting
pub record Serves (s : Setup) (a : List Entry) (e : Entry) (k : ℕ) : Type 0 where
  pub first_ready : k ≡ nearest (λ n. ready s n a) (last_served s a)
  pub is_ready_now : ready s k a ≡ true
  pub message : e.wrote
      ≡ wire.header (numbered k (due_data (observed s k a).seen))
      ++ take (wire.body_length (numbered k (due_data (observed s k a).seen))) (waiting_bytes (observed s k a).seen.sends)

-- no check before the search for a ready number refuses the turn
pub record MayTurn (s : Setup) (queue : ℕ) (a : List Entry) (room : ℕ) : Type 0 where
  pub not_over : (observed s 0 a).line.over ≡ false
  pub up : greeted (observed s 0 a).line.greeting ≡ true
  pub roomy : turn_room ≤ room
  pub whole_queue : queue ≡ queue_size

-- no check refuses the turn before the search, and no number is ready
pub record NothingReady (s : Setup) (queue : ℕ) (a : List Entry) (room : ℕ) : Type 0 where
  pub may : MayTurn s queue a room
  pub none : (n : ℕ) → n < 128 → ready s n a ≡ false

pub record Turns (s : Setup) (queue : ℕ) (a : List Entry) (e : Entry) (room : ℕ) : Type 0 where
  pub served_one : (r : Report) → e.answer ≡ ok r → (k : ℕ) × (r ≡ served k) × (data_written s e ≡ k ∷ []) × Serves s a e k
  -- if some number is ready, one is served
  pub served_some : MayTurn s queue a room → (n : ℕ) → n < 128 → ready s n a ≡ true → (k : ℕ) × (e.answer ≡ ok (served k))
  pub refused_9 : (e.answer ≡ refused 9) ↔ NothingReady s queue a room

-- the third demand, for one log
pub record BoundedWaiting (s : Setup) (queue : ℕ) (log : List Entry) : Type 0 where
  pub waits : (a b c : List Entry) → log ≡ a ++ (b ++ c) → (n : ℕ) → n < 128 → ready s n a ≡ true → Every (waits_on s n) b → Waits s n a b
  -- the number's own data message is the 128th at the latest
  pub own_by_128 : (a b c : List Entry) → log ≡ a ++ (b ++ c) → (n : ℕ) → n < 128 → ready s n a ≡ true → Every (λ e. not (lapse s n e)) b
      → 128 ≤ length (gather (data_written s) b) → has n (gather (data_written s) b) ≡ true
  pub turns : (a c : List Entry) (e : Entry) (room : List ℕ) → log ≡ a ++ (e ∷ c) → e.call ≡ turn room → Turns s queue a e (length room)
  pub only_turns_write_data : (a c : List Entry) (e : Entry) → log ≡ a ++ (e ∷ c) → ((room : List ℕ) → e.call ≡ turn room → ⊥) → data_written s e ≡ []
  pub never_14 : (a c : List Entry) (e : Entry) → log ≡ a ++ (e ∷ c) → e.answer ≡ refused 14 → ⊥

-- ---- what a call that is not taken leaves, in every state and not only in a history

-- two sessions are the same except for the outcome
pub record SameButOutcome (x y : Session) : Type 0 where
  pub sides : x.sides ≡ y.sides
  pub outbound : x.outbound ≡ y.outbound
  pub inbound : x.inbound ≡ y.inbound
  pub waiting : x.waiting ≡ y.waiting
  pub finish : x.finish ≡ y.finish

-- the connection is over, and nothing else of it changes except outcomes
pub record OnlyOver (before after : Connection) : Type 0 where
  pub over : after.over ≡ true
  pub stage : after.stage ≡ before.stage
  pub own : after.own ≡ before.own
  pub last : after.last ≡ before.last
  pub ping : after.ping ≡ before.ping
  pub sessions : (n : ℕ) → SameButOutcome (at after n) (at before n)

-- our header if it was not sent, then Error, whose four bytes are 08 00 00 00
abbrev pub error_bytes : Stage → ℕ → List ℕ
error_bytes (stage.Fresh r) own = connection_header own ++ (8 ∷ 0 ∷ 0 ∷ 0 ∷ [])
error_bytes stage.Started own = 8 ∷ 0 ∷ 0 ∷ 0 ∷ []
error_bytes (stage.Up r far) own = 8 ∷ 0 ∷ 0 ∷ 0 ∷ []

abbrev pub takes_input : Result Report → Bool
takes_input (ok done) = false
takes_input (ok (served n)) = false
takes_input (ok (header_received far)) = true
takes_input (ok (message m late)) = true
takes_input (refused n) = false
takes_input (violation f) = false

pub record RefusedLeaves (s : State) (k : Call) : Type 0 where
  -- below 20 nothing changes and nothing is written, and the room stays as lent
  pub refusal : (n : ℕ) → (out s k).answer ≡ refused n → (n < 20) × (next s k ≡ s) × ((out s k).wrote ≡ []) × ((called s k).2 ≡ room_of k)
  -- from 20 up only over and outcomes change, and Error, or header and Error, is written
  pub violated : (f : Fault) → (out s k).answer ≡ violation f
      → (20 ≤ f.number) × OnlyOver s.connection (next s k).connection × ((next s k).queue ≡ s.queue)
      × ((out s k).wrote ≡ error_bytes s.connection.stage s.connection.own)
  -- input is used only for a header or a message that is taken
  pub unused : takes_input (out s k).answer ≡ false → ((out s k).used ≡ 0) × ((out s k).start ≡ 0) × ((out s k).end ≡ 0)
  -- only a receive finds a violation, and its number and place say what is wrong with the input
  pub receives : (f : Fault) → (out s k).answer ≡ violation f
      → (input room : List ℕ) × (k ≡ receive input room) × ReceiveFault s.connection.stage input f

-- a call by which the connection is over changes nothing else except outcomes, whatever ends it
abbrev pub OverLeaves : State → Call → Type 0
OverLeaves s k =
    s.connection.over ≡ false → (next s k).connection.over ≡ true
    → OnlyOver s.connection (next s k).connection × ((next s k).queue ≡ s.queue)

-- ---- a call is refused with 14 exactly if the state is not well formed

abbrev pub Refuses14 : State → Call → Type 0
Refuses14 s k = ((out s k).answer ≡ refused 14) ↔ (well_formed s.connection ≡ false)

-- ---- what a call leaves of the room that it is lent, in every state

-- as many bytes as it reports are written at the front, the room keeps its length, and the bytes behind them are as lent
pub record RoomBehind (s : State) (k : Call) : Type 0 where
  pub told : (called s k).0.wrote ≡ length (out s k).wrote
  pub fits : length (out s k).wrote ≤ length (room_of k)
  pub size : length (called s k).2 ≡ length (room_of k)
  pub behind : drop (length (out s k).wrote) (called s k).2 ≡ drop (length (out s k).wrote) (room_of k)

-- ---- each call answers with the first of its checks that refuses, in the order of docs/PROTOCOL.md, "Refusals"

-- `queue` is the length of the queue; separate claims say what the search of a turn and the reading of a receive answer after their
-- checks
abbrev pub AnswersExactly : Setup → ℕ → List Entry → Type 0
AnswersExactly s queue log =
    (a c : List Entry) (e : Entry) → log ≡ a ++ (e ∷ c)
    → e.answer ≡ answer_told s queue (observed s (meaning e.call).number a) e.call e.answer

-- ---- a message is taken exactly where the published protocol lets the far end send it; an Acknowledgment need not have been asked for

-- no check before the message refuses a receive
pub record Listening (s : Setup) (a : List Entry) (room : ℕ) : Type 0 where
  pub not_over : (observed s 0 a).line.over ≡ false
  pub up : greeted (observed s 0 a).line.greeting ≡ true
  pub roomy : 12 ≤ room

-- a message of the connection as a whole may always arrive, except a PingAck, which has to match the outstanding cookie
abbrev pub whole_may_arrive : Pinging → ConnectionMessage → Bool
whole_may_arrive p no_operation_of = true
whole_may_arrive p shutdown_of = true
whole_may_arrive p error_of = true
whole_may_arrive p (ping_of k) = true
whole_may_arrive p (ping_ack_of k) = awaits p k

-- an Acknowledgment may arrive wherever its sender has not terminated the session, asked for or not
abbrev pub may_come : Setup → List Entry → Scope → Bool
may_come s a (whole w) = whole_may_arrive (observed s 0 a).line.pinging w
may_come s a (of_session i x) = may_arrive s.role (from_header s.header) (observed s i a).seen x

-- a message is late if it crossed our eof, Abort or Close
abbrev pub late_of : Setup → List Entry → Scope → Bool
late_of s a (whole w) = false
late_of s a (of_session i x) = late_for (observed s i a).seen.standing x

-- the number with which a message that may not come is refused: 28 for a PingAck, else 25, 26 or 27
abbrev pub wrong_for : Setup → List Entry → Scope → ℕ
wrong_for s a (whole w) = 28
wrong_for s a (of_session i x) = wrong_number s.role (observed s i a).seen.standing x

pub record TakesExactly (s : Setup) (log : List Entry) : Type 0 where
  pub takes : (a c : List Entry) (e : Entry) (input room : List ℕ) (m : Message) → log ≡ a ++ (e ∷ c) → e.call ≡ receive input room
      → Listening s a (length room) → read_message (other_end s.role) input ≡ ok m
      → may_come s a (scope m) ≡ true → e.answer ≡ ok (message m (late_of s a (scope m)))
  pub else_violated : (a c : List Entry) (e : Entry) (input room : List ℕ) (m : Message) → log ≡ a ++ (e ∷ c) → e.call ≡ receive input room
      → Listening s a (length room) → read_message (other_end s.role) input ≡ ok m
      → may_come s a (scope m) ≡ false → e.answer ≡ violation (fault_of (wrong_for s a (scope m)))
  -- and only there
  pub only : (a c : List Entry) (e : Entry) (input room : List ℕ) (m : Message) (late : Bool) → log ≡ a ++ (e ∷ c) → e.call ≡ receive input room
      → e.answer ≡ ok (message m late)
      → Listening s a (length room) × (may_come s a (scope m) ≡ true) × (late ≡ late_of s a (scope m))

-- ---- what a receive takes is what the reader gives on its input, and that many bytes are used

-- a header is due and no check before it refuses
pub record Awaiting (s : Setup) (a : List Entry) (room : ℕ) : Type 0 where
  pub not_over : (observed s 0 a).line.over ≡ false
  pub due : header_due s.role (observed s 0 a).line.greeting ≡ true
  pub roomy : 12 ≤ room

abbrev pub header_answer : Result ℕ → Result Report
header_answer (ok far) = ok (header_received far)
header_answer (refused n) = refused n
header_answer (violation f) = violation f

-- a report of what is at the front of the input, with its bytes and the place of its payload
abbrev pub ReportsFront : Setup → List ℕ → Entry → Report → Type 0
ReportsFront s input e done = ⊥
ReportsFront s input e (served n) = ⊥
ReportsFront s input e (header_received far) = (read_connection_header input ≡ ok far) × (e.used ≡ 8) × (8 ≤ length input) × (e.start ≡ 0) × (e.end ≡ 0)
ReportsFront s input e (message m late) =
    (read_message (other_end s.role) input ≡ ok m) × (e.used ≡ 4 + body_length m) × (4 + body_length m ≤ length input)
    × (e.start ≡ 4) × (e.end ≡ 4 + body_length m)

pub record ReceiveReads (s : Setup) (log : List Entry) : Type 0 where
  pub taken : (a c : List Entry) (e : Entry) (input room : List ℕ) (r : Report) → log ≡ a ++ (e ∷ c) → e.call ≡ receive input room
      → e.answer ≡ ok r → ReportsFront s input e r
  -- a header is answered as it is read, and only where one is due; a message that is not read is refused as the reader refuses it
  pub headers : (a c : List Entry) (e : Entry) (input room : List ℕ) → log ≡ a ++ (e ∷ c) → e.call ≡ receive input room
      → Awaiting s a (length room) → e.answer ≡ header_answer (read_connection_header input)
  pub awaited : (a c : List Entry) (e : Entry) (input room : List ℕ) (far : ℕ) → log ≡ a ++ (e ∷ c) → e.call ≡ receive input room
      → e.answer ≡ ok (header_received far) → Awaiting s a (length room)
  pub short : (a c : List Entry) (e : Entry) (input room : List ℕ) (n : ℕ) → log ≡ a ++ (e ∷ c) → e.call ≡ receive input room
      → Listening s a (length room) → read_message (other_end s.role) input ≡ refused n → e.answer ≡ refused n
  pub broken : (a c : List Entry) (e : Entry) (input room : List ℕ) (f : Fault) → log ≡ a ++ (e ∷ c) → e.call ≡ receive input room
      → Listening s a (length room) → read_message (other_end s.role) input ≡ violation f → e.answer ≡ violation f

-- ---- what a call writes is what it means, the other end reads it back, and it may be sent then

-- a Data message is compared by its header and its length; its bytes are those of Serves and of PutStream

-- what the log so far tells of the number that an entry concerns
abbrev pub account_before : Setup → List Entry → Entry → Account
account_before s a e = observed s (concerned e.call e.answer) a

abbrev pub meant : Setup → List Entry → Entry → List Output
meant s a e = meant_by s (account_before s a e) e.call e.answer

-- a ping's cookie fits the 16 bits of its place in the message
abbrev pub ReadsBack : Setup → List Entry → Type 0
ReadsBack s log =
    (a c : List Entry) (e : Entry) → log ≡ a ++ (e ∷ c) → ((cookie : ℕ) (room : List ℕ) → e.call ≡ ping cookie room → cookie < 65_536)
    → ReadInOrder s.role e.wrote (meant s a e)

abbrev pub SendsAllowed : Setup → List Entry → Type 0
SendsAllowed s log = (a c : List Entry) (e : Entry) → log ≡ a ++ (e ∷ c) → Every (may_go s (account_before s a e) e) (meant s a e)

-- ---- what the state holds is what the log tells

abbrev pub StateTold : Setup → List ℕ → List Call → ℕ → Type 0
StateTold s queue calls n = account_of (run s queue calls) n ≡ observed s n (log.log s queue calls)

-- ---- only put and turn touch the queue, and only the slot they serve, in which zeros follow the waiting bytes

-- each byte of a number's slot behind the waiting bytes is zero
abbrev pub RestZero : State → ℕ → Type 0
RestZero t n = (i : ℕ) → (at t.connection n).waiting ≤ i → i < slot_size → get_or (slot n t.queue) i 1 ≡ 0

-- the claim for a state of a run
pub record SlotsServed (s : State) : Type 0 where
  pub by_put : (n : ℕ) (bytes : List ℕ) → (out s (put n bytes)).answer ≡ ok done → RestZero (next s (put n bytes)) n
  pub by_turn : (room : List ℕ) (n : ℕ) → (out s (turn room)).answer ≡ ok (served n) → RestZero (next s (turn room)) n
  pub others : (k : Call) (n : ℕ) → n < 128 → (concerned k (out s k).answer ≡ n → ⊥) → slot n (next s k).queue ≡ slot n s.queue
  pub untouched : (k : Call) → ((n : ℕ) (bytes : List ℕ) → k ≡ put n bytes → ⊥) → ((room : List ℕ) → k ≡ turn room → ⊥) → (next s k).queue ≡ s.queue

-- ---- a ration is its start, plus what was granted, less what was spent, counted since the session began

pub record RationLedger (s : Setup) (queue : List ℕ) (calls : List Call) (n : ℕ) : Type 0 where
  -- what we may send, while our end is unfinished
  pub outbound : (t : Side) → (observed s n (log.log s queue calls)).seen.standing ≡ ends side.Open t
      → Balanced (far_of (observed s n (log.log s queue calls)).line) (summed s n (log.log s queue calls)).totals.sending
      (at (run s queue calls).connection n).outbound
  -- what the far end may send, while ours is established and theirs unfinished
  pub inbound : (o : Side) → established o ≡ true → (observed s n (log.log s queue calls)).seen.standing ≡ ends o side.Open
      → Balanced (from_header s.header) (summed s n (log.log s queue calls)).totals.receiving (at (run s queue calls).connection n).inbound
  -- no Data message that is written exceeds what was granted, nor does one that is taken and not late
  pub written : (a c : List Entry) (e : Entry) (before after : List Output) (begins close eof ack : Bool) (size : ℕ)
      → log.log s queue calls ≡ a ++ (e ∷ c) → all_written s.role e.wrote ≡ before ++ (sent (msg.Data begins close eof ack n size) ∷ after)
      → Covers (far_of (observed s n a).line) (summed s n a).totals.sending size
  pub begun : (a c : List Entry) (e : Entry) (close eof ack late : Bool) (size : ℕ) → log.log s queue calls ≡ a ++ (e ∷ c)
      → e.answer ≡ ok (message (msg.Data true close eof ack n size) late) → Covers (from_header s.header) blank_ledger size
  pub taken : (a c : List Entry) (e : Entry) (close eof ack late : Bool) (size : ℕ) → log.log s queue calls ≡ a ++ (e ∷ c)
      → e.answer ≡ ok (message (msg.Data false close eof ack n size) late) → late_of s a (scope (msg.Data false close eof ack n size)) ≡ false
      → Covers (from_header s.header) (summed s n a).totals.receiving size

-- ---- the fate of a session is the one that the log tells

abbrev pub FatesTold : Setup → List ℕ → List Call → ℕ → Type 0
FatesTold s queue calls n = fate_of (at (run s queue calls).connection n).outcome ≡ fate_told s n (log.log s queue calls)

-- ---- the bytes put are the bytes sent: nothing lost, doubled or made up

pub record PutStream (s : Setup) (queue : List ℕ) (calls : List Call) (n : ℕ) : Type 0 where
  -- while a session sends, its payloads so far and then the bytes waiting in its slot are the bytes put
  pub kept : (unsent : Bool) (bytes : List ℕ) (r : Ration) (end : Bool) → (observed s n (log.log s queue calls)).seen.sends ≡ sending unsent bytes r end
      → (summed s n (log.log s queue calls)).totals.payloads ++ take (at (run s queue calls).connection n).waiting (slot n (run s queue calls).queue)
      ≡ (summed s n (log.log s queue calls)).totals.put
  -- at the Data message with eof, its payloads are all the bytes put
  pub whole : (a c : List Entry) (e : Entry) (before after : List Output) (begins close ack : Bool) (size : ℕ)
      → log.log s queue calls ≡ a ++ (e ∷ c) → all_written s.role e.wrote ≡ before ++ (sent (msg.Data begins close true ack n size) ∷ after)
      → (summed s n (a ++ (e ∷ []))).totals.payloads ≡ (summed s n (a ++ (e ∷ []))).totals.put
