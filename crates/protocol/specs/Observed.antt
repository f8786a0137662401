-- What calls, their answers and the messages on the line tell about the connection and one session number. No value of the
-- engine's state appears.
use Rattle.std.specs.Prelude.{ℕ, ◌-◌, Bool, true, false, not, ◌&&◌, ◌||◌, List, [], ◌∷◌, ◌++◌, length, drop, eqb, leb}
use Rattle.laws.specs.Pick.{pick}
use Rattle.ration.specs.declared.Ration.{Ration}
use Rattle.ration.specs.declared.Ration.TheVariants as ration
use Rattle.ration.specs.Ration.{from_header, allows, in_range, plus, minus}
use Rattle.wire.specs.declared.Role.{Role}
use Rattle.wire.specs.declared.Role.TheVariants as role
use Rattle.wire.specs.Message.{is_client, is_server, only_if, data_flags}
use Rattle.state.specs.declared.Side.{Side}
use Rattle.state.specs.declared.Side.TheVariants as side
use Rattle.protocol.specs.Message.{SessionMessage, data_of, increment_of, abort_of, close_of, acknowledgment_of}

-- ---- the connection as a whole

-- the headers so far: none, ours alone, or both, with the number of the far one
pub data Greeting : Type 0 where
  no_header own_header : Greeting
  both_headers : ℕ → Greeting

abbrev pub greeted : Greeting → Bool
greeted no_header = false
greeted own_header = false
greeted (both_headers far) = true

-- the start that the far header grants; before it nothing is sent, so no answer depends on it
abbrev pub start_told : Greeting → Ration
start_told no_header = ration.Endless
start_told own_header = ration.Endless
start_told (both_headers far) = from_header far

-- the cookie of a Ping of ours that is not answered
pub data Pinging : Type 0 where
  no_ping : Pinging
  pinged : ℕ → Pinging

abbrev pub awaits : Pinging → ℕ → Bool
awaits no_ping k = false
awaits (pinged j) k = eqb j k

-- ---- what happens to a session number

-- a call of ours is taken, a message is taken, a message is written
pub data Event : Type 0 where
  opens finishes aborts : Event
  puts : List ℕ → Event
  received : SessionMessage → Event
  wrote : SessionMessage → Event

-- ---- whether it sends

-- a session sends, or it does not; if it does: whether it is unsent, the bytes waiting, the ration, whether finish was taken
pub data Sending : Type 0 where
  silent : Sending
  sending : Bool → List ℕ → Ration → Bool → Sending

abbrev pub with_put : List ℕ → Sending → Sending
with_put bytes silent = silent
with_put bytes (sending unsent waiting r finish) = sending unsent (waiting ++ bytes) r finish

abbrev pub with_finish : Sending → Sending
with_finish silent = silent
with_finish (sending unsent waiting r finish) = sending unsent waiting r true

abbrev pub with_increment : ℕ → Sending → Sending
with_increment n silent = silent
with_increment n (sending unsent waiting r finish) = sending unsent waiting (plus r n) finish

-- Data written: its length is taken from what waits and from the ration; with eof the session sends no more
abbrev pub with_data : ℕ → Bool → Sending → Sending
with_data n eof silent = silent
with_data n true (sending unsent waiting r finish) = silent
with_data n false (sending unsent waiting r finish) = sending false (drop n waiting) (minus r n) finish

-- a session begins with a client's open or a server's receipt of an open Data message, at the far header's start
abbrev pub sends_after : Ration → Sending → Event → Sending
sends_after far v opens = sending true [] far false
sends_after far v finishes = with_finish v
sends_after far v aborts = silent
sends_after far v (puts bytes) = with_put bytes v
sends_after far v (received (data_of n true close eof ack)) = sending false [] far false
sends_after far v (received (data_of n false close eof ack)) = v
sends_after far v (received (increment_of n)) = with_increment n v
sends_after far v (received (abort_of partial)) = v
sends_after far v (received close_of) = v
sends_after far v (received acknowledgment_of) = v
sends_after far v (wrote (data_of n begins close eof ack)) = with_data n eof v
sends_after far v (wrote (increment_of n)) = v
sends_after far v (wrote (abort_of partial)) = silent
sends_after far v (wrote close_of) = v
sends_after far v (wrote acknowledgment_of) = v

-- ---- ready

abbrev pub is_empty : List ℕ → Bool
is_empty [] = true
is_empty (b ∷ bs) = false

abbrev pub any_left : Ration → Bool
any_left (ration.Finite n) = not (eqb n 0)
any_left ration.Endless = true

-- its opening is unsent, or it has bytes waiting and ration left, or nothing waiting and its end to announce
abbrev pub is_ready : Sending → Bool
is_ready silent = false
is_ready (sending true waiting r finish) = true
is_ready (sending false waiting r finish) = not (is_empty waiting) && any_left r || is_empty waiting && finish

-- what ends a wait other than the number's own Data: its abort, or an Abort, Close or close flag received
abbrev pub lapses : Event → Bool
lapses opens = false
lapses finishes = false
lapses aborts = true
lapses (puts bytes) = false
lapses (received (data_of n begins close eof ack)) = close
lapses (received (increment_of n)) = false
lapses (received (abort_of partial)) = true
lapses (received close_of) = true
lapses (received acknowledgment_of) = false
lapses (wrote m) = false

abbrev pub any_lapse : List Event → Bool
any_lapse [] = false
any_lapse (e ∷ es) = lapses e || any_lapse es

-- ---- the state of each end, in the words of the published protocol, "Sessions"

-- the session that a number last named: established with respect to an end (open), also finished, or terminated (ended)
pub data Ends : Type 0 where
  unused : Ends
  ends : Side → Side → Ends

-- our end changes, the other stays
abbrev pub ours : Side → Ends → Ends
ours s unused = unused
ours s (ends o t) = ends s t

abbrev pub theirs : Side → Ends → Ends
theirs s unused = unused
theirs s (ends o t) = ends o s

-- a session is established with respect to an end that has not terminated it
abbrev pub established : Side → Bool
established side.Open = true
established side.Finished = true
established side.Ended = false

abbrev pub unfinished : Side → Bool
unfinished side.Open = true
unfinished side.Finished = false
unfinished side.Ended = false

-- the sender's end after Data: the close flag terminates, eof finishes
abbrev pub data_leaves : Bool → Bool → Side
data_leaves true eof = side.Ended
data_leaves false true = side.Finished
data_leaves false false = side.Open

-- an open Data message establishes a session with respect to both ends
abbrev pub ends_after : Ends → Event → Ends
ends_after v opens = v
ends_after v finishes = v
ends_after v aborts = v
ends_after v (puts bytes) = v
ends_after v (received (data_of n true close eof ack)) = ends side.Open (data_leaves close eof)
ends_after v (received (data_of n false close eof ack)) = theirs (data_leaves close eof) v
ends_after v (received (increment_of n)) = v
ends_after v (received (abort_of partial)) = theirs side.Ended v
ends_after v (received close_of) = theirs side.Ended v
ends_after v (received acknowledgment_of) = v
ends_after v (wrote (data_of n true close eof ack)) = ends (data_leaves close eof) side.Open
ends_after v (wrote (data_of n false close eof ack)) = ours (data_leaves close eof) v
ends_after v (wrote (increment_of n)) = v
ends_after v (wrote (abort_of partial)) = ours side.Ended v
ends_after v (wrote close_of) = ours side.Ended v
ends_after v (wrote acknowledgment_of) = v

-- ---- what the far end may still send: our start, plus what was granted, less the Data taken and not late

-- a message that crossed our eof, Abort or Close: Data where we have terminated the session, an increment where we send no more
abbrev pub late_for : Ends → SessionMessage → Bool
late_for unused m = false
late_for (ends o t) (data_of n true close eof ack) = false
late_for (ends o t) (data_of n false close eof ack) = not (established o)
late_for (ends o t) (increment_of n) = not (unfinished o)
late_for (ends o t) (abort_of partial) = false
late_for (ends o t) close_of = false
late_for (ends o t) acknowledgment_of = false

-- late Data is not counted
abbrev pub counted : Ends → Ration → ℕ → Ration
counted unused v n = v
counted (ends side.Open t) v n = minus v n
counted (ends side.Finished t) v n = minus v n
counted (ends side.Ended t) v n = v

abbrev pub inbound_after : Ration → Ends → Ration → Event → Ration
inbound_after own st v opens = v
inbound_after own st v finishes = v
inbound_after own st v aborts = v
inbound_after own st v (puts bytes) = v
inbound_after own st v (received (data_of n true close eof ack)) = minus own n
inbound_after own st v (received (data_of n false close eof ack)) = counted st v n
inbound_after own st v (received (increment_of n)) = v
inbound_after own st v (received (abort_of partial)) = v
inbound_after own st v (received close_of) = v
inbound_after own st v (received acknowledgment_of) = v
inbound_after own st v (wrote (data_of n true close eof ack)) = own
inbound_after own st v (wrote (data_of n false close eof ack)) = v
inbound_after own st v (wrote (increment_of n)) = plus v n
inbound_after own st v (wrote (abort_of partial)) = v
inbound_after own st v (wrote close_of) = v
inbound_after own st v (wrote acknowledgment_of) = v

-- ---- all that is told of a number

pub record Seen : Type 0 where
  pub standing : Ends
  pub sends : Sending
  pub inbound : Ration

-- `own` and `far` are the starting rations that our header and theirs grant
abbrev pub observe : Ration → Ration → Seen → Event → Seen
observe own far v e =
    record {
      standing = ends_after v.standing e;
      sends = sends_after far v.sends e;
      inbound = inbound_after own v.standing v.inbound e;
    }

-- ---- what is answered

-- a message that ends its session is answered with an Abort if our end is unfinished, and at a server also if our end is
-- finished and an Abort comes
abbrev pub answered : Role → Side → SessionMessage → Bool
answered r o (data_of n begins close eof ack) = not begins && close && unfinished o
answered r o (increment_of n) = false
answered r o (abort_of partial) = established o && only_if (is_client r) (unfinished o)
answered r o close_of = unfinished o
answered r o acknowledgment_of = false

-- a server's Abort sets partial
abbrev pub replies_at : Role → Ends → SessionMessage → List SessionMessage
replies_at r unused m = []
replies_at r (ends o t) m = pick (answered r o m) (abort_of (is_server r) ∷ []) []

abbrev pub replies_to : Role → Seen → SessionMessage → List SessionMessage
replies_to r v m = replies_at r v.standing m

-- ---- what a turn sends

-- as many bytes as wait, or as many as the ration has left if that is less
abbrev pub due_length : ℕ → Ration → ℕ
due_length waiting (ration.Finite n) = pick (leb waiting n) waiting n
due_length waiting ration.Endless = waiting

-- the smaller of waiting and ration as length, open if unsent, eof exactly if finish was taken and nothing remains
abbrev pub due_by : Sending → SessionMessage
due_by silent = data_of 0 false false false false
due_by (sending unsent waiting r finish) =
    data_of (due_length (length waiting) r) unsent false (finish && eqb (length waiting - due_length (length waiting) r) 0) false

abbrev pub due_data : Seen → SessionMessage
due_data v = due_by v.sends

-- ---- what the published protocol lets an end send now

abbrev pub finished : Side → Bool
finished side.Open = false
finished side.Finished = true
finished side.Ended = false

-- a client may use the number anew: terminated with respect to the server, and terminated with respect to the client or finished by it
abbrev pub reusable : Side → Side → Bool
reusable client server = not (established server) && not (unfinished client)

-- a message other than an open Data, from one end to the other; `r` is the ration of what it sends, `back` that of what it receives.
-- The published protocol, "Acknowledgment Message", also requires that an Acknowledgment was asked for: that is not checked
abbrev pub permits : Side → Side → Ration → Ration → SessionMessage → Bool
permits sender receiver r back (data_of n begins close eof ack) =
    not begins && unfinished sender && only_if (established receiver) (allows r n)
permits sender receiver r back (increment_of n) = established sender && only_if (unfinished receiver) (in_range (plus back n))
permits sender receiver r back (abort_of partial) = established sender
permits sender receiver r back close_of = finished sender
permits sender receiver r back acknowledgment_of = established sender

abbrev pub ration_of : Sending → Ration
ration_of silent = ration.Finite 0
ration_of (sending unsent waiting r finish) = r

-- whether a client may open the number, as seen from an end with this role
abbrev pub may_open : Role → Ends → Bool
may_open r unused = true
may_open role.Client (ends o t) = reusable o t
may_open role.Server (ends o t) = reusable t o

abbrev pub is_abort : SessionMessage → Bool
is_abort (data_of n begins close eof ack) = false
is_abort (increment_of n) = false
is_abort (abort_of partial) = true
is_abort close_of = false
is_abort acknowledgment_of = false

-- once the far end has terminated the session only an Abort may go, except that a finished client may go on
abbrev pub permits_ours : Role → Ends → Seen → SessionMessage → Bool
permits_ours r unused v m = false
permits_ours r (ends o t) v m =
    only_if (not (established t) && (unfinished o || is_server r)) (is_abort m) && permits o t (ration_of v.sends) v.inbound m

-- the far end may not know yet that we have terminated the session, so that is not checked
abbrev pub permits_theirs : Ends → Seen → SessionMessage → Bool
permits_theirs unused v m = false
permits_theirs (ends o t) v m = permits t o v.inbound (ration_of v.sends) m

-- for an open Data message the value for its length, for any other message the other value
abbrev pub if_opens : {A : Type 0} → SessionMessage → (ℕ → A) → A → A
if_opens (data_of n true close eof ack) begun rest = begun n
if_opens (data_of n false close eof ack) begun rest = rest
if_opens (increment_of n) begun rest = rest
if_opens (abort_of partial) begun rest = rest
if_opens close_of begun rest = rest
if_opens acknowledgment_of begun rest = rest

-- our end may send the message now; a client's open Data spends the far start
abbrev pub may_write : Role → Ration → Seen → SessionMessage → Bool
may_write r far v m = if_opens m (λ n. is_client r && may_open r v.standing && allows far n) (permits_ours r v.standing v m)

-- the far end may send the message now; a client's open Data spends our start
abbrev pub may_arrive : Role → Ration → Seen → SessionMessage → Bool
may_arrive r own v m = if_opens m (λ n. is_server r && may_open r v.standing && allows own n) (permits_theirs v.standing v m)

-- ---- why a message may not arrive: it is wrong for the state of the session (25), above the ration (26), or past the largest (27)

abbrev pub wrong_of : Ends → SessionMessage → ℕ
wrong_of unused m = 25
wrong_of (ends o t) (data_of n begins close eof ack) = pick (unfinished t) 26 25
wrong_of (ends o t) (increment_of n) = pick (established t) 27 25
wrong_of (ends o t) (abort_of partial) = 25
wrong_of (ends o t) close_of = 25
wrong_of (ends o t) acknowledgment_of = 25

abbrev pub wrong_number : Role → Ends → SessionMessage → ℕ
wrong_number r st m = if_opens m (λ n. pick (is_server r && may_open r st) 26 25) (wrong_of st m)

-- the type and the flags are ones that an end of the role may send at all
abbrev pub from_role : Role → SessionMessage → Bool
from_role r (data_of n begins close eof ack) = data_flags r begins close eof ack
from_role r (increment_of n) = true
from_role r (abort_of partial) = only_if partial (is_server r)
from_role r close_of = is_server r
from_role r acknowledgment_of = is_client r
