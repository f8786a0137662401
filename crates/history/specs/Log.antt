-- The calls of one end, what each leaves, and the entry that it adds to the log.
use Rattle.std.specs.Prelude.{ℕ, ◌<◌, Bool, List, [], take}
use Rattle.laws.specs.Result.{Result}
use Rattle.laws.specs.Runs
use Rattle.state.specs.declared.Connection.{Connection}
use Rattle.state.specs.declared.Setup.{Setup}
use Rattle.state.specs.New.{fresh}
use Rattle.protocol.specs.Judge.{Report}
use Rattle.protocol.specs.Result.{Given, start_call, open_call, put_call, finish_call, turn_call, grant_call, abort_call, close_call, ping_call, shutdown_call, lost_call, receive_call}

-- a call with its arguments; `room` is the room that it is lent, `input` the bytes that arrive
pub data Call : Type 0 where
  start : (room : List ℕ) → Call
  open_session : (number : ℕ) → Call
  put : (number : ℕ) (bytes : List ℕ) → Call
  finish : (number : ℕ) → Call
  turn : (room : List ℕ) → Call
  grant : (number amount : ℕ) (room : List ℕ) → Call
  abort : (number : ℕ) (partial : Bool) (room : List ℕ) → Call
  close : (number : ℕ) (room : List ℕ) → Call
  ping : (cookie : ℕ) (room : List ℕ) → Call
  shutdown : (room : List ℕ) → Call
  lost : Call
  receive : (input room : List ℕ) → Call

-- the room that a call is lent
abbrev pub room_of : Call → List ℕ
room_of (start room) = room
room_of (open_session n) = []
room_of (put n bytes) = []
room_of (finish n) = []
room_of (turn room) = room
room_of (grant n amount room) = room
room_of (abort n partial room) = room
room_of (close n room) = room
room_of (ping cookie room) = room
room_of (shutdown room) = room
room_of lost = []
room_of (receive input room) = room

-- ---- one call

pub record State : Type 0 where
  pub connection : Connection
  pub queue : List ℕ

-- what a call gives, and the queue and the room after it: the definitions that the contracts of the calls cite
abbrev pub called : State → Call → Given × List ℕ × List ℕ
called s (start room) = let g = start_call s.connection room in (g.0, s.queue, g.1)
called s (open_session n) = (open_call s.connection n, s.queue, [])
called s (put n bytes) = let g = put_call s.connection n bytes s.queue in (g.0, g.1, [])
called s (finish n) = (finish_call s.connection n, s.queue, [])
called s (turn room) = turn_call s.connection s.queue room
called s (grant n amount room) = let g = grant_call s.connection n amount room in (g.0, s.queue, g.1)
called s (abort n partial room) = let g = abort_call s.connection n partial room in (g.0, s.queue, g.1)
called s (close n room) = let g = close_call s.connection n room in (g.0, s.queue, g.1)
called s (ping cookie room) = let g = ping_call s.connection cookie room in (g.0, s.queue, g.1)
called s (shutdown room) = let g = shutdown_call s.connection room in (g.0, s.queue, g.1)
called s lost = (lost_call s.connection, s.queue, [])
called s (receive input room) = let g = receive_call s.connection input room in (g.0, s.queue, g.1)

-- an entry of the log: the call, its answer, how many bytes of its input it used, where among them the payload is, and the bytes
-- that it wrote
pub record Entry : Type 0 where
  pub call : Call
  pub answer : Result Report
  pub used : ℕ
  pub start : ℕ
  pub end : ℕ
  pub wrote : List ℕ

-- each call gets what the last one left
unfoldable pub next : State → Call → State
next s k = let g = called s k in record { connection = g.0.connection; queue = g.1 }

-- what a call wrote is at the front of its room
unfoldable pub out : State → Call → Entry
out s k =
    let g = called s k in
    record {
      call = k;
      answer = g.0.answer;
      used = g.0.used;
      start = g.0.start;
      end = g.0.end;
      wrote = take g.0.wrote g.2;
    }

-- ---- runs

-- what the code can hold: a header number of 16 bits
abbrev pub Proper : Setup → Type 0
Proper s = s.header < 65_536

-- a connection just made, with a queue of any bytes and any length
abbrev pub made : Setup → List ℕ → State
made setup queue = record { connection = fresh setup; queue = queue }

abbrev pub run : Setup → List ℕ → List Call → State
run setup queue calls = Runs.run next out (made setup queue) calls

abbrev pub log : Setup → List ℕ → List Call → List Entry
log setup queue calls = Runs.log_of next out (made setup queue) calls
