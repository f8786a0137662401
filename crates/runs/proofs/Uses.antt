-- The claims at work: applied to a server and a client at the ends of what they speak of, and what their words refuse, by computation.
use mathlib.Core.Path.{◌≡◌, refl, subst}
use mathlib.Core.Bool.{Bool, true, false}
use mathlib.Core.List.{List, [], ◌∷◌, ◌++◌}
use Prim.Native.Nat.{ℕ, ◌≤◌, ◌<◌}
use native.Mathlib.Omega.{arith}
use lib.ListN.{drop, get_or}
use Rattle.laws.specs.Pick.{pick}
use Rattle.laws.specs.Result.{Fault, Result, ok, refused, violation}
use Rattle.laws.specs.Runs.{times}
use Rattle.wire.specs.declared.Role.{Role}
use Rattle.wire.specs.declared.Role.TheVariants as role
use Rattle.wire.specs.declared.Message.{Message}
use Rattle.wire.specs.declared.Message.TheVariants as msg
use Rattle.wire.specs.Message.{read_message}
use Rattle.state.specs.declared.Setup.{Setup}
use Rattle.state.specs.declared.Connection.{Connection}
use Rattle.state.specs.declared.Session.{Session}
use Rattle.state.specs.declared.Outcome.{Outcome}
use Rattle.state.specs.With.{with_outcome}
use Rattle.protocol.specs.Queue.{slot}
use Rattle.protocol.specs.Connection.{at}
use Rattle.protocol.specs.Judge.{Report, done, served, header_received, message, header_out, sent}
use Rattle.history.specs.Log.{Call, start, open_session, put, finish, grant, abort, close, ping, shutdown, lost, State, Entry, log, Proper}
use Rattle.history.specs.Account.{Account, observed}
use Rattle.history.specs.Answers.{answer_told}
use Rattle.history.specs.Meant.{ReadInOrder, may_go}
use Rattle.history.specs.Claims.{takes_input, RestZero, SameButOutcome, OnlyOver}
use Rattle.history.proofs.Speaking.{reads_back}
use Rattle.history.proofs.Reading.{receive_reads}
use Rattle.runs.proofs.Played.{played, client, zeros, queue, starts, receives, turns, taken, took}

-- ---- the largest header number, at either end

abbrev end_of : Role → Setup
end_of r = record { role = r; header = 65_535 }

proper : (r : Role) → Proper (end_of r)
proper r = omega arith

-- a server that has a client's header
abbrev heard : List Call
heard = receives (0x4A ∷ 0x6D ∷ 0x75 ∷ 0x78 ∷ 0x01 ∷ 0x00 ∷ 0x01 ∷ 0x00 ∷ []) ∷ []

abbrev pinging : Entry
pinging = taken (ping 65_535 (zeros 4)) done (0x04 ∷ 0x00 ∷ 0xFF ∷ 0xFF ∷ [])

-- a Ping with the largest cookie reads back, and nothing is left over
pub reads_ping : (read_message role.Server (0x04 ∷ 0x00 ∷ 0xFF ∷ 0xFF ∷ []) ≡ ok (msg.Ping 65_535)) × (drop {A = ℕ} 4 (0x04 ∷ 0x00 ∷ 0xFF ∷ 0xFF ∷ []) ≡ [])
unfolding played ReadInOrder
reads_ping =
    reads_back (end_of role.Server) (proper role.Server) queue (heard ++ (pinging.call ∷ [])) (log (end_of role.Server) queue heard) [] pinging refl
    (λ cookie room e. subst (λ (k : ℕ). k < 65_536) (same e) (omega arith))
  where
    same : {i j : ℕ} {a b : List ℕ} → ping i a ≡ ping j b → i ≡ j
    same e = cc

-- a client's open that a server takes: read from the input, with its bytes and the place of its payload
abbrev opened : Entry
opened = took 7 (0x90 ∷ 0x05 ∷ 0x00 ∷ 0x03 ∷ 0x61 ∷ 0x62 ∷ 0x63 ∷ []) (message (msg.Data true false false false 5 3) false) []

pub reads_open : (read_message role.Client (0x90 ∷ 0x05 ∷ 0x00 ∷ 0x03 ∷ 0x61 ∷ 0x62 ∷ 0x63 ∷ []) ≡ ok (msg.Data true false false false 5 3))
    × (opened.used ≡ 7) × (7 ≤ 7) × (opened.start ≡ 4) × (opened.end ≡ 7)
unfolding played
reads_open =
    (receive_reads (end_of role.Server) (proper role.Server) queue (heard ++ (opened.call ∷ []))).taken (log (end_of role.Server) queue heard) [] opened
    (0x90 ∷ 0x05 ∷ 0x00 ∷ 0x03 ∷ 0x61 ∷ 0x62 ∷ 0x63 ∷ []) (zeros 12) (message (msg.Data true false false false 5 3) false) refl refl refl

-- ---- what may not be written

-- a client has sent its open of 5, and may send 256 bytes
abbrev sending : List Call
sending =
    starts ∷ receives (0x4A ∷ 0x6D ∷ 0x75 ∷ 0x78 ∷ 0x01 ∷ 0x00 ∷ 0x01 ∷ 0x00 ∷ []) ∷ open_session 5 ∷ turns ∷ []

abbrev told : Account
told = observed client 5 (log client queue sending)

-- an entry about 5, and one after the connection is over
abbrev entry : Entry
entry = taken (put 5 []) done []

abbrev over : Account
over = observed client 5 (log client queue (sending ++ (lost ∷ [])))

pub may_not_go : (may_go client told entry (header_out 8) ≡ false)
    × (may_go client told entry (sent (msg.Shutdown 0)) ≡ false)
    × (may_go client told entry (sent (msg.Error 0)) ≡ false)
    × (may_go client told entry (sent (msg.PingAck 1)) ≡ false)
    × (may_go client told entry (sent (msg.Close 5)) ≡ false)
    × (may_go client told entry (sent (msg.Abort true 5 0)) ≡ false)
    × (may_go client told entry (sent (msg.Abort false 6 0)) ≡ false)
    × (may_go client told entry (sent (msg.Data true false false false 5 0)) ≡ false)
    × (may_go client told entry (sent (msg.Data false false false false 5 257)) ≡ false)
    × (may_go client over entry (sent (msg.Data false false false false 5 0)) ≡ false)
unfolding played
may_not_go = (refl, refl, refl, refl, refl, refl, refl, refl, refl, refl)

-- and what may, beside it
pub may_go_lem : (may_go client told entry (sent (msg.Ping 1)) ≡ true)
    × (may_go client told entry (sent (msg.Abort false 5 0)) ≡ true)
    × (may_go client told entry (sent (msg.Data false false false false 5 256)) ≡ true)
unfolding played
may_go_lem = (refl, refl, refl)

-- ---- what the words say

-- only a header and a message use input
pub input_taken : (far number : ℕ) (f : Fault) (m : Message) (late : Bool)
    → (takes_input (ok done) ≡ false) × (takes_input (ok (served number)) ≡ false) × (takes_input (ok (header_received far)) ≡ true)
    × (takes_input (ok (message m late)) ≡ true) × (takes_input (refused number) ≡ false) × (takes_input (violation f) ≡ false)
input_taken far number f m late = (refl, refl, refl, refl, refl, refl)

-- what a local call answers is told without its answer
pub told_alone : (s : Setup) (q : ℕ) (a : Account) (n k : ℕ) (b : Bool) (bytes room : List ℕ) (x y : Result Report)
    → (answer_told s q a (start room) x ≡ answer_told s q a (start room) y)
    × (answer_told s q a (open_session n) x ≡ answer_told s q a (open_session n) y)
    × (answer_told s q a (put n bytes) x ≡ answer_told s q a (put n bytes) y)
    × (answer_told s q a (finish n) x ≡ answer_told s q a (finish n) y)
    × (answer_told s q a (grant n k room) x ≡ answer_told s q a (grant n k room) y)
    × (answer_told s q a (abort n b room) x ≡ answer_told s q a (abort n b room) y)
    × (answer_told s q a (close n room) x ≡ answer_told s q a (close n room) y)
    × (answer_told s q a (ping k room) x ≡ answer_told s q a (ping k room) y)
    × (answer_told s q a (shutdown room) x ≡ answer_told s q a (shutdown room) y)
    × (answer_told s q a lost x ≡ answer_told s q a lost y)
told_alone s q a n k b bytes room x y = (refl, refl, refl, refl, refl, refl, refl, refl, refl, refl)

-- every byte behind those that wait, up to the 512th
pub rest_in_numbers : (t : State) (n : ℕ) → RestZero t n → (i : ℕ) → (at t.connection n).waiting ≤ i → i < 512 → get_or (slot n t.queue) i 1 ≡ 0
rest_in_numbers t n z = z

-- sessions that are the same but for the outcome are the same once it is set
pub same_once_set : (o : Outcome) (x y : Session) → SameButOutcome x y → with_outcome o x ≡ with_outcome o y
same_once_set o x y e i =
    record { sides = e.sides i; outbound = e.outbound i; inbound = e.inbound i; waiting = e.waiting i; finish = e.finish i; outcome = o }

-- a connection that is over, with only outcomes changed, is the one before in every part but its sessions
pub only_over_whole : (before after : Connection) → OnlyOver before after
    → after ≡ record { sessions = after.sessions; stage = before.stage; over = true; own = before.own; last = before.last; ping = before.ping }
only_over_whole before after e i =
    record { sessions = after.sessions; stage = e.stage i; over = e.over i; own = e.own i; last = e.last i; ping = e.ping i }

pub only_over_sessions : (before after : Connection) → OnlyOver before after → (n : ℕ) → SameButOutcome (at after n) (at before n)
only_over_sessions before after e = e.sessions

pub counted_twice : times 5 (5 ∷ 6 ∷ 5 ∷ []) ≡ 2
unfolding times pick
counted_twice = refl
