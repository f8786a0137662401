-- A client's run in which both rations are granted and spent, and the fates of its sessions; what the log adds up to, by computation.
use mathlib.Core.Path.{◌≡◌, refl}
use mathlib.Core.Bool.{true, false}
use mathlib.Core.List.{List, [], ◌∷◌, ◌++◌}
use Prim.Native.Nat.{ℕ}
use Rattle.ration.specs.declared.Ration.TheVariants as ration
use Rattle.wire.specs.declared.Message.TheVariants as msg
use Rattle.state.specs.declared.Side.TheVariants as side
use Rattle.protocol.specs.Connection.{at}
use Rattle.protocol.specs.Fate.{no_fate, running, complete, may_be_retried, must_not_be_retried}
use Rattle.protocol.specs.Judge.{done, served, header_received, message}
use Rattle.protocol.specs.Observed.{ends}
use Rattle.history.specs.Log.{Call, open_session, put, grant, ping, lost, log, run}
use Rattle.history.specs.Account.{observed}
use Rattle.history.specs.Sums.{summed}
use Rattle.history.specs.Fates.{fate_told}
use Rattle.runs.proofs.Played.{played, client, zeros, queue, starts, receives, turns, taken, greets, took}

-- "Jmux", version 1, header number 1: a ration of 256
abbrev far_header : List ℕ
far_header = 0x4A ∷ 0x6D ∷ 0x75 ∷ 0x78 ∷ 0x01 ∷ 0x00 ∷ 0x01 ∷ 0x00 ∷ []

-- IncrementRation, session 5: 3 times 2 to the power of 2
abbrev increments_5 : List ℕ
increments_5 = 0x12 ∷ 0x05 ∷ 0x00 ∷ 0x03 ∷ []

-- two bytes of session 5
abbrev answers_5 : List ℕ
answers_5 = 0x80 ∷ 0x05 ∷ 0x00 ∷ 0x02 ∷ 0x6F ∷ 0x6B ∷ []

-- PingAck with cookie 258
abbrev acknowledges : List ℕ
acknowledges = 0x06 ∷ 0x00 ∷ 0x01 ∷ 0x02 ∷ []

-- the last byte of session 5, with eof and close
abbrev closes_5 : List ℕ
closes_5 = 0x8C ∷ 0x05 ∷ 0x00 ∷ 0x01 ∷ 0x21 ∷ []

abbrev abcd : List ℕ
abcd = 0x61 ∷ 0x62 ∷ 0x63 ∷ 0x64 ∷ []

abbrev grant_5 : Call
grant_5 = grant 5 700 (zeros 4)

abbrev pings : Call
pings = ping 258 (zeros 4)

abbrev opened : List Call
opened = starts ∷ receives far_header ∷ open_session 5 ∷ []

-- four bytes go out, an increment comes in, one more byte waits; a grant goes out, two bytes come in
abbrev exchanged : List Call
exchanged = opened ++ (put 5 abcd ∷ turns ∷ receives increments_5 ∷ put 5 (0x65 ∷ []) ∷ grant_5 ∷ receives answers_5 ∷ [])

-- and a ping is answered, the server closes the session, 6 is opened, and the line is lost
abbrev closed : List Call
closed = exchanged ++ (pings ∷ receives acknowledges ∷ receives closes_5 ∷ open_session 6 ∷ lost ∷ [])

pub client_log : log client queue closed
    ≡ taken starts done (0x4A ∷ 0x6D ∷ 0x75 ∷ 0x78 ∷ 0x01 ∷ 0x00 ∷ 0x08 ∷ 0x00 ∷ [])
    ∷ greets far_header (header_received 1) []
    ∷ taken (open_session 5) done []
    ∷ taken (put 5 abcd) done []
    ∷ taken turns (served 5) (0x90 ∷ 0x05 ∷ 0x00 ∷ 0x04 ∷ abcd)
    ∷ took 4 increments_5 (message (msg.IncrementRation 1 5 3) false) []
    ∷ taken (put 5 (0x65 ∷ [])) done []
    ∷ taken grant_5 done (0x10 ∷ 0x05 ∷ 0x02 ∷ 0xBC ∷ [])
    ∷ took 6 answers_5 (message (msg.Data false false false false 5 2) false) []
    ∷ taken pings done (0x04 ∷ 0x00 ∷ 0x01 ∷ 0x02 ∷ [])
    ∷ took 4 acknowledges (message (msg.PingAck 258) false) []
    ∷ took 5 closes_5 (message (msg.Data false true true false 5 1) false) (0x20 ∷ 0x05 ∷ 0x00 ∷ 0x00 ∷ [])
    ∷ taken (open_session 6) done []
    ∷ taken lost done []
    ∷ []
unfolding played
client_log = refl

-- ---- rations and bytes, while both ends are unfinished

pub both_unfinished : (observed client 5 (log client queue exchanged)).seen.standing ≡ ends side.Open side.Open
unfolding played
both_unfinished = refl

-- the far start 256, plus 12, less 4
pub sending_5 : (summed client 5 (log client queue exchanged)).totals.sending ≡ record { granted = 12; spent = 4 }
unfolding played
sending_5 = refl

pub outbound_5 : (at (run client queue exchanged).connection 5).outbound ≡ ration.Finite 264
unfolding played
outbound_5 = refl

-- our start 2,048, plus 700, less 2
pub receiving_5 : (summed client 5 (log client queue exchanged)).totals.receiving ≡ record { granted = 700; spent = 2 }
unfolding played
receiving_5 = refl

pub inbound_5 : (at (run client queue exchanged).connection 5).inbound ≡ ration.Finite 2_746
unfolding played
inbound_5 = refl

-- four of the five bytes put are sent
pub put_5 : (summed client 5 (log client queue exchanged)).totals.put ≡ abcd ++ (0x65 ∷ [])
unfolding played
put_5 = refl

pub payloads_5 : (summed client 5 (log client queue exchanged)).totals.payloads ≡ abcd
unfolding played
payloads_5 = refl

-- ---- fates

-- none before the first open, running until the close, then complete, and a lost line leaves it so
pub fate_before : fate_told client 5 [] ≡ no_fate
unfolding played
fate_before = refl

pub fate_running : fate_told client 5 (log client queue exchanged) ≡ running
unfolding played
fate_running = refl

pub fate_complete : fate_told client 5 (log client queue closed) ≡ complete
unfolding played
fate_complete = refl

-- a lost line: the opening that is unsent may be retried, what was sent must not be
pub fate_unsent : fate_told client 6 (log client queue closed) ≡ may_be_retried
unfolding played
fate_unsent = refl

pub fate_sent : fate_told client 5 (log client queue (exchanged ++ (lost ∷ []))) ≡ must_not_be_retried
unfolding played
fate_sent = refl
