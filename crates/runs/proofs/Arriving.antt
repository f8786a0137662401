-- Claims on what arrives, what is answered and what is sent, applied to a server's run: what each of their parts gives there.
use mathlib.Core.Path.{◌≡◌, refl, sym, ap}
use mathlib.Core.Bool.{true, false, true≢false}
use mathlib.Core.List.{List, [], ◌∷◌, ◌++◌}
use Prim.Native.Nat.{ℕ, ◌≤◌, ◌<◌, ◌+◌}
use native.Mathlib.Omega.{arith}
use lib.ListN.{length}
use Rattle.laws.specs.Result.{fault, ok, refused, violation}
use Rattle.wire.specs.declared.Message.{Message}
use Rattle.wire.specs.Connection.{read_connection_header}
use Rattle.wire.specs.declared.Message.TheVariants as msg
use Rattle.protocol.specs.Message.{scope}
use Rattle.protocol.specs.Judge.{done, header_received, message, sent}
use Rattle.history.specs.Log.{Call, ping, turn, Entry, out, run, log, Proper}
use Rattle.history.specs.Claims.{Listening, Awaiting, data_written, may_come, account_before}
use Rattle.history.specs.Meant.{may_go}
use Rattle.history.specs.Answers.{answer_told}
use Rattle.history.specs.Account.{observed}
use Rattle.history.proofs.Bounded.{bounded_waiting}
use Rattle.history.proofs.Taking.{takes_exactly}
use Rattle.history.proofs.Reading.{receive_reads}
use Rattle.history.proofs.Answering.{answers_exactly}
use Rattle.history.proofs.Speaking.{sends_allowed}
use Rattle.history.proofs.Counting.{ration_ledger}
use Rattle.runs.proofs.Played.{played, server, zeros, queue, receives, taken, greets, took, refuses, breaks}

proper : Proper server
proper = omega arith

below : 5 < 128
below = omega arith

-- a client's header, with number 1
abbrev far_header : List ℕ
far_header = 0x4A ∷ 0x6D ∷ 0x75 ∷ 0x78 ∷ 0x01 ∷ 0x00 ∷ 0x01 ∷ 0x00 ∷ []

-- it opens 5 with "abc", and sends "de"
abbrev opens_5 : List ℕ
opens_5 = 0x90 ∷ 0x05 ∷ 0x00 ∷ 0x03 ∷ 0x61 ∷ 0x62 ∷ 0x63 ∷ []

abbrev sends_5 : List ℕ
sends_5 = 0x80 ∷ 0x05 ∷ 0x00 ∷ 0x02 ∷ 0x64 ∷ 0x65 ∷ []

abbrev data_of_5 : Message
data_of_5 = msg.Data false false false false 5 2

-- Data for 7, which is idle
abbrev sends_7 : List ℕ
sends_7 = 0x80 ∷ 0x07 ∷ 0x00 ∷ 0x00 ∷ []

abbrev greeted_by : List Call
greeted_by = receives far_header ∷ []

abbrev opened_by : List Call
opened_by = greeted_by ++ (receives opens_5 ∷ [])

abbrev opened : Entry
opened = took 7 opens_5 (message (msg.Data true false false false 5 3) false) []

abbrev more : Entry
more = took 6 sends_5 (message data_of_5 false) []

listens : Listening server (log server queue opened_by) (length (zeros 12))
unfolding played
listens = record { not_over = refl; up = refl; roomy = omega arith }

-- ---- taken exactly where it may come

pub taken_there : more.answer ≡ ok (message data_of_5 false)
unfolding played
taken_there =
    (takes_exactly server proper queue (opened_by ++ (receives sends_5 ∷ []))).takes (log server queue opened_by) [] more sends_5 (zeros 12) data_of_5 refl refl
    listens refl refl

pub broken_there : (breaks sends_7 25 1).answer ≡ violation (fault 25 1)
unfolding played
broken_there =
    (takes_exactly server proper queue (opened_by ++ (receives sends_7 ∷ []))).else_violated (log server queue opened_by) [] (breaks sends_7 25 1) sends_7 (zeros 12)
    (msg.Data false false false false 7 0) refl refl listens refl refl

pub only_there : Listening server (log server queue opened_by) 12 × (may_come server (log server queue opened_by) (scope data_of_5) ≡ true) × (false ≡ false)
unfolding played
only_there =
    (takes_exactly server proper queue (opened_by ++ (receives sends_5 ∷ []))).only (log server queue opened_by) [] more sends_5 (zeros 12) data_of_5 false refl refl
    refl

-- within the ration that our header grants, 1,024: the open, and what follows
pub begun_within : 0 + 3 ≤ 1_024 + 0
unfolding played
begun_within =
    (ration_ledger server proper queue 5 below opened_by).begun (log server queue greeted_by) [] opened false false false false 3 refl refl

pub taken_within : 3 + 2 ≤ 1_024 + 0
unfolding played
taken_within =
    (ration_ledger server proper queue 5 below (opened_by ++ (receives sends_5 ∷ []))).taken (log server queue opened_by) [] more false false false false 2 refl refl
    refl

-- ---- read from the input

abbrev heard : Entry
heard = greets far_header (header_received 1) (0x4A ∷ 0x6D ∷ 0x75 ∷ 0x78 ∷ 0x01 ∷ 0x00 ∷ 0x04 ∷ 0x00 ∷ [])

awaits : Awaiting server [] 12
unfolding played
awaits = record { not_over = refl; due = refl; roomy = omega arith }

pub header_there : heard.answer ≡ ok (header_received 1)
unfolding played
header_there = (receive_reads server proper queue greeted_by).headers [] [] heard far_header (zeros 12) refl refl awaits

pub reads_header : (read_connection_header far_header ≡ ok 1) × (heard.used ≡ 8) × (8 ≤ 8) × (heard.start ≡ 0) × (heard.end ≡ 0)
unfolding played
reads_header = (receive_reads server proper queue greeted_by).taken [] [] heard far_header (zeros 12) (header_received 1) refl refl refl

pub awaited_there : Awaiting server [] 12
unfolding played
awaited_there = (receive_reads server proper queue greeted_by).awaited [] [] heard far_header (zeros 12) 1 refl refl refl

-- three bytes of a message, and an odd first byte
pub short_there : (refuses (receives (0x80 ∷ 0x05 ∷ 0x00 ∷ [])) 10).answer ≡ refused 10
unfolding played
short_there =
    (receive_reads server proper queue (opened_by ++ (receives (0x80 ∷ 0x05 ∷ 0x00 ∷ []) ∷ []))).short (log server queue opened_by) []
    (refuses (receives (0x80 ∷ 0x05 ∷ 0x00 ∷ [])) 10) (0x80 ∷ 0x05 ∷ 0x00 ∷ []) (zeros 12) 10 refl refl listens refl

pub odd_there : (breaks (0x01 ∷ 0x00 ∷ 0x00 ∷ 0x00 ∷ []) 20 0).answer ≡ violation (fault 20 0)
unfolding played
odd_there =
    (receive_reads server proper queue (opened_by ++ (receives (0x01 ∷ 0x00 ∷ 0x00 ∷ 0x00 ∷ []) ∷ []))).broken (log server queue opened_by) []
    (breaks (0x01 ∷ 0x00 ∷ 0x00 ∷ 0x00 ∷ []) 20 0) (0x01 ∷ 0x00 ∷ 0x00 ∷ 0x00 ∷ []) (zeros 12) (fault 20 0) refl refl listens refl

-- an Acknowledgment whose last two bytes are not 0 breaks the layout at the first of them
abbrev acknowledges_wrong : List ℕ
acknowledges_wrong = 0x40 ∷ 0x05 ∷ 0x80 ∷ 0x01 ∷ []

pub reserved_there : (breaks acknowledges_wrong 21 2).answer ≡ violation (fault 21 2)
unfolding played
reserved_there =
    (receive_reads server proper queue (opened_by ++ (receives acknowledges_wrong ∷ []))).broken (log server queue opened_by) []
    (breaks acknowledges_wrong 21 2) acknowledges_wrong (zeros 12) (fault 21 2) refl refl listens refl

-- a header of version 2 whose last byte is not 0 is wrong at the version
abbrev header_wrong : List ℕ
header_wrong = 0x4A ∷ 0x6D ∷ 0x75 ∷ 0x78 ∷ 0x02 ∷ 0x00 ∷ 0x01 ∷ 0x01 ∷ []

pub header_broken : (out (run server queue []) (receives header_wrong)).answer ≡ violation (fault 22 4)
unfolding played
header_broken =
    (receive_reads server proper queue (receives header_wrong ∷ [])).headers [] [] (out (run server queue []) (receives header_wrong)) header_wrong (zeros 12) refl refl awaits

-- ---- what a call answers and writes

-- a second ping is told to be refused with 13, whatever it answers
abbrev pinged : List Call
pinged = opened_by ++ (ping 1 (zeros 4) ∷ [])

pub told_13 : refused 13 ≡ answer_told server (length queue) (observed server 0 (log server queue pinged)) (ping 2 (zeros 4)) (refused 13)
unfolding played
told_13 = answers_exactly server proper queue (pinged ++ (ping 2 (zeros 4) ∷ [])) (log server queue pinged) [] (refuses (ping 2 (zeros 4)) 13) refl

-- a Ping may go then
abbrev first_ping : Entry
first_ping = taken (ping 1 (zeros 4)) done (0x04 ∷ 0x00 ∷ 0x00 ∷ 0x01 ∷ [])

pub ping_allowed : may_go server (account_before server (log server queue opened_by) first_ping) first_ping (sent (msg.Ping 1)) ≡ true
unfolding played
ping_allowed = (sends_allowed server proper queue pinged (log server queue opened_by) [] first_ping refl).0

-- only a turn writes Data, and no call of a run is refused with 14
pub no_data : data_written server first_ping ≡ []
unfolding played
no_data = (bounded_waiting server proper queue pinged).only_turns_write_data (log server queue opened_by) [] first_ping refl (λ room e. not_turn e)
  where
    not_turn : {room : List ℕ} → ping 1 (zeros 4) ≡ turn room → ⊥
    not_turn e = true≢false cc

pub never_there : refuses (ping 1 (zeros 4)) 14 ≡ first_ping → ⊥
unfolding played
never_there e =
    (bounded_waiting server proper queue pinged).never_14 (log server queue opened_by) [] first_ping refl (ap (λ (x : Entry). x.answer) (sym e))
