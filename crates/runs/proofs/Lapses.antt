-- For each way in which a wait lapses a run in which a ready number meets it, by computation.
use mathlib.Core.Path.{◌≡◌, refl}
use mathlib.Core.Bool.{true, false}
use mathlib.Core.List.{List, [], ◌∷◌, ◌++◌}
use Prim.Native.Nat.{ℕ}
use Rattle.laws.specs.Result.{fault, violation}
use Rattle.wire.specs.declared.Message.TheVariants as msg
use Rattle.state.specs.declared.Setup.{Setup}
use Rattle.protocol.specs.Judge.{done, message}
use Rattle.history.specs.Log.{Call, open_session, put, abort, shutdown, lost, Entry, log}
use Rattle.history.specs.Lapsed.{Lapsed}
use Rattle.history.specs.Claims.{ready, lapse}
use Rattle.history.proofs.LapsesOnly.{lapse_only}
use Rattle.runs.proofs.Played.{played, client, server, zeros, queue, starts, receives, turns, taken, took}

-- n is ready after the calls; the next call adds the entry to the log, and the entry is a lapse of n's wait
pub record Lapses (s : Setup) (n : ℕ) (calls : List Call) (e : Entry) : Type 0 where
  pub is_ready_now : ready s n (log s queue calls) ≡ true
  pub adds : log s queue (calls ++ (e.call ∷ [])) ≡ log s queue calls ++ (e ∷ [])
  pub is_lapse : lapse s n e ≡ true

abbrev far_header : List ℕ
far_header = 0x4A ∷ 0x6D ∷ 0x75 ∷ 0x78 ∷ 0x01 ∷ 0x00 ∷ 0x04 ∷ 0x00 ∷ []

-- a client opens 5: its opening is unsent
abbrev unsent : List Call
unsent = starts ∷ receives far_header ∷ open_session 5 ∷ []

-- it is sent, and has a byte waiting
abbrev sent : List Call
sent = unsent ++ (turns ∷ put 5 (0x61 ∷ []) ∷ [])

-- and the server has announced its end
abbrev answered : List Call
answered = sent ++ (receives (0x84 ∷ 0x05 ∷ 0x00 ∷ 0x00 ∷ []) ∷ [])

-- a client opens 5 at a server, which has a byte waiting for it
abbrev accepted : List Call
accepted = receives far_header ∷ receives (0x90 ∷ 0x05 ∷ 0x00 ∷ 0x00 ∷ []) ∷ put 5 (0x61 ∷ []) ∷ []

-- ---- of the session

-- our abort of an opening writes nothing
pub abort_unsent : Lapses client 5 unsent (taken (abort 5 false (zeros 4)) done [])
unfolding played
abort_unsent = record { is_ready_now = refl; adds = refl; is_lapse = refl }

pub abort_sent : Lapses client 5 sent (taken (abort 5 false (zeros 4)) done (0x20 ∷ 0x05 ∷ 0x00 ∷ 0x00 ∷ []))
unfolding played
abort_sent = record { is_ready_now = refl; adds = refl; is_lapse = refl }

pub abort_partial : Lapses server 5 accepted (taken (abort 5 true (zeros 4)) done (0x22 ∷ 0x05 ∷ 0x00 ∷ 0x00 ∷ []))
unfolding played
abort_partial = record { is_ready_now = refl; adds = refl; is_lapse = refl }

-- an Abort received: each end has a reply
pub abort_received : Lapses client 5 sent
    (took 4 (0x22 ∷ 0x05 ∷ 0x00 ∷ 0x00 ∷ []) (message (msg.Abort true 5 0) false) (0x20 ∷ 0x05 ∷ 0x00 ∷ 0x00 ∷ []))
unfolding played
abort_received = record { is_ready_now = refl; adds = refl; is_lapse = refl }

pub abort_received_server : Lapses server 5 accepted
    (took 4 (0x20 ∷ 0x05 ∷ 0x00 ∷ 0x00 ∷ []) (message (msg.Abort false 5 0) false) (0x22 ∷ 0x05 ∷ 0x00 ∷ 0x00 ∷ []))
unfolding played
abort_received_server = record { is_ready_now = refl; adds = refl; is_lapse = refl }

-- a Close received: only a client may get one
pub close_received : Lapses client 5 answered
    (took 4 (0x30 ∷ 0x05 ∷ 0x00 ∷ 0x00 ∷ []) (message (msg.Close 5) false) (0x20 ∷ 0x05 ∷ 0x00 ∷ 0x00 ∷ []))
unfolding played
close_received = record { is_ready_now = refl; adds = refl; is_lapse = refl }

-- a close flag received
pub close_flag_received : Lapses client 5 sent
    (took 4 (0x8C ∷ 0x05 ∷ 0x00 ∷ 0x00 ∷ []) (message (msg.Data false true true false 5 0) false) (0x20 ∷ 0x05 ∷ 0x00 ∷ 0x00 ∷ []))
unfolding played
close_flag_received = record { is_ready_now = refl; adds = refl; is_lapse = refl }

-- ---- of the connection

pub line_lost : Lapses client 5 unsent (taken lost done [])
unfolding played
line_lost = record { is_ready_now = refl; adds = refl; is_lapse = refl }

pub own_shutdown : Lapses server 5 accepted (taken (shutdown (zeros 4)) done (0x02 ∷ 0x00 ∷ 0x00 ∷ 0x00 ∷ []))
unfolding played
own_shutdown = record { is_ready_now = refl; adds = refl; is_lapse = refl }

pub shutdown_received : Lapses client 5 sent (took 4 (0x02 ∷ 0x00 ∷ 0x00 ∷ 0x00 ∷ []) (message (msg.Shutdown 0) false) [])
unfolding played
shutdown_received = record { is_ready_now = refl; adds = refl; is_lapse = refl }

pub error_received : Lapses server 5 accepted (took 4 (0x08 ∷ 0x00 ∷ 0x00 ∷ 0x00 ∷ []) (message (msg.Error 0) false) [])
unfolding played
error_received = record { is_ready_now = refl; adds = refl; is_lapse = refl }

-- a violation: a Close from a client
pub violated : Lapses server 5 accepted
    (record { call = receives (0x30 ∷ 0x05 ∷ 0x00 ∷ 0x00 ∷ []); answer = violation (fault 23 0); used = 0; start = 0; end = 0; wrote = 0x08 ∷ 0x00 ∷ 0x00 ∷ 0x00 ∷ [] })
unfolding played
violated = record { is_ready_now = refl; adds = refl; is_lapse = refl }

-- an entry is a lapse in the named ways, and in no other
pub named_lapses : (s : Setup) (n : ℕ) (e : Entry) → Lapsed n e → lapse s n e ≡ true
named_lapses s n e = (lapse_only s n e).1

pub no_other_lapse : (s : Setup) (n : ℕ) (e : Entry) → lapse s n e ≡ true → Lapsed n e
no_other_lapse s n e = (lapse_only s n e).0
