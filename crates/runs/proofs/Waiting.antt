-- A run in which a ready number meets calls and messages of each kind that is not a lapse, and goes on waiting, by computation.
use mathlib.Core.Path.{◌≡◌, refl}
use mathlib.Core.Bool.{true, false}
use mathlib.Core.List.{List, [], ◌∷◌, ◌++◌, map}
use Prim.Native.Nat.{ℕ}
use Rattle.laws.specs.Runs.{Every}
use Rattle.wire.specs.declared.Message.TheVariants as msg
use Rattle.state.specs.declared.Setup.{Setup}
use Rattle.protocol.specs.Judge.{done, served, message}
use Rattle.history.specs.Log.{Call, open_session, put, finish, turn, grant, ping, Entry, log}
use Rattle.history.specs.Claims.{ready, waits_on}
use Rattle.runs.proofs.Played.{played, client, zeros, queue, starts, receives, turns, taken, took, refuses}

-- n is ready after the calls; the next ones add the entries to the log, and n waits on through all of them
pub record GoesOn (s : Setup) (n : ℕ) (calls : List Call) (es : List Entry) : Type 0 where
  pub is_ready_now : ready s n (log s queue calls) ≡ true
  pub adds : log s queue (calls ++ map (λ e. e.call) es) ≡ log s queue calls ++ es
  pub waits : Every (waits_on s n) es
  pub still_ready : ready s n (log s queue (calls ++ map (λ e. e.call) es)) ≡ true

-- a client has sent its opens of 5, 6 and 7; the server has announced its end of 7; a byte waits for 5
abbrev begun : List Call
begun =
    starts
    ∷ receives (0x4A ∷ 0x6D ∷ 0x75 ∷ 0x78 ∷ 0x01 ∷ 0x00 ∷ 0x04 ∷ 0x00 ∷ [])
    ∷ open_session 5
    ∷ open_session 6
    ∷ open_session 7
    ∷ turns
    ∷ turns
    ∷ turns
    ∷ receives (0x84 ∷ 0x07 ∷ 0x00 ∷ 0x00 ∷ [])
    ∷ put 5 (0x61 ∷ [])
    ∷ []

-- a put, another number's open and the turn that serves it, a turn refused for its room, a grant, an increment, a ping, a Ping with its answer,
-- a message cut short, Data, a refused open, the Abort of 6 and the Close of 7 with their replies, a finish, and the far eof
abbrev meanwhile : List Entry
meanwhile =
    taken (put 5 (0x62 ∷ [])) done []
    ∷ taken (open_session 9) done []
    ∷ taken turns (served 9) (0x90 ∷ 0x09 ∷ 0x00 ∷ 0x00 ∷ [])
    ∷ refuses (turn (zeros 515)) 8
    ∷ taken (grant 5 1 (zeros 4)) done (0x10 ∷ 0x05 ∷ 0x00 ∷ 0x01 ∷ [])
    ∷ took 4 (0x10 ∷ 0x05 ∷ 0x00 ∷ 0x01 ∷ []) (message (msg.IncrementRation 0 5 1) false) []
    ∷ taken (ping 1 (zeros 4)) done (0x04 ∷ 0x00 ∷ 0x00 ∷ 0x01 ∷ [])
    ∷ took 4 (0x04 ∷ 0x00 ∷ 0x00 ∷ 0x07 ∷ []) (message (msg.Ping 7) false) (0x06 ∷ 0x00 ∷ 0x00 ∷ 0x07 ∷ [])
    ∷ refuses (receives (0x80 ∷ 0x05 ∷ [])) 10
    ∷ took 5 (0x80 ∷ 0x05 ∷ 0x00 ∷ 0x01 ∷ 0x61 ∷ []) (message (msg.Data false false false false 5 1) false) []
    ∷ refuses (open_session 5) 5
    ∷ took 4 (0x20 ∷ 0x06 ∷ 0x00 ∷ 0x00 ∷ []) (message (msg.Abort false 6 0) false) (0x20 ∷ 0x06 ∷ 0x00 ∷ 0x00 ∷ [])
    ∷ took 4 (0x30 ∷ 0x07 ∷ 0x00 ∷ 0x00 ∷ []) (message (msg.Close 7) false) (0x20 ∷ 0x07 ∷ 0x00 ∷ 0x00 ∷ [])
    ∷ taken (finish 5) done []
    ∷ took 4 (0x84 ∷ 0x05 ∷ 0x00 ∷ 0x00 ∷ []) (message (msg.Data false false true false 5 0) false) []
    ∷ []

pub goes_on_waiting : GoesOn client 5 begun meanwhile
unfolding played
goes_on_waiting =
    record { is_ready_now = refl; adds = refl; waits = (refl, (refl, (refl, (refl, (refl, (refl, (refl, (refl, (refl, (refl, (refl, (refl, (refl, (refl, (refl, tt))))))))))))))); still_ready = refl }
