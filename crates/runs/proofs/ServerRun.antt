-- A server's run: Data that crossed our Abort, and an Abort that gets a reply; what is written and reported, by computation.
use mathlib.Core.Path.{◌≡◌, refl}
use mathlib.Core.Bool.{true, false}
use mathlib.Core.List.{List, [], ◌∷◌, ◌++◌}
use Prim.Native.Nat.{ℕ}
use Rattle.ration.specs.declared.Ration.TheVariants as ration
use Rattle.wire.specs.declared.Message.TheVariants as msg
use Rattle.state.specs.declared.Side.TheVariants as side
use Rattle.protocol.specs.Judge.{done, header_received, message}
use Rattle.protocol.specs.Observed.{silent, ends}
use Rattle.history.specs.Log.{Call, put, abort, log}
use Rattle.history.specs.Account.{observed}
use Rattle.history.specs.Claims.{ready}
use Rattle.runs.proofs.Played.{played, server, zeros, queue, receives, turns, taken, greets, took, refuses}

-- ---- what arrives

-- "Jmux", version 1, header number 8
abbrev far_header : List ℕ
far_header = 0x4A ∷ 0x6D ∷ 0x75 ∷ 0x78 ∷ 0x01 ∷ 0x00 ∷ 0x08 ∷ 0x00 ∷ []

-- open, session 5, "abc"
abbrev opens_5 : List ℕ
opens_5 = 0x90 ∷ 0x05 ∷ 0x00 ∷ 0x03 ∷ 0x61 ∷ 0x62 ∷ 0x63 ∷ []

-- 1,022 more bytes of session 5, one more than it has left, with eof
abbrev more_5 : List ℕ
more_5 = 0x84 ∷ 0x05 ∷ 0x03 ∷ 0xFE ∷ zeros 1_022

-- open, session 5, no bytes
abbrev again_5 : List ℕ
again_5 = 0x90 ∷ 0x05 ∷ 0x00 ∷ 0x00 ∷ []

-- open, session 7, no bytes
abbrev opens_7 : List ℕ
opens_7 = 0x90 ∷ 0x07 ∷ 0x00 ∷ 0x00 ∷ []

-- Abort, session 7
abbrev aborts_7 : List ℕ
aborts_7 = 0x20 ∷ 0x07 ∷ 0x00 ∷ 0x00 ∷ []

-- ---- the run

abbrev abort_5 : Call
abort_5 = abort 5 true (zeros 4)

abbrev put_7 : Call
put_7 = put 7 (0x64 ∷ 0x65 ∷ [])

abbrev begun : List Call
begun = receives far_header ∷ receives opens_5 ∷ []

-- our Abort of session 5, and the Data that crossed it
abbrev crossed : List Call
crossed = begun ++ (abort_5 ∷ receives more_5 ∷ [])

-- the client uses 5 anew, and opens 7, which gets bytes to send
abbrev waiting : List Call
waiting = crossed ++ (receives again_5 ∷ receives opens_7 ∷ put_7 ∷ [])

-- the header is answered by our own; the Data that crossed our Abort is late; the Abort that finds our side open gets the reply
-- Abort with partial, and what waited is dropped
pub server_log : log server queue (waiting ++ (receives aborts_7 ∷ turns ∷ put_7 ∷ []))
    ≡ greets far_header (header_received 8) (0x4A ∷ 0x6D ∷ 0x75 ∷ 0x78 ∷ 0x01 ∷ 0x00 ∷ 0x04 ∷ 0x00 ∷ [])
    ∷ took 7 opens_5 (message (msg.Data true false false false 5 3) false) []
    ∷ taken abort_5 done (0x22 ∷ 0x05 ∷ 0x00 ∷ 0x00 ∷ [])
    ∷ took 1_026 more_5 (message (msg.Data false false true false 5 1_022) true) []
    ∷ took 4 again_5 (message (msg.Data true false false false 5 0) false) []
    ∷ took 4 opens_7 (message (msg.Data true false false false 7 0) false) []
    ∷ taken put_7 done []
    ∷ took 4 aborts_7 (message (msg.Abort false 7 0) false) (0x22 ∷ 0x07 ∷ 0x00 ∷ 0x00 ∷ [])
    ∷ refuses turns 9
    ∷ refuses put_7 5
    ∷ []
unfolding played
server_log = refl

-- ---- what the log tells as it grows

-- three bytes are counted when session 5 begins
pub begun_5 : (observed server 5 (log server queue begun)).seen.inbound ≡ ration.Finite 1_021
unfolding played
begun_5 = refl

-- late Data is not counted, its eof is
pub crossed_5 : (observed server 5 (log server queue crossed)).seen
    ≡ record { standing = ends side.Ended side.Finished; sends = silent; inbound = ration.Finite 1_021 }
unfolding played
crossed_5 = refl

-- 7 is ready before the Abort arrives; then both ends have ended, and it sends no more
pub waiting_7 : ready server 7 (log server queue waiting) ≡ true
unfolding played
waiting_7 = refl

pub ended_7 : (observed server 7 (log server queue (waiting ++ (receives aborts_7 ∷ [])))).seen
    ≡ record { standing = ends side.Ended side.Ended; sends = silent; inbound = ration.Finite 1_024 }
unfolding played
ended_7 = refl
