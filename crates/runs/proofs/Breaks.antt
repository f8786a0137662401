-- Runs of a server, by computation: one for each way in which a message that is read breaks the rules, one with a message cut short, one with a close.
use mathlib.Core.Path.{◌≡◌, refl}
use mathlib.Core.Bool.{false}
use mathlib.Core.List.{List, [], ◌∷◌, ◌++◌}
use Prim.Native.Nat.{ℕ}
use Rattle.laws.specs.Result.{ok}
use Rattle.wire.specs.declared.Message.{Message}
use Rattle.wire.specs.declared.Message.TheVariants as msg
use Rattle.wire.specs.declared.Role.TheVariants as role
use Rattle.wire.specs.Message.{read_message}
use Rattle.protocol.specs.Message.{scope}
use Rattle.protocol.specs.Judge.{done}
use Rattle.history.specs.Log.{Call, finish, close, log}
use Rattle.history.specs.Claims.{may_come}
use Rattle.runs.proofs.Played.{played, server, zeros, queue, receives, turns, taken, refuses, breaks}

-- the input is read as a message that may not come after the calls, and the next entry reports the violation with its place
pub record Breaks (calls : List Call) (input : List ℕ) (m : Message) (n place : ℕ) : Type 0 where
  pub is_read : read_message role.Client input ≡ ok m
  pub not_allowed : may_come server (log server queue calls) (scope m) ≡ false
  pub adds : log server queue (calls ++ (receives input ∷ [])) ≡ log server queue calls ++ (breaks input n place ∷ [])

-- "Jmux", version 1, header number 8; then a client opens 5 with three bytes, which leaves 1,021
abbrev begun : List Call
begun =
    receives (0x4A ∷ 0x6D ∷ 0x75 ∷ 0x78 ∷ 0x01 ∷ 0x00 ∷ 0x08 ∷ 0x00 ∷ [])
    ∷ receives (0x90 ∷ 0x05 ∷ 0x00 ∷ 0x03 ∷ 0x61 ∷ 0x62 ∷ 0x63 ∷ [])
    ∷ []

-- 65,535 times 2 to the power of 14
abbrev largest_increment : List ℕ
largest_increment = 0x1E ∷ 0x05 ∷ 0xFF ∷ 0xFF ∷ []

-- Data for an idle number
pub breaks_25 : Breaks begun (0x80 ∷ 0x06 ∷ 0x00 ∷ 0x00 ∷ []) (msg.Data false false false false 6 0) 25 1
unfolding played
breaks_25 = record { is_read = refl; not_allowed = refl; adds = refl }

-- Data of 1,022 bytes
pub breaks_26 : Breaks begun (0x80 ∷ 0x05 ∷ 0x03 ∷ 0xFE ∷ zeros 1_022) (msg.Data false false false false 5 1_022) 26 2
unfolding played
breaks_26 = record { is_read = refl; not_allowed = refl; adds = refl }

-- a third increment passes the largest ration
pub breaks_27 : Breaks (begun ++ (receives largest_increment ∷ receives largest_increment ∷ [])) largest_increment (msg.IncrementRation 7 5 65_535) 27 2
unfolding played
breaks_27 = record { is_read = refl; not_allowed = refl; adds = refl }

-- a PingAck where no ping is outstanding
pub breaks_28 : Breaks begun (0x06 ∷ 0x00 ∷ 0x00 ∷ 0x00 ∷ []) (msg.PingAck 0) 28 2
unfolding played
breaks_28 = record { is_read = refl; not_allowed = refl; adds = refl }

-- two bytes of a message are refused with 10, and nothing changes
pub cut_short : log server queue (begun ++ (receives (0x80 ∷ 0x05 ∷ []) ∷ [])) ≡ log server queue begun ++ (refuses (receives (0x80 ∷ 0x05 ∷ [])) 10 ∷ [])
unfolding played
cut_short = refl

-- a server finishes its side and closes the session
pub closes_5 : log server queue (begun ++ (finish 5 ∷ turns ∷ close 5 (zeros 4) ∷ []))
    ≡ log server queue (begun ++ (finish 5 ∷ turns ∷ [])) ++ (taken (close 5 (zeros 4)) done (0x30 ∷ 0x05 ∷ 0x00 ∷ 0x00 ∷ []) ∷ [])
unfolding played
closes_5 = refl
