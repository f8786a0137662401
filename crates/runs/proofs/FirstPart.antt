-- A run of an opening for which more bytes wait than the far header grants: the first part goes, the rest waits for an increment, by computation.
use mathlib.Core.Path.{◌≡◌, refl}
use mathlib.Core.Bool.{true, false}
use mathlib.Core.List.{List, [], ◌∷◌, ◌++◌}
use Prim.Native.Nat.{ℕ}
use lib.ListN.{replicate}
use Rattle.ration.specs.declared.Ration.TheVariants as ration
use Rattle.wire.specs.declared.Message.TheVariants as msg
use Rattle.protocol.specs.Judge.{done, served, header_received, message}
use Rattle.protocol.specs.Observed.{silent, sending}
use Rattle.history.specs.Log.{Call, open_session, put, finish, Entry, log}
use Rattle.history.specs.Account.{observed}
use Rattle.runs.proofs.Played.{played, client, queue, starts, receives, turns, taken, greets, took, refuses}

-- "Jmux", version 1, header number 1: a starting ration of 256
abbrev far_header : List ℕ
far_header = 0x4A ∷ 0x6D ∷ 0x75 ∷ 0x78 ∷ 0x01 ∷ 0x00 ∷ 0x01 ∷ 0x00 ∷ []

-- the halves of a slot
abbrev sevens : List ℕ
sevens = replicate 256 7

abbrev eights : List ℕ
eights = replicate 256 8

-- 512 bytes wait for an opening, and its end
abbrev asked : List Call
asked = starts ∷ receives far_header ∷ open_session 5 ∷ put 5 (sevens ++ eights) ∷ finish 5 ∷ []

abbrev entries : List Entry
entries =
    taken starts done (0x4A ∷ 0x6D ∷ 0x75 ∷ 0x78 ∷ 0x01 ∷ 0x00 ∷ 0x08 ∷ 0x00 ∷ [])
    ∷ greets far_header (header_received 1) []
    ∷ taken (open_session 5) done []
    ∷ taken (put 5 (sevens ++ eights)) done []
    ∷ taken (finish 5) done []
    ∷ []

-- an increment of 256
abbrev increment : List ℕ
increment = 0x10 ∷ 0x05 ∷ 0x01 ∷ 0x00 ∷ []

-- the open has the first 256 bytes and no eof, the next turn is refused with 9; after the increment the others go, with eof
pub first_part : log client queue (asked ++ (turns ∷ turns ∷ receives increment ∷ turns ∷ []))
    ≡ entries
    ++ (taken turns (served 5) (0x90 ∷ 0x05 ∷ 0x01 ∷ 0x00 ∷ sevens)
    ∷ refuses turns 9
    ∷ took 4 increment (message (msg.IncrementRation 0 5 256) false) []
    ∷ taken turns (served 5) (0x84 ∷ 0x05 ∷ 0x01 ∷ 0x00 ∷ eights)
    ∷ [])
unfolding played
first_part = refl

-- ---- what the log tells as it grows

pub asked_5 : (observed client 5 (log client queue asked)).seen.sends ≡ sending true (sevens ++ eights) (ration.Finite 256) true
unfolding played
asked_5 = refl

pub once_5 : (observed client 5 (log client queue (asked ++ (turns ∷ [])))).seen.sends ≡ sending false eights (ration.Finite 0) true
unfolding played
once_5 = refl

pub granted_5 : (observed client 5 (log client queue (asked ++ (turns ∷ receives increment ∷ [])))).seen.sends ≡ sending false eights (ration.Finite 256) true
unfolding played
granted_5 = refl

pub twice_5 : (observed client 5 (log client queue (asked ++ (turns ∷ receives increment ∷ turns ∷ [])))).seen.sends ≡ silent
unfolding played
twice_5 = refl
