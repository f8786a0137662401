-- Runs, by computation: what the journal holds after a session ends, after its number is opened again, and after power is cut.
use mathlib.Core.Path.{◌≡◌, refl, ap}
use mathlib.Core.Bool.{false, xor}
use mathlib.Core.List.{List, [], ◌∷◌, ◌++◌}
use Prim.Native.Nat.{ℕ}
use Rattle.laws.specs.Runs.{fold}
use Rattle.crc.specs.Crc.{lowest_first, message_bits, generator, difference, divided, complemented, bits_as_number, remainder, crc_of}
use Rattle.history.specs.Log.{Call, open_session, abort, lost}
use Rattle.runs.proofs.Played.{played, client, zeros, queue, starts, receives, turns}
use Rattle.journal_rules.specs.Block.{JournalEntry, journal_entry, checked_bytes, block_of}
use Rattle.journal_rules.specs.Region.{equal_bytes, good, first_bad_from, entries_from, store_refusal, stored, repaired}
use Rattle.journal_rules.specs.Calls.{store_call}
use Rattle.journal_rules.specs.Listing.{is_answered, not_to_retry}
use Rattle.journal_rules.specs.Power.{blank_region}
use Rattle.journal_history.specs.Keep.{refused_with, keep_number, keep_numbers, keep_all}
use Rattle.journal_history.specs.Use.{Program, ProgramStep, calls, connects, connected, after_step}
use Rattle.journal_history.specs.Claims.{journal_of}

-- whoever unfolds this unfolds the journal, the keep and the steps
unfoldable pub kept : List ProgramStep → Program
unfolding played lowest_first message_bits generator difference divided complemented bits_as_number remainder crc_of xor checked_bytes block_of equal_bytes good first_bad_from
    entries_from store_refusal stored repaired store_call is_answered not_to_retry keep_number keep_numbers keep_all after_step
kept steps = fold after_step (connected client queue (blank_region 4) []) steps

-- calls whose byte stores are all made
abbrev pub all : List Call → List ProgramStep
all [] = []
all (k ∷ ks) = calls k 65_536 ∷ all ks

-- the server's header, which grants 256
abbrev pub greeting : List ℕ
greeting = 0x4A ∷ 0x6D ∷ 0x75 ∷ 0x78 ∷ 0x01 ∷ 0x00 ∷ 0x01 ∷ 0x00 ∷ []

-- a client has sent its open of 5
abbrev pub sent : List Call
sent = starts ∷ receives greeting ∷ open_session 5 ∷ turns ∷ []

-- what the journal holds after these calls, and what it lists
abbrev pub Holds : List Call → List JournalEntry → List ℕ → Type 0
Holds ks es listed = (journal_of (kept (all ks)) ≡ es) × (not_to_retry 0 es ≡ listed)

-- ---- a session's start, and its fate

pub may_be_retried_2 : Holds (sent ++ (receives (0x20 ∷ 0x05 ∷ 0x00 ∷ 0x00 ∷ []) ∷ [])) (journal_entry 5 0 ∷ journal_entry 5 2 ∷ []) []
unfolding kept
may_be_retried_2 = (refl, refl)

-- ---- a number that is opened again

-- our abort of what was sent is a 3; the server ends its side, 5 is opened again, and that open is aborted unsent: nothing is stored for it
pub reopened_unsent : Holds
    (sent ++ (abort 5 false (zeros 4) ∷ receives (0x20 ∷ 0x05 ∷ 0x00 ∷ 0x00 ∷ []) ∷ open_session 5 ∷ abort 5 false (zeros 4) ∷ []))
    (journal_entry 5 0 ∷ journal_entry 5 3 ∷ []) (1 ∷ [])
unfolding kept
reopened_unsent = (refl, refl)

-- the open that is sent is stored, and its fate answers it alone
pub reopened_sent : Holds
    (sent ++ (abort 5 false (zeros 4) ∷ receives (0x20 ∷ 0x05 ∷ 0x00 ∷ 0x00 ∷ []) ∷ open_session 5 ∷ turns ∷ receives (0x8C ∷ 0x05 ∷ 0x00 ∷ 0x00 ∷ []) ∷ []))
    (journal_entry 5 0 ∷ journal_entry 5 3 ∷ journal_entry 5 0 ∷ journal_entry 5 1 ∷ []) (1 ∷ [])
unfolding kept
reopened_sent = (refl, refl)

-- ---- power, and a region that is full

-- power is cut before the last byte of a start; when it is back, the same number is opened in a new connection
pub cut_start : (journal_of (kept (all (starts ∷ receives greeting ∷ open_session 5 ∷ []) ++ (calls turns 511 ∷ []))) ≡ [])
    × (journal_of (kept (all (starts ∷ receives greeting ∷ open_session 5 ∷ []) ++ (calls turns 511 ∷ connects client queue ∷ all sent))) ≡ journal_entry 5 0 ∷ [])
unfolding kept
cut_start = (refl, refl)

-- a start whose fate no connection tells any more stays listed, and a fate of the next connection is not its own
pub after_power : (journal_of (kept (all sent ++ (connects client queue ∷ all (sent ++ (receives (0x8C ∷ 0x05 ∷ 0x00 ∷ 0x00 ∷ []) ∷ []))))) ≡ journal_entry 5 0 ∷ journal_entry 5 0 ∷ journal_entry 5 1 ∷ [])
    × (not_to_retry 0 (journal_entry 5 0 ∷ journal_entry 5 0 ∷ journal_entry 5 1 ∷ []) ≡ 1 ∷ [])
unfolding kept
after_power = (refl, refl)

-- a refused fate is not stored, and says so
pub full_16 : (p : Program) → p ≡ fold after_step (connected client queue (blank_region 1) []) (all (sent ++ (lost ∷ []))) → (journal_of p ≡ journal_entry 5 0 ∷ []) × (p.ending ≡ refused_with 16)
unfolding kept
full_16 p q = (ap journal_of q, ap (λ (p : Program). p.ending) q)
