-- What the calls of the journal answer: a value or the number of a refusal.
use Rattle.std.specs.Prelude.{ℕ, suc, List, leb, eqb}
use Rattle.laws.specs.Pick.{pick}
use Rattle.laws.specs.Result.{Result, ok, refused}
use Rattle.journal_rules.specs.Block.{JournalEntry}
use Rattle.journal_rules.specs.Region.{sized, full, first_bad, entries_of, store_refusal, stored, repaired}
use Rattle.journal_rules.specs.Listing.{not_to_retry}

-- how far a store or a repair comes: the block at this place, counted from 1, is written whole; power is cut after this many byte
-- stores; or no block is bad
pub data Reached : Type 0 where
  written_whole : ℕ → Reached
  cut_after : ℕ → Reached
  none_bad : Reached

abbrev pub reached : ℕ → ℕ → Reached
reached j serial = pick (leb 512 j) (written_whole serial) (cut_after j)

-- a region that is not 1 to 128 whole blocks is refused with 8
abbrev pub if_sized : {A : Type 0} → List ℕ → A → Result A
if_sized r a = pick (sized r) (ok a) (refused 8)

-- a store: its answer, and the region after it
unfoldable pub store_call : List ℕ → JournalEntry → ℕ → Result Reached × List ℕ
store_call r e j =
    (pick (eqb (store_refusal r e) 0) (ok (reached j (suc (first_bad r)))) (refused (store_refusal r e)), stored r e j)

-- a repair: its answer, and the region after it
unfoldable pub repair_call : List ℕ → ℕ → Result Reached × List ℕ
repair_call r j = (if_sized r (pick (full r) none_bad (reached j (suc (first_bad r)))), repaired r j)

-- what a read gives: the entries, or a refusal
unfoldable pub read_call : List ℕ → Result (List JournalEntry)
read_call r = if_sized r (entries_of r)

-- what a listing gives: the serials of the starts that are not to be retried, or a refusal
unfoldable pub list_call : List ℕ → Result (List ℕ)
list_call r = if_sized r (not_to_retry 0 (entries_of r))
