-- A region of blocks: which blocks are good, what reading gives, and what a store and a repair leave.
use Rattle.std.specs.Prelude.{ℕ, zero, suc, ◌*◌, ◌/◌, ◌%◌, min, Bool, true, false, not, ◌&&◌, List, [], ◌∷◌, leb, ltb, eqb, length, get_or, take, drop, replicate}
use Rattle.std.proofs.Math.Seq.{paste}
use Rattle.laws.specs.Pick.{pick}
use Rattle.journal_rules.specs.Block.{JournalEntry, journal_entry, storable, block_of}

-- the block at a place, from 0
abbrev pub block_at : List ℕ → ℕ → List ℕ
block_at r k = take 512 (drop (512 * k) r)

-- the session number and the kind that stand in a block
abbrev pub entry_in : List ℕ → JournalEntry
entry_in b = journal_entry (get_or b 4 0) (get_or b 5 0)

unfoldable pub equal_bytes : List ℕ → List ℕ → Bool
equal_bytes [] [] = true
equal_bytes [] (y ∷ ys) = false
equal_bytes (x ∷ xs) [] = false
equal_bytes (x ∷ xs) (y ∷ ys) = eqb x y && equal_bytes xs ys

-- a block is good at a place if it is the block of an entry whose serial is that place counted from 1; else it is bad
unfoldable pub good : ℕ → List ℕ → Bool
good k b = storable (entry_in b) && equal_bytes b (block_of (suc k) (entry_in b))

abbrev pub blocks : List ℕ → ℕ
blocks r = length r / 512

-- 1 to 128 whole blocks
abbrev pub sized : List ℕ → Bool
sized r = leb 1 (blocks r) && (leb (blocks r) 128 && eqb (length r % 512) 0)

-- ---- reading

-- the place of the first bad block among n from place k on, or the place behind them
unfoldable pub first_bad_from : ℕ → ℕ → List ℕ → ℕ
first_bad_from zero k r = k
first_bad_from (suc n) k r = pick (good k (block_at r k)) (first_bad_from n (suc k) r) k

abbrev pub first_bad : List ℕ → ℕ
first_bad r = first_bad_from (blocks r) 0 r

-- the entries of the blocks before the first bad one
unfoldable pub entries_from : ℕ → ℕ → List ℕ → List JournalEntry
entries_from zero k r = []
entries_from (suc n) k r = pick (good k (block_at r k)) (entry_in (block_at r k) ∷ entries_from n (suc k) r) []

abbrev pub entries_of : List ℕ → List JournalEntry
entries_of r = entries_from (blocks r) 0 r

-- ---- a store and a repair, of which the first j byte stores are made; with 512 or more all are

-- no block is bad
abbrev pub full : List ℕ → Bool
full r = eqb (first_bad r) (blocks r)

-- the number that refuses a store, or 0
unfoldable pub store_refusal : List ℕ → JournalEntry → ℕ
store_refusal r e =
    pick (not (sized r)) 8 (pick (ltb 127 e.number) 3 (pick (ltb 3 e.kind) 12 (pick (full r) 16 0)))

-- the bytes of the entry's block go into the first bad block, front to back
unfoldable pub stored : List ℕ → JournalEntry → ℕ → List ℕ
stored r e j = pick (eqb (store_refusal r e) 0) (paste r (512 * first_bad r) (block_of (suc (first_bad r)) e) (min j 512)) r

-- zeros go into the first bad block, front to back
unfoldable pub repaired : List ℕ → ℕ → List ℕ
repaired r j = pick (sized r && not (full r)) (paste r (512 * first_bad r) (replicate 512 0) (min j 512)) r
