-- What is claimed of the journal: of every history of calls and cuts, of every region, and of every list of entries.
use Rattle.std.specs.Prelude.{ℕ, suc, ◌+◌, ◌*◌, ◌≤◌, ◌<◌, ◌≡◌, ◌↔◌, true, List, [], ◌∷◌, ◌++◌, length, get_or, take, drop}
use Rattle.crc.specs.Crc.{crc_of}
use Rattle.laws.specs.Result.{ok, refused}
use Rattle.journal_rules.specs.Block.{JournalEntry, journal_entry, storable, four_bytes, block_of}
use Rattle.journal_rules.specs.Region.{block_at, good, sized, blocks, first_bad, entries_of, store_refusal, stored, repaired}
use Rattle.journal_rules.specs.Listing.{not_to_retry}
use Rattle.journal_rules.specs.Calls.{written_whole, cut_after, none_bad, store_call, repair_call}
use Rattle.journal_rules.specs.Power.{CutCall, region_after, whole_entries}

-- ---- power may be cut between any two byte stores

-- reading gives exactly the entries stored whole, in order
abbrev pub PowerSafe : Type 0
PowerSafe = (n : ℕ) → 1 ≤ n → n ≤ 128 → (acts : List CutCall) → entries_of (region_after n acts) ≡ whole_entries n acts

pub record Extends (es longer : List JournalEntry) : Type 0 where
  pub rest : List JournalEntry
  pub is : longer ≡ es ++ rest

-- no further call, refused or cut or not, loses an entry: what is read before it is the front of what is read after it
abbrev pub NothingLost : Type 0
NothingLost =
    (n : ℕ) → 1 ≤ n → n ≤ 128 → (acts more : List CutCall)
    → Extends (entries_of (region_after n acts)) (entries_of (region_after n (acts ++ more)))

-- ---- the block, byte by byte

pub record BlockLayout (serial : ℕ) (e : JournalEntry) : Type 0 where
  pub size : length (block_of serial e) ≡ 512
  pub serial_first : take 4 (block_of serial e) ≡ four_bytes serial
  pub number : get_or (block_of serial e) 4 0 ≡ e.number
  pub kind : get_or (block_of serial e) 5 0 ≡ e.kind
  pub zeros : (i : ℕ) → 6 ≤ i → i ≤ 506 → get_or (block_of serial e) i 0 ≡ 0
  pub checksum : take 4 (drop 507 (block_of serial e)) ≡ four_bytes (crc_of (take 507 (block_of serial e)))
  pub last : get_or (block_of serial e) 511 0 ≡ 0xa5

-- ---- good blocks, the first bad one, and what a store and a repair do there

-- the bytes are the block of an entry, with this serial
pub record IsBlock (serial : ℕ) (b : List ℕ) : Type 0 where
  pub held : JournalEntry
  pub is_storable : storable held ≡ true
  pub is : b ≡ block_of serial held

-- a block is good exactly if it is that of some entry, with the serial of its place
abbrev pub GoodExactly : Type 0
GoodExactly = (k : ℕ) (b : List ℕ) → (good k b ≡ true) ↔ IsBlock (suc k) b

-- a region has 1 to 128 whole blocks
pub record WholeBlocks (r : List ℕ) : Type 0 where
  pub count : ℕ
  pub low : 1 ≤ count
  pub high : count ≤ 128
  pub is : length r ≡ 512 * count

abbrev pub SizedExactly : List ℕ → Type 0
SizedExactly r = (sized r ≡ true) ↔ WholeBlocks r

-- every block before the first bad one is good, and it is bad if it is one of the region
pub record FirstBad (r : List ℕ) : Type 0 where
  pub within : first_bad r ≤ blocks r
  pub count : length (entries_of r) ≡ first_bad r
  pub before : (k : ℕ) → k < first_bad r → good k (block_at r k) ≡ true
  pub is_bad : first_bad r < blocks r → good (first_bad r) (block_at r (first_bad r)) ≡ true → ⊥

-- a store and a repair change no byte outside the first bad block, nor the length
pub record Frame (r after : List ℕ) : Type 0 where
  pub size : length after ≡ length r
  pub below : (i : ℕ) → i < 512 * first_bad r → get_or after i 0 ≡ get_or r i 0
  pub above : (i : ℕ) → 512 * first_bad r + 512 ≤ i → get_or after i 0 ≡ get_or r i 0

-- byte stores are made front to back: the first j are those of the entry's block, or zeros, and the rest is as before
pub record FrontToBack (r : List ℕ) : Type 0 where
  pub stored_front : (e : JournalEntry) (j i : ℕ) → store_refusal r e ≡ 0 → i < j → i < 512
      → get_or (stored r e j) (512 * first_bad r + i) 0 ≡ get_or (block_of (suc (first_bad r)) e) i 0
  pub stored_rest : (e : JournalEntry) (j i : ℕ) → store_refusal r e ≡ 0 → j ≤ i → i < 512
      → get_or (stored r e j) (512 * first_bad r + i) 0 ≡ get_or r (512 * first_bad r + i) 0
  pub refused_leaves : (e : JournalEntry) (j : ℕ) → (store_refusal r e ≡ 0 → ⊥) → stored r e j ≡ r
  pub zeroed_front : (j i : ℕ) → sized r ≡ true → first_bad r < blocks r → i < j → i < 512 → get_or (repaired r j) (512 * first_bad r + i) 1 ≡ 0
  pub zeroed_rest : (j i : ℕ) → sized r ≡ true → first_bad r < blocks r → j ≤ i → i < 512
      → get_or (repaired r j) (512 * first_bad r + i) 0 ≡ get_or r (512 * first_bad r + i) 0

-- 8 before 3, and 3 before 12
pub record Refusals (r : List ℕ) (e : JournalEntry) : Type 0 where
  pub eight : (WholeBlocks r → ⊥) → store_refusal r e ≡ 8
  pub three : WholeBlocks r → 127 < e.number → store_refusal r e ≡ 3
  pub twelve : WholeBlocks r → e.number ≤ 127 → 3 < e.kind → store_refusal r e ≡ 12

-- 16 exactly when no block is bad and nothing else refuses
abbrev pub Refused16 : List ℕ → JournalEntry → Type 0
Refused16 r e =
    (store_refusal r e ≡ 16)
    ↔ (WholeBlocks r × (e.number ≤ 127) × (e.kind ≤ 3) × ((k : ℕ) → k < blocks r → good k (block_at r k) ≡ true))

-- what a store answers and leaves: its refusal; else the serial, one more than the number of entries before it, or where it is cut
pub record StoreTells (r : List ℕ) (e : JournalEntry) (j : ℕ) : Type 0 where
  pub leaves : (store_call r e j).1 ≡ stored r e j
  pub refused_so : (store_refusal r e ≡ 0 → ⊥) → (store_call r e j).0 ≡ refused (store_refusal r e)
  pub whole : store_refusal r e ≡ 0 → 512 ≤ j → (store_call r e j).0 ≡ ok (written_whole (suc (length (entries_of r))))
  pub cut : store_refusal r e ≡ 0 → j < 512 → (store_call r e j).0 ≡ ok (cut_after j)

-- the same of a repair, which is refused only with 8, and names no block if none is bad
pub record RepairTells (r : List ℕ) (j : ℕ) : Type 0 where
  pub leaves : (repair_call r j).1 ≡ repaired r j
  pub eight : (WholeBlocks r → ⊥) → (repair_call r j).0 ≡ refused 8
  pub none : WholeBlocks r → first_bad r ≡ blocks r → (repair_call r j).0 ≡ ok none_bad
  pub whole : WholeBlocks r → first_bad r < blocks r → 512 ≤ j → (repair_call r j).0 ≡ ok (written_whole (suc (length (entries_of r))))
  pub cut : WholeBlocks r → first_bad r < blocks r → j < 512 → (repair_call r j).0 ≡ ok (cut_after j)

-- a store that answers a serial has stored its entry behind those before it
abbrev pub StoredBehind : Type 0
StoredBehind =
    (n : ℕ) → 1 ≤ n → n ≤ 128 → (acts : List CutCall) (e : JournalEntry) (j s : ℕ) → (store_call (region_after n acts) e j).0 ≡ ok (written_whole s)
    → entries_of (store_call (region_after n acts) e j).1 ≡ entries_of (region_after n acts) ++ (e ∷ [])

-- ---- the listing

abbrev pub entry_at : List JournalEntry → ℕ → JournalEntry
entry_at es i = get_or es i (journal_entry 0 0)

-- a 1 or 2 for the number stands at a place at or behind `from`, and no start of that number from there up to it
pub record Answers (es : List JournalEntry) (number from place : ℕ) : Type 0 where
  pub inside : place < length es
  pub behind : from ≤ place
  pub same_number : (entry_at es place).number ≡ number
  pub low : 1 ≤ (entry_at es place).kind
  pub high : (entry_at es place).kind ≤ 2
  pub no_start : (i : ℕ) → from ≤ i → i < place → (entry_at es i).number ≡ number → (entry_at es i).kind ≡ 0 → ⊥

infixl 20 ◌∈◌
pub data ◌∈◌ (x : ℕ) : List ℕ → Type 0 where
  is_first : (xs : List ℕ) → x ∈ (x ∷ xs)
  in_rest : (y : ℕ) (xs : List ℕ) → x ∈ xs → x ∈ (y ∷ xs)

-- a serial is listed exactly if a start stands at its place and nothing behind it answers that start
abbrev pub ListedExactly : List JournalEntry → Type 0
ListedExactly es =
    (k : ℕ)
    → (suc k ∈ not_to_retry 0 es)
    ↔ ((k < length es) × ((entry_at es k).kind ≡ 0) × ((place : ℕ) → Answers es (entry_at es k).number (suc k) place → ⊥))

-- the serials rise, each above the bound
abbrev pub Rising : ℕ → List ℕ → Type 0
Rising bound [] = Unit {0}
Rising bound (s ∷ ss) = (bound < s) × Rising s ss

-- ---- all that is claimed

pub record RegionClaims (r : List ℕ) : Type 0 where
  pub sized_exactly : SizedExactly r
  pub first_bad_lem : FirstBad r
  pub store_frame : (e : JournalEntry) (j : ℕ) → Frame r (stored r e j)
  pub repair_frame : (j : ℕ) → Frame r (repaired r j)
  pub front_to_back : FrontToBack r
  pub refusals : (e : JournalEntry) → Refusals r e
  pub refused_16 : (e : JournalEntry) → Refused16 r e
  pub store_tells : (e : JournalEntry) (j : ℕ) → StoreTells r e j
  pub repair_tells : (j : ℕ) → RepairTells r j

pub record JournalClaims : Type 0 where
  pub layout : (serial : ℕ) (e : JournalEntry) → BlockLayout serial e
  pub good_exactly : GoodExactly
  pub region : (r : List ℕ) → RegionClaims r
  pub power_safe : PowerSafe
  pub nothing_lost : NothingLost
  pub stored_behind : StoredBehind
  pub listed_exactly : (es : List JournalEntry) → ListedExactly es
  pub listed_in_order : (es : List JournalEntry) → Rising 0 (not_to_retry 0 es)
