-- The claims applied, each part once, in numbers where they have some, so that none can be said more weakly unnoticed.
use mathlib.Core.Path.{◌≡◌, refl, ◌∙◌}
use mathlib.Core.Bool.{true}
use mathlib.Core.List.{List, [], ◌∷◌, ◌++◌}
use Prim.Native.Nat.{ℕ, suc, ◌+◌, ◌*◌, ◌≤◌, ◌<◌}
use native.Mathlib.Omega.{arith}
use lib.ListN.{length, get_or, take, drop}
use Rattle.laws.specs.Pick.{pick}
use Rattle.laws.specs.Result.{ok, refused}
use Rattle.crc.specs.Crc.{crc_of}
use Rattle.journal_rules.specs.Block.{JournalEntry, journal_entry, four_bytes, block_of}
use Rattle.journal_rules.specs.Region.{block_at, good, blocks, sized, first_bad, entries_of, store_refusal, stored, repaired}
use Rattle.journal_rules.specs.Listing.{not_to_retry}
use Rattle.journal_rules.specs.Calls.{written_whole, cut_after, none_bad, store_call, repair_call}
use Rattle.journal_rules.specs.Power.{CutCall, store, repair, region_after, whole_entries}
use Rattle.journal_rules.specs.Claims.{IsBlock, WholeBlocks, Answers, entry_at, ◌∈◌, Rising}
use Rattle.journal_rules.proofs.Claimed.{journal_claims}

-- ---- power

-- a start that is whole, one that is cut before its last byte, a repair that is cut, and a fate
abbrev acts : List CutCall
acts = store (journal_entry 5 0) 512 ∷ store (journal_entry 7 0) 511 ∷ repair 9 ∷ store (journal_entry 128 0) 512 ∷ store (journal_entry 5 1) 999 ∷ []

use_power : entries_of (region_after 128 acts) ≡ journal_entry 5 0 ∷ journal_entry 5 1 ∷ []
unfolding whole_entries pick
use_power = journal_claims.power_safe 128 (omega arith) (omega arith) acts ∙ refl

use_power_1 : entries_of (region_after 1 acts) ≡ journal_entry 5 0 ∷ []
unfolding whole_entries pick
use_power_1 = journal_claims.power_safe 1 (omega arith) (omega arith) acts ∙ refl

use_lost : (more : List CutCall) → entries_of (region_after 2 (acts ++ more)) ≡ entries_of (region_after 2 acts) ++ (journal_claims.nothing_lost 2 (omega arith) (omega arith) acts more).rest
use_lost more = (journal_claims.nothing_lost 2 (omega arith) (omega arith) acts more).is

use_behind : (e : JournalEntry) (j s : ℕ) → (store_call (region_after 3 acts) e j).0 ≡ ok (written_whole s)
    → entries_of (store_call (region_after 3 acts) e j).1 ≡ entries_of (region_after 3 acts) ++ (e ∷ [])
use_behind e j s q = journal_claims.stored_behind 3 (omega arith) (omega arith) acts e j s q

-- ---- blocks

module _ (s : ℕ) (e : JournalEntry) where
  use_block : (length (block_of s e) ≡ 512) × (take 4 (block_of s e) ≡ four_bytes s) × (get_or (block_of s e) 4 0 ≡ e.number) × (get_or (block_of s e) 5 0 ≡ e.kind)
      × (get_or (block_of s e) 6 0 ≡ 0) × (get_or (block_of s e) 506 0 ≡ 0) × (get_or (block_of s e) 511 0 ≡ 0xa5)
      × (take 4 (drop 507 (block_of s e)) ≡ four_bytes (crc_of (take 507 (block_of s e))))
  use_block =
      let l = journal_claims.layout s e in
      (l.size, l.serial_first, l.number, l.kind, l.zeros 6 (omega arith) (omega arith), l.zeros 506 (omega arith) (omega arith), l.last, l.checksum)

use_good : (k : ℕ) (b : List ℕ) → good k b ≡ true → IsBlock (suc k) b
use_good k b = (journal_claims.good_exactly k b).0

use_good_back : (k : ℕ) (b : List ℕ) → IsBlock (suc k) b → good k b ≡ true
use_good_back k b = (journal_claims.good_exactly k b).1

-- ---- any region

module _ (r : List ℕ) where
  use_sized : (sized r ≡ true → WholeBlocks r) × (WholeBlocks r → sized r ≡ true)
  use_sized = ((journal_claims.region r).sized_exactly.0, (journal_claims.region r).sized_exactly.1)

  use_first : (first_bad r ≤ blocks r) × (length (entries_of r) ≡ first_bad r) × ((k : ℕ) → k < first_bad r → good k (block_at r k) ≡ true)
      × (first_bad r < blocks r → good (first_bad r) (block_at r (first_bad r)) ≡ true → ⊥)
  use_first = let f = (journal_claims.region r).first_bad_lem in (f.within, f.count, f.before, f.is_bad)

  use_store_frame : (e : JournalEntry) (j i : ℕ) → (length (stored r e j) ≡ length r) × (i < 512 * first_bad r → get_or (stored r e j) i 0 ≡ get_or r i 0)
      × (512 * first_bad r + 512 ≤ i → get_or (stored r e j) i 0 ≡ get_or r i 0)
  use_store_frame e j i = let f = (journal_claims.region r).store_frame e j in (f.size, f.below i, f.above i)

  use_repair_frame : (j i : ℕ) → (length (repaired r j) ≡ length r) × (i < 512 * first_bad r → get_or (repaired r j) i 0 ≡ get_or r i 0)
      × (512 * first_bad r + 512 ≤ i → get_or (repaired r j) i 0 ≡ get_or r i 0)
  use_repair_frame j i = let f = (journal_claims.region r).repair_frame j in (f.size, f.below i, f.above i)

  use_stored_front : (e : JournalEntry) → store_refusal r e ≡ 0 → get_or (stored r e 512) (512 * first_bad r + 511) 0 ≡ get_or (block_of (suc (first_bad r)) e) 511 0
  use_stored_front e q = (journal_claims.region r).front_to_back.stored_front e 512 511 q (omega arith) (omega arith)

  use_stored_rest : (e : JournalEntry) → store_refusal r e ≡ 0 → get_or (stored r e 3) (512 * first_bad r + 3) 0 ≡ get_or r (512 * first_bad r + 3) 0
  use_stored_rest e q = (journal_claims.region r).front_to_back.stored_rest e 3 3 q (omega arith) (omega arith)

  use_refused_leaves : (e : JournalEntry) (j : ℕ) → (store_refusal r e ≡ 0 → ⊥) → stored r e j ≡ r
  use_refused_leaves = (journal_claims.region r).front_to_back.refused_leaves

  use_zeroed : sized r ≡ true → first_bad r < blocks r → (get_or (repaired r 512) (512 * first_bad r + 511) 1 ≡ 0) × (get_or (repaired r 3) (512 * first_bad r + 3) 0 ≡ get_or r (512 * first_bad r + 3) 0)
  use_zeroed h b =
      let f = (journal_claims.region r).front_to_back in
      (f.zeroed_front 512 511 h b (omega arith) (omega arith), f.zeroed_rest 3 3 h b (omega arith) (omega arith))

  use_refusals : (e : JournalEntry) → ((WholeBlocks r → ⊥) → store_refusal r e ≡ 8) × (WholeBlocks r → 127 < e.number → store_refusal r e ≡ 3)
      × (WholeBlocks r → e.number ≤ 127 → 3 < e.kind → store_refusal r e ≡ 12)
  use_refusals e = let f = (journal_claims.region r).refusals e in (f.eight, f.three, f.twelve)

  use_16 : (e : JournalEntry) → store_refusal r e ≡ 16 → (k : ℕ) → k < blocks r → good k (block_at r k) ≡ true
  use_16 e q = (((journal_claims.region r).refused_16 e).0 q).3

  use_16_back : (e : JournalEntry) → WholeBlocks r → e.number ≤ 127 → e.kind ≤ 3 → ((k : ℕ) → k < blocks r → good k (block_at r k) ≡ true) → store_refusal r e ≡ 16
  use_16_back e w n k g = ((journal_claims.region r).refused_16 e).1 (w, n, k, g)

  use_store_tells : (e : JournalEntry) (j : ℕ) → ((store_call r e j).1 ≡ stored r e j) × ((store_refusal r e ≡ 0 → ⊥) → (store_call r e j).0 ≡ refused (store_refusal r e))
      × (store_refusal r e ≡ 0 → (store_call r e 512).0 ≡ ok (written_whole (suc (length (entries_of r))))) × (store_refusal r e ≡ 0 → (store_call r e 511).0 ≡ ok (cut_after 511))
  use_store_tells e j =
      let t = (journal_claims.region r).store_tells e in ((t j).leaves, (t j).refused_so, λ z. (t 512).whole z (omega arith), λ z. (t 511).cut z (omega arith))

  use_repair_tells : (j : ℕ) → ((repair_call r j).1 ≡ repaired r j) × ((WholeBlocks r → ⊥) → (repair_call r j).0 ≡ refused 8)
      × (WholeBlocks r → first_bad r ≡ blocks r → (repair_call r j).0 ≡ ok none_bad)
      × (WholeBlocks r → first_bad r < blocks r → (repair_call r 512).0 ≡ ok (written_whole (suc (length (entries_of r)))))
      × (WholeBlocks r → first_bad r < blocks r → (repair_call r 511).0 ≡ ok (cut_after 511))
  use_repair_tells j =
      let t = (journal_claims.region r).repair_tells in
      ((t j).leaves, (t j).eight, (t j).none, λ w b. (t 512).whole w b (omega arith), λ w b. (t 511).cut w b (omega arith))

-- ---- the listing

module _ (es : List JournalEntry) (k : ℕ) where
  use_listed : suc k ∈ not_to_retry 0 es → ((entry_at es k).kind ≡ 0) × ((place : ℕ) → Answers es (entry_at es k).number (suc k) place → ⊥)
  use_listed m = let l = (journal_claims.listed_exactly es k).0 m in (l.1, l.2)

  use_listed_back : k < length es → (entry_at es k).kind ≡ 0 → ((place : ℕ) → Answers es (entry_at es k).number (suc k) place → ⊥) → suc k ∈ not_to_retry 0 es
  use_listed_back h z a = (journal_claims.listed_exactly es k).1 (h, z, a)

use_order : (es : List JournalEntry) → Rising 0 (not_to_retry 0 es)
use_order = journal_claims.listed_in_order

-- serials that do not rise are told apart
use_rising : Rising 0 (2 ∷ 1 ∷ []) → ⊥
use_rising h = omega (arith, h.1.0)
