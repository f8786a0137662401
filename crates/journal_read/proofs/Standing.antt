-- The entries of a region are what stands in the blocks before the first bad one.
use mathlib.Core.Path.{◌≡◌, refl, sym, ap, ◌∙◌}
use mathlib.Core.Bool.{Bool, true, false}
use mathlib.Core.List.{List, [], ◌∷◌}
use Prim.Native.Nat.{ℕ, zero, suc, ◌+◌, ◌-◌, ◌*◌, ◌≤◌, ◌<◌}
use native.Mathlib.Omega.{arith}
use native.Mathlib.Numerals.{add-one}
use lib.ListN.{length}
use Rattle.laws.specs.Pick.{pick}
use Rattle.journal_rules.specs.Block.{JournalEntry}
use Rattle.journal_rules.specs.Region.{block_at, entry_in, good, sized, blocks, first_bad_from, first_bad, entries_from, entries_of}
use Rattle.journal_rules.proofs.Regions.{sized_bounds, first_bad_lem}

-- the entries of n blocks from place k on, whether they are good or not
unfoldable pub entries_in : ℕ → ℕ → List ℕ → List JournalEntry
entries_in zero k r = []
entries_in (suc n) k r = entry_in (block_at r k) ∷ entries_in n (suc k) r

pub count_in_lem : (n k : ℕ) (r : List ℕ) → length (entries_in n k r) ≡ n
unfolding entries_in
count_in_lem zero k r = refl
count_in_lem (suc n) k r = ap suc (count_in_lem n (suc k) r)

not_before : (n k : ℕ) (r : List ℕ) → k ≤ first_bad_from n k r
unfolding first_bad_from pick
not_before zero k r = omega arith
not_before (suc n) k r = go (good k (block_at r k)) (not_before n (suc k) r)
  where
    go : (t : Bool) → suc k ≤ first_bad_from n (suc k) r → k ≤ pick t (first_bad_from n (suc k) r) k
    go true h = omega arith
    go false h = omega arith

standing_from : (n k : ℕ) (r : List ℕ) → entries_from n k r ≡ entries_in (first_bad_from n k r - k) k r
unfolding first_bad_from entries_from entries_in pick
standing_from zero k r = let e : 0 ≡ k - k = omega arith in ap (λ (m : ℕ). entries_in m k r) e
standing_from (suc n) k r = go (good k (block_at r k)) (standing_from n (suc k) r) (not_before n (suc k) r)
  where
    go : (t : Bool) → entries_from n (suc k) r ≡ entries_in (first_bad_from n (suc k) r - suc k) (suc k) r → suc k ≤ first_bad_from n (suc k) r
        → pick t (entry_in (block_at r k) ∷ entries_from n (suc k) r) [] ≡ entries_in (pick t (first_bad_from n (suc k) r) k - k) k r
    go true ih h =
        let e : suc (first_bad_from n (suc k) r - suc k) ≡ first_bad_from n (suc k) r - k = omega arith in
        ap (λ (l : List JournalEntry). entry_in (block_at r k) ∷ l) ih ∙ ap (λ (m : ℕ). entries_in m k r) e
    go false ih h = let e : 0 ≡ k - k = omega arith in ap (λ (m : ℕ). entries_in m k r) e

module _ (r : List ℕ) (n k : ℕ) where
  pub entries_on : k < n → entries_in (n - k) k r ≡ entry_in (block_at r k) ∷ entries_in (n - (k + 1)) (k + 1) r
  unfolding entries_in
  entries_on h =
      let e : n - k ≡ suc (n - (k + 1)) = omega arith in
      ap (λ (m : ℕ). entries_in m k r) e ∙ ap (λ (m : ℕ). entry_in (block_at r k) ∷ entries_in (n - (k + 1)) m r) (sym (add-one k))

  pub entries_end : n ≤ k → entries_in (n - k) k r ≡ []
  unfolding entries_in
  entries_end h = let e : n - k ≡ 0 = omega arith in ap (λ (m : ℕ). entries_in m k r) e

module _ (r : List ℕ) (h : sized r ≡ true) (k : ℕ) (f : k ≡ first_bad r) where
  pub bounds : (k ≤ 128) × (512 * k ≤ length r)
  bounds = let b = sized_bounds r h in let w : first_bad r ≤ blocks r = (first_bad_lem r).within in (omega arith, omega arith)

  pub entries_are : entries_of r ≡ entries_in k 0 r
  entries_are =
      let e : first_bad r - 0 ≡ k = omega arith in
      standing_from (blocks r) 0 r ∙ ap (λ (m : ℕ). entries_in m 0 r) e
