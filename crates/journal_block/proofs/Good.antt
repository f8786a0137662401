-- When a block is not good, by its length, its session number or its kind; and when it is: if it is the block of what stands in it.
use mathlib.Core.Path.{◌≡◌, refl, ap, ◌∙◌}
use mathlib.Core.Bool.{Bool, true, false, ◌&&◌}
use mathlib.Core.List.{List, [], ◌∷◌}
use Prim.Native.Nat.{ℕ, suc, ◌+◌, ◌≤◌, ◌<◌}
use native.Mathlib.Numerals.{add-one}
use borrow.Author.Tests.{le-leb, lt-leb}
use lib.Dec.{eqb}
use lib.ListN.{length, get_or}
use lib.Pointwise.{pointwise}
use Rattle.journal_rules.specs.Block.{journal_entry, block_of}
use Rattle.journal_rules.specs.Region.{entry_in, equal_bytes, good}
use Rattle.journal_rules.specs.Claims.{IsBlock}
use Rattle.journal_rules.proofs.Blocks.{length_block, good_exactly}

pointwise_is : (xs ys : List ℕ) → pointwise eqb xs ys ≡ equal_bytes xs ys
unfolding equal_bytes
pointwise_is [] [] = refl
pointwise_is [] (y ∷ ys) = refl
pointwise_is (x ∷ xs) [] = refl
pointwise_is (x ∷ xs) (y ∷ ys) = ap (λ (t : Bool). eqb x y && t) (pointwise_is xs ys)

module _ (b : List ℕ) (k : ℕ) where
  pub bad_length : (length b ≡ 512 → ⊥) → false ≡ good k b
  bad_length n = go (good k b) refl
    where
      go : (t : Bool) → good k b ≡ t → false ≡ t
      go false e = refl
      go true e = let g : IsBlock (suc k) b = (good_exactly k b).0 e in absurd (n (ap length g.is ∙ length_block (suc k) g.held))

  pub bad_number : 127 < get_or b 4 0 → false ≡ good k b
  unfolding good
  bad_number h = rw (lt-leb (get_or b 4 0) 127 h)

  pub bad_kind : get_or b 4 0 ≤ 127 → 3 < get_or b 5 0 → false ≡ good k b
  unfolding good
  bad_kind g h = rw (le-leb (get_or b 4 0) 127 g, lt-leb (get_or b 5 0) 3 h)

  pub good_same : (w : List ℕ) → get_or b 4 0 ≤ 127 → get_or b 5 0 ≤ 3
      → w ≡ block_of (k + 1) (journal_entry (get_or b 4 0) (get_or b 5 0)) → pointwise eqb b w ≡ good k b
  unfolding good
  good_same w g h e =
      let s : w ≡ block_of (suc k) (entry_in b) = e ∙ ap (λ (n : ℕ). block_of n (entry_in b)) (add-one k) in
      ap (pointwise eqb b) s ∙ pointwise_is b (block_of (suc k) (entry_in b))
      ∙ rw (le-leb (get_or b 4 0) 127 g, le-leb (get_or b 5 0) 3 h)
