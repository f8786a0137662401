-- The nearest number, step by step: the search over the next numbers, going round; over all 128 it finds the nearest one.
use Rattle.std.specs.Prelude.{Some, None, Option}
use mathlib.Core.Path.{◌≡◌, refl}
use mathlib.Core.Bool.{Bool, true, false}
use mathlib.Core.List.{List, [], ◌∷◌}
use Prim.Native.Nat.{ℕ, zero, suc, ◌≤◌}
use native.Mathlib.Omega.{arith}
use lib.ListN.{length, get_or}
use Rattle.laws.specs.Pick.{pick}
use Rattle.laws.specs.Circle.{following, first_after, nearest}
use Rattle.laws.proofs.Circle.{nearest_same}
use Rattle.call_search.specs.Flags.{nearest_found}

-- what is found among the next k numbers after i
unfoldable pub searched : (ℕ → Bool) → ℕ → ℕ → Option ℕ
searched test i zero = None
searched test i (suc k) = pick (test (following i)) (Some (following i)) (searched test (following i) k)

module _ (test : ℕ → Bool) where
  one : (i : ℕ) (b : Bool) → test (following i) ≡ b
      → searched test i 1 ≡ pick (test (first_after test i 1)) (Some (first_after test i 1)) None
  unfolding searched first_after pick
  one i true e = simp e
  one i false e = simp e

  step : (i k : ℕ) (b : Bool) → test (following i) ≡ b
      → searched test (following i) (suc k) ≡ pick (test (first_after test (following i) (suc k))) (Some (first_after test (following i) (suc k))) None
      → searched test i (suc (suc k)) ≡ pick (test (first_after test i (suc (suc k)))) (Some (first_after test i (suc (suc k)))) None
  unfolding searched first_after pick
  step i k true e h = simp e
  step i k false e h = simp e h

  all : (i k : ℕ) → searched test i (suc k) ≡ pick (test (first_after test i (suc k))) (Some (first_after test i (suc k))) None
  all i zero = one i (test (following i)) refl
  all i (suc k) = step i k (test (following i)) refl (all (following i) k)

  pub search_all : (i : ℕ) → searched test i 128 ≡ nearest_found test i
  unfolding nearest_found nearest
  search_all i = all i 127

-- tests that agree on every number find the same
pub found_same : (f g : ℕ → Bool) → ((n : ℕ) → f n ≡ g n) → (i : ℕ) → nearest_found f i ≡ nearest_found g i
unfolding nearest_found
found_same f g h i =
    let e = nearest_same f g (λ n _. h n) i in
    rw (h (nearest f i), e)

-- past the end nothing is read
pub read_past : (l : List ℕ) (i d : ℕ) → length l ≤ i → d ≡ get_or l i d
read_past [] i d h = refl
read_past (x ∷ l) zero d h = absurd (omega arith)
read_past (x ∷ l) (suc i) d h = read_past l i d (omega arith)
