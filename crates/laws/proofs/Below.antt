-- A test that antt computes at each number below a bound, and the law that turns it into the rule at each of them.
use mathlib.Core.Path.{◌≡◌, refl, subst, sym}
use mathlib.Core.Bool.{Bool, true, false, ◌&&◌, beq}
use Prim.Native.Nat.{ℕ, zero, suc, ◌<◌}
use native.Mathlib.Nat.{not-suc-le-zero}
use native.Mathlib.Omega.{arith}
use lib.Dec.{T, eqb, eqb→eq}
use borrow.Author.Tests.{eqb-false}
use Rattle.laws.proofs.Tests.{T-first, T-second}

-- the test passes at each number below n
abbrev pub every : (ℕ → Bool) → ℕ → Bool
every f zero = true
every f (suc n) = f n && every f n

decide : (f : ℕ → Bool) (n k : ℕ) (b : Bool) → eqb k n ≡ b → k < suc n → T (f n) → (k < n → T (f k)) → T (f k)
decide f n k true e h at less = subst (λ (m : ℕ). T (f m)) (sym (eqb→eq k n (subst T (sym e) tt))) at
decide f n k false e h at less = less (let d : k ≡ n → ⊥ = eqb-false k n e in omega arith)

pub below : (f : ℕ → Bool) (n : ℕ) → T (every f n) → (k : ℕ) → k < n → T (f k)
below f zero t k h = absurd (not-suc-le-zero h)
below f (suc n) t k h = decide f n k (eqb k n) refl h (T-first (f n) (every f n) t) (below f n (T-second (f n) (every f n) t) k)

-- two functions that agree at each number below n, by a computed test
pub below_number : (f g : ℕ → ℕ) (n : ℕ) → T (every (λ k. eqb (f k) (g k)) n) → (k : ℕ) → k < n → f k ≡ g k
below_number f g n t k h = eqb→eq (f k) (g k) (below (λ k. eqb (f k) (g k)) n t k h)

pub below_test : (f g : ℕ → Bool) (n : ℕ) → T (every (λ k. beq (f k) (g k)) n) → (k : ℕ) → k < n → f k ≡ g k
below_test f g n t k h = same (f k) (g k) (below (λ k. beq (f k) (g k)) n t k h)
  where
    same : (a b : Bool) → T (beq a b) → a ≡ b
    same true true t = refl
    same true false t = absurd t
    same false true t = absurd t
    same false false t = refl
