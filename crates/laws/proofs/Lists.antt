-- Laws on lists beyond the library's: bytes, the elements of a part by name, and a part of a part.
use mathlib.Core.Path.{◌≡◌, refl, ap, ◌∙◌}
use mathlib.Core.List.{List, [], ◌∷◌}
use Prim.Native.Nat.{ℕ, zero, suc, ◌+◌, ◌-◌, ◌≤◌, ◌<◌}
use native.Mathlib.Omega.{arith}
use lib.ListN.{length, get_or, take, drop}
use lib.Seq.{take-nil, drop-cons}
pub use Rattle.laws.specs.Bytes.{Bytes}

pub bytes_cons : (a : ℕ) (s : List ℕ) → a < 256 → Bytes s → Bytes (a ∷ s)
bytes_cons a s h bs zero = h
bytes_cons a s h bs (suc i) = bs i

-- the k elements from index i on
abbrev pub elements : ℕ → ℕ → List ℕ → List ℕ
elements zero i s = []
elements (suc k) i s = get_or s i 0 ∷ elements k (suc i) s

pub take_elements : (k i : ℕ) (s : List ℕ) → i + k ≤ length s → take k (drop i s) ≡ elements k i s
take_elements zero i s h = refl
take_elements (suc k) i s h =
    ap (take (suc k)) (drop-cons s i 0 (omega arith))
    ∙ ap (λ (l : List ℕ). get_or s i 0 ∷ l) (take_elements k (suc i) s (omega arith))

pub take_drop : (w n : ℕ) (s : List ℕ) → n ≤ w → take (w - n) (drop n s) ≡ drop n (take w s)
take_drop w zero s h = let e : w - 0 ≡ w = omega arith in ap (λ (k : ℕ). take k s) e
take_drop zero (suc n) s h = absurd (omega arith)
take_drop (suc w) (suc n) [] h = take-nil (suc w - suc n)
take_drop (suc w) (suc n) (b ∷ s) h =
    let e : suc w - suc n ≡ w - n = omega arith in
    ap (λ (k : ℕ). take k (drop n s)) e ∙ take_drop w n s (omega arith)
