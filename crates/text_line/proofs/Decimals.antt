-- A number in decimal, as the standard library prints it, is the last of its digits, and no fewer hold it.
use mathlib.Core.Path.{◌≡◌, refl, sym, ◌∙◌}
use mathlib.Core.Bool.{Bool, true, false}
use Prim.Native.Nat.{ℕ, zero, suc, ◌-◌, ◌/◌, ◌%◌, ◌^◌, ◌≤◌, ◌<◌}
use native.Mathlib.Nat.{pow-suc, one-le-pow}
use native.Mathlib.Omega.{arith}
use Rattle.std.specs.Prelude.{List, [], ◌∷◌, ◌++◌, ◌==◌, if◌then◌else◌}
use Rattle.std.proofs.lemmas.List.{append_assoc, append-nil}
use Rattle.std.specs.Fmt.{decimal, digits, digits_onto, digit_glyph}
use Rattle.io.specs.Digits.{last_digits, IsDigitCount}

-- one digit is enough exactly below ten
one_digit : (n k : ℕ) → n < 10 → IsDigitCount 10 1 n k → k ≡ 1
one_digit n zero h f = absurd (omega (arith, f.0))
one_digit n (suc zero) h f = refl
one_digit n (suc (suc k)) h f =
    let e : suc (suc k) - 1 ≡ suc k = omega arith in
    let big : 10 ^ suc k ≤ n = rw e at (f.2 (omega arith)) in
    let one = one-le-pow k 10 (omega arith) in
    absurd (omega (arith, pow-suc 10 k))

-- the digits before the last are the fewest of the rest
more_digits : (n k : ℕ) → 10 ≤ n → IsDigitCount 10 1 n (suc k) → IsDigitCount 10 1 (n / 10) k
more_digits n zero h f = absurd (omega (arith, f.1))
more_digits n (suc k) h f =
    let e : suc (suc k) - 1 ≡ suc k = omega arith in
    let d : suc k - 1 ≡ k = omega arith in
    let big : 10 ^ suc k ≤ n = rw e at (f.2 (omega arith)) in
    let low : 10 ^ k ≤ n / 10 = omega (arith, pow-suc 10 k) in
    (omega arith, omega (arith, f.1, pow-suc 10 (suc k)), λ _. rw d low)

last_of : (m n k : ℕ) (acc : List ℕ) → n < 10 ^ suc m → IsDigitCount 10 1 n k → digits_onto (suc m) 10 false n acc ≡ last_digits 10 k n ++ acc
last_of m n zero acc h f = absurd (omega (arith, f.0))
last_of zero n (suc j) acc h f =
    let low : n < 10 = omega (arith, h) in
    let alone : (n / 10 == 0) ≡ true = grind arith in
    let one = one_digit n (suc j) low f in
    let none : j ≡ 0 = omega (arith, one) in
    rw (alone, none) refl
last_of (suc m) n (suc j) acc h f = go (n / 10 == 0) refl (last_of m (n / 10) j (digit_glyph false (n % 10) ∷ acc))
  where
    go : (b : Bool) → (n / 10 == 0) ≡ b
        → (n / 10 < 10 ^ suc m → IsDigitCount 10 1 (n / 10) j → digits_onto (suc m) 10 false (n / 10) (digit_glyph false (n % 10) ∷ acc) ≡ last_digits 10 j (n / 10) ++ digit_glyph false (n % 10) ∷ acc)
        → (if b then digit_glyph false (n % 10) ∷ acc else digits_onto (suc m) 10 false (n / 10) (digit_glyph false (n % 10) ∷ acc)) ≡ last_digits 10 (suc j) n ++ acc
    go true e rest =
        let low : n < 10 = grind arith in
        let one = one_digit n (suc j) low f in
        let none : j ≡ 0 = omega (arith, one) in
        rw none refl
    go false e rest =
        let big : 10 ≤ n = grind arith in
        let below : n / 10 < 10 ^ suc m = omega (arith, h, pow-suc 10 (suc m)) in
        rest below (more_digits n j big f) ∙ sym (append_assoc (last_digits 10 j (n / 10)) (digit_glyph false (n % 10) ∷ []) acc)

digits_are : (n : ℕ) → decimal n ≡ digits_onto (suc 63) 10 false n []
unfolding digits
digits_are n = refl

pub fewest_decimal : (n k : ℕ) → n < 2 ^ 64 → IsDigitCount 10 1 n k → last_digits 10 k n ≡ decimal n
fewest_decimal n k h f = sym (digits_are n ∙ last_of 63 n k [] (omega arith) f ∙ append-nil (last_digits 10 k n))
