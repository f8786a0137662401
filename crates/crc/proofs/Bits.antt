-- The bits of a number, the lowest first: their count, those of an xor, the highest, and the number that they are.
use mathlib.Core.Path.{◌≡◌, refl, sym, ap, ap₂, ◌∙◌}
use mathlib.Core.Bool.{Bool, false, xor}
use mathlib.Core.List.{[], ◌∷◌, ◌++◌}
use Prim.Native.Nat.{ℕ, zero, suc, ◌*◌, ◌/◌, ◌%◌, ◌^◌, ◌<◌}
use native.Mathlib.Nat.{pow-suc}
use native.Mathlib.Omega.{arith}
use lib.Arith.{lt-one}
use lib.Bits.{bit_xor, xor_shr, xor_mod}
use lib.Dec.{eqb}
use lib.ListN.{length}
use Rattle.crc.specs.Crc.{Polynomial, lowest_first, difference, digit, bits_as_number}
use Rattle.crc.proofs.Xor.{below_2}

-- whether the lowest bit is 1
abbrev pub odd : ℕ → Bool
odd x = eqb (x % 2) 1

digit_eqb : (y : ℕ) → y < 2 → digit (eqb y 1) ≡ y
digit_eqb zero h = refl
digit_eqb (suc zero) h = refl
digit_eqb (suc (suc y)) h = absurd (omega arith)

pub digit_odd : (x : ℕ) → digit (odd x) ≡ x % 2
digit_odd x = digit_eqb (x % 2) (below_2 x)

xor_eqb : (x y : ℕ) → x < 2 → y < 2 → eqb (bit_xor x y) 1 ≡ xor (eqb x 1) (eqb y 1)
unfolding xor
xor_eqb zero zero hx hy = refl
xor_eqb zero (suc zero) hx hy = refl
xor_eqb zero (suc (suc y)) hx hy = absurd (omega arith)
xor_eqb (suc zero) zero hx hy = refl
xor_eqb (suc zero) (suc zero) hx hy = refl
xor_eqb (suc zero) (suc (suc y)) hx hy = absurd (omega arith)
xor_eqb (suc (suc x)) y hx hy = absurd (omega arith)

pub odd_xor : (a b : ℕ) → odd (bit_xor a b) ≡ xor (odd a) (odd b)
odd_xor a b = ap (λ (x : ℕ). eqb x 1) (xor_mod a b 1) ∙ xor_eqb (a % 2) (b % 2) (below_2 a) (below_2 b)

pub length_bits : (k x : ℕ) → length (lowest_first k x) ≡ k
unfolding lowest_first
length_bits zero x = refl
length_bits (suc k) x = ap suc (length_bits k (x / 2))

pub bits_xor : (k a b : ℕ) → lowest_first k (bit_xor a b) ≡ difference (lowest_first k a) (lowest_first k b)
unfolding lowest_first difference
bits_xor zero a b = refl
bits_xor (suc k) a b =
    ap₂ (λ (x : Bool) (p : Polynomial). x ∷ p) (odd_xor a b) (ap (lowest_first k) (xor_shr a b 1) ∙ bits_xor k (a / 2) (b / 2))

pub halved : (k x : ℕ) → x < 2 ^ suc k → x / 2 < 2 ^ k
halved k x h = let e : 2 ^ suc k ≡ 2 ^ k * 2 = pow-suc 2 k in omega arith

-- the highest bit of a number that does without it
pub bits_top : (k x : ℕ) → x < 2 ^ k → lowest_first (suc k) x ≡ lowest_first k x ++ (false ∷ [])
unfolding lowest_first
bits_top zero x h = rw (lt-one h)
bits_top (suc k) x h = ap (λ (p : Polynomial). odd x ∷ p) (bits_top k (x / 2) (halved k x h))

pub bits_number : (k x : ℕ) → x < 2 ^ k → bits_as_number (lowest_first k x) ≡ x
unfolding lowest_first bits_as_number
bits_number zero x h = sym (lt-one h)
bits_number (suc k) x h =
    let low = digit_odd x in
    let high = bits_number k (x / 2) (halved k x h) in
    omega arith
