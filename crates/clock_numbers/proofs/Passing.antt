-- The numbers that pass the test for 0 to 60,000 are those up to 60,000, with -0 among them; from the definition of `within`.
use mathlib.Core.Path.{◌≡◌, refl, sym, ◌∙◌}
use mathlib.Core.Bool.{true, false}
use mathlib.Core.Logic.{inl, inr}
use Prim.Native.Nat.{ℕ, ◌+◌, ◌*◌}
use native.Mathlib.Nat.{mul-one, mul-pos, zero-mul, eq-zero-or-pos}
use native.Mathlib.Omega.{arith}
use lib.IntN.{ℤ}
use lib.Dec.{T, eqb, eqb→eq, lit<}
use lib.Ieee.{Float, nan, inf, fin, up, down, of_int, lt, le, eq}
use lib.Ieee.Fits.{up_pos, down_pos, and_i}
use lib.Ieee.Order.{le_of_values}
use borrow.Author.Tests.{lt-ltb}
use Rattle.laws.proofs.Tests.{T-first, T-second}
use Rattle.clock_numbers.specs.Arithmetic.{whole_number, within}
use Rattle.clock_numbers.proofs.Range.{UpTo, up_to, below_whole}

-- m is 0 if m * 2 ^ e is
zero_digits : (m : ℕ) (e : ℤ) → m * up e ≡ 0 → m ≡ 0
zero_digits m e z = elim (eq-zero-or-pos m) [ inl p ↦ p | inr q ↦ (let w = mul-pos q (up_pos e) in absurd (omega arith)) ]

-- of the negative numbers only -0 is at least 0
negative : (m : ℕ) (e : ℤ) → T (le (whole_number 0) (fin true m e)) → m * up e ≡ 0
unfolding whole_number of_int le lt eq
negative m e t =
    let same = T-first (eqb (0 * 1 * down e) (m * up e * 1)) (eqb (0 * 1 * down e) 0) t in
    sym (mul-one (m * up e)) ∙ sym (eqb→eq (0 * 1 * down e) (m * up e * 1) same) ∙ zero-mul (down e)

pub zero_within : (e : ℤ) → T (within 0 60_000 (fin true 0 e))
unfolding whole_number of_int le lt eq
zero_within e =
    let z : 0 * 1 * down e ≡ 0 = zero-mul (down e) in
    let w : 0 * up e * 1 ≡ 0 = mul-one (0 * up e) ∙ zero-mul (up e) in
    rw (z, w, lt-ltb 0 (0 + 60_000 * down e) (omega (arith, down_pos e))) tt

pub within→up_to : (x : Float) → T (within 0 60_000 x) → UpTo 60_000 x
unfolding whole_number of_int le lt eq
within→up_to nan t = absurd t
within→up_to (inf true) t = absurd t
within→up_to (inf false) t = absurd t
within→up_to (fin true m e) t =
    let z = negative m e (T-first (le (whole_number 0) (fin true m e)) (le (fin true m e) (whole_number 60_000)) t) in
    up_to {e = e} (λ u. zero_digits m e z) (omega arith)
within→up_to (fin false m e) t =
    up_to (λ u. absurd u)
    (below_whole 60_000 tt m e (T-second (le (whole_number 0) (fin false m e)) (le (fin false m e) (whole_number 60_000)) t))

pub up_to→within : {x : Float} → UpTo 60_000 x → T (within 0 60_000 x)
unfolding whole_number of_int
up_to→within (up_to {s = true} {m} {e} f h) = rw (f tt) (zero_within e)
up_to→within (up_to {s = false} {m} {e} f h) =
    let x = fin false m e in
    and_i (le (whole_number 0) x) (le x (whole_number 60_000))
    (le_of_values (whole_number 0) x 0 1 (m * up e) (down e) (lit< tt) (down_pos e) (refl, refl) (refl, refl) (omega arith))
    (le_of_values x (whole_number 60_000) (m * up e) (down e) 60_000 1 (down_pos e) (lit< tt) (refl, refl) (refl, refl) (omega arith))
