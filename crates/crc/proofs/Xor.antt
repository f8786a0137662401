-- Laws of xor beyond the library's: it is associative, and a digit times a number goes through it.
use mathlib.Core.Path.{◌≡◌, refl, sym, ap, ap₂, ◌∙◌}
use Prim.Native.Nat.{ℕ, zero, suc, ◌+◌, ◌*◌, ◌/◌, ◌%◌, ◌<◌}
use native.Mathlib.Nat.{mod-lt, zero-mul, zero-lt-suc}
use native.Mathlib.Omega.{arith}
use lib.Arith.{bin_ind}
use lib.Bits.{bit_xor, differ, xor_step, xor_shr, xor_mod, xor_comm, xor_zero_r, xor_self}

pub below_2 : (x : ℕ) → x % 2 < 2
below_2 x = mod-lt x (zero-lt-suc 1)

differ_assoc : (x y z : ℕ) → x < 2 → y < 2 → z < 2 → differ (bit_xor x y) z ≡ differ x (differ y z)
differ_assoc zero y z hx hy hz = refl
differ_assoc (suc zero) zero z hx hy hz = refl
differ_assoc (suc zero) (suc zero) zero hx hy hz = refl
differ_assoc (suc zero) (suc zero) (suc zero) hx hy hz = refl
differ_assoc (suc zero) (suc zero) (suc (suc z)) hx hy hz = absurd (omega arith)
differ_assoc (suc zero) (suc (suc y)) z hx hy hz = absurd (omega arith)
differ_assoc (suc (suc x)) y z hx hy hz = absurd (omega arith)

differ_is : (x y : ℕ) → x < 2 → y < 2 → bit_xor x y ≡ differ x y
differ_is zero y hx hy = refl
differ_is (suc zero) zero hx hy = refl
differ_is (suc zero) (suc zero) hx hy = refl
differ_is (suc zero) (suc (suc y)) hx hy = absurd (omega arith)
differ_is (suc (suc x)) y hx hy = absurd (omega arith)

pub xor_assoc : (a b c : ℕ) → bit_xor (bit_xor a b) c ≡ bit_xor a (bit_xor b c)
xor_assoc =
    bin_ind (λ (n : ℕ). (b c : ℕ) → bit_xor (bit_xor n b) c ≡ bit_xor n (bit_xor b c)) (λ b c. refl)
    (λ n ih b c.
    xor_step (bit_xor n b) c
    ∙ ap₂ (λ (h l : ℕ). h * 2 + l)
    (ap (λ (h : ℕ). bit_xor h (c / 2)) (xor_shr n b 1) ∙ ih (b / 2) (c / 2) ∙ ap (bit_xor (n / 2)) (sym (xor_shr b c 1)))
    (ap (λ (l : ℕ). differ l (c % 2)) (xor_mod n b 1)
    ∙ differ_assoc (n % 2) (b % 2) (c % 2) (below_2 n) (below_2 b) (below_2 c)
    ∙ ap (differ (n % 2)) (sym (xor_mod b c 1 ∙ differ_is (b % 2) (c % 2) (below_2 b) (below_2 c))))
    ∙ sym (xor_step n (bit_xor b c)))

pub xor_swap : (a b c d : ℕ) → bit_xor (bit_xor a b) (bit_xor c d) ≡ bit_xor (bit_xor a c) (bit_xor b d)
xor_swap a b c d =
    xor_assoc a b (bit_xor c d)
    ∙ ap (bit_xor a) (sym (xor_assoc b c d) ∙ ap (λ (x : ℕ). bit_xor x d) (xor_comm b c) ∙ xor_assoc c b d)
    ∙ sym (xor_assoc a c (bit_xor b d))

pub xor_times : (x y p : ℕ) → x < 2 → y < 2 → bit_xor x y * p ≡ bit_xor (x * p) (y * p)
xor_times zero y p hx hy = sym (ap (λ (z : ℕ). bit_xor z (y * p)) (zero-mul p))
xor_times (suc zero) zero p hx hy = sym (ap (bit_xor (1 * p)) (zero-mul p) ∙ xor_zero_r (1 * p))
xor_times (suc zero) (suc zero) p hx hy = zero-mul p ∙ sym (xor_self (1 * p))
xor_times (suc zero) (suc (suc y)) p hx hy = absurd (omega arith)
xor_times (suc (suc x)) y p hx hy = absurd (omega arith)
