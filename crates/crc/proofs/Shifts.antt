-- Bits that go out are linear in xor, so eight of them split into what moves down and what a table of 256 entries holds.
use mathlib.Core.Path.{◌≡◌, refl, sym, ap, ap₂, ◌∙◌}
use mathlib.Core.Bool.{Bool, true, false}
use mathlib.Core.List.{List, [], ◌∷◌, ◌++◌}
use Prim.Native.Nat.{ℕ, zero, suc, ◌+◌, ◌*◌, ◌/◌, ◌%◌, ◌^◌, ◌<◌}
use native.Mathlib.Nat.{mod-lt, zero-lt-suc, zero-mul, mul-one, div-add-mod', div-eq_of_lt}
use native.Mathlib.Omega.{arith}
use lib.Arith.{lt-one}
use lib.Bits.{bit_xor, xor_shr, xor_mod, xor_comm, xor_zero_r, xor_lt, xor_shifted, shifted_half, shifted_even}
use lib.Dec.{T, eqb, lit<}
use lib.ListN.{get_or}
use Rattle.laws.proofs.Below.{every, below_number}
use Rattle.crc.specs.Crc.{Polynomial, digit, lowest_first}
use Rattle.crc.specs.Steps.{reflected_generator, after_shift, after_shifts, after_bits, IsTable}
use Rattle.crc.proofs.Xor.{xor_assoc, xor_times, xor_swap, below_2}
use Rattle.crc.proofs.Bits.{digit_odd, halved}

shift_linear : (a b : ℕ) → after_shift (bit_xor a b) ≡ bit_xor (after_shift a) (after_shift b)
unfolding after_shift
shift_linear a b =
    ap₂ bit_xor (xor_shr a b 1) (ap (λ (x : ℕ). x * reflected_generator) (xor_mod a b 1) ∙ xor_times (a % 2) (b % 2) reflected_generator (below_2 a) (below_2 b))
    ∙ xor_swap (a / 2) (b / 2) (a % 2 * reflected_generator) (b % 2 * reflected_generator)

shifts_linear : (k a b : ℕ) → after_shifts k (bit_xor a b) ≡ bit_xor (after_shifts k a) (after_shifts k b)
unfolding after_shifts
shifts_linear zero a b = refl
shifts_linear (suc k) a b = ap (after_shifts k) (shift_linear a b) ∙ shifts_linear k (after_shift a) (after_shift b)

-- bits that are 0 go out
shift_zero : (h k : ℕ) → after_shift (h * 2 ^ suc k) ≡ h * 2 ^ k
unfolding after_shift
shift_zero h k =
    ap₂ bit_xor (shifted_half h k) (ap (λ (x : ℕ). x * reflected_generator) (shifted_even h k) ∙ zero-mul reflected_generator)
    ∙ xor_zero_r (h * 2 ^ k)

shifts_zero : (h k : ℕ) → after_shifts k (h * 2 ^ k) ≡ h
unfolding after_shifts
shifts_zero h zero = mul-one h
shifts_zero h (suc k) = ap (after_shifts k) (shift_zero h k) ∙ shifts_zero h k

-- what a table of the 256 low bytes gives
pub by_table : (c b : ℕ) → b < 256 → bit_xor (after_shifts 8 (bit_xor c b % 256)) (c / 256) ≡ after_shifts 8 (bit_xor c b)
by_table c b hb =
    xor_comm (after_shifts 8 (bit_xor c b % 256)) (c / 256)
    ∙ ap (λ (x : ℕ). bit_xor x (after_shifts 8 (bit_xor c b % 256))) (sym (shifts_zero (c / 256) 8))
    ∙ sym (shifts_linear 8 (c / 256 * 256) (bit_xor c b % 256))
    ∙ ap (after_shifts 8)
    (xor_shifted (c / 256) 8 (bit_xor c b % 256) (mod-lt (bit_xor c b) (zero-lt-suc 255))
    ∙ ap (λ (x : ℕ). x * 256 + bit_xor c b % 256) (sym top)
    ∙ div-add-mod' (bit_xor c b) 256)
  where
    top : bit_xor c b / 256 ≡ c / 256
    top = xor_shr c b 8 ∙ ap (bit_xor (c / 256)) (div-eq_of_lt hb) ∙ xor_zero_r (c / 256)

-- the rule of a table is one test, computed at each of the 256 entries
pub is_table : (table : List ℕ) → T (every (λ k. eqb (get_or table k 0) (after_shifts 8 k)) 256) → IsTable table
is_table table t = record { entry = below_number (λ k. get_or table k 0) (after_shifts 8) 256 t }

-- ---- bits that are taken in

-- the lowest bit of b is taken in and goes out, then the rest of b is taken in
one_more : (c b : ℕ) → bit_xor (after_shift (bit_xor c (b % 2))) (b / 2) ≡ after_shift (bit_xor c b)
one_more c b =
    ap (bit_xor (after_shift (bit_xor c (b % 2)))) (sym (shift_zero (b / 2) 0 ∙ mul-one (b / 2)))
    ∙ sym (shift_linear (bit_xor c (b % 2)) (b / 2 * 2))
    ∙ ap after_shift (xor_assoc c (b % 2) (b / 2 * 2) ∙ ap (bit_xor c) whole)
  where
    whole : bit_xor (b % 2) (b / 2 * 2) ≡ b
    whole = xor_comm (b % 2) (b / 2 * 2) ∙ xor_shifted (b / 2) 1 (b % 2) (below_2 b) ∙ div-add-mod' b 2

pub bits_shift : (k c b : ℕ) → b < 2 ^ k → after_bits c (lowest_first k b) ≡ after_shifts k (bit_xor c b)
unfolding after_bits after_shifts lowest_first
bits_shift zero c b h = sym (ap (bit_xor c) (lt-one h) ∙ xor_zero_r c)
bits_shift (suc k) c b h =
    ap (λ (x : ℕ). after_bits (after_shift (bit_xor c x)) (lowest_first k (b / 2))) (digit_odd b)
    ∙ bits_shift k (after_shift (bit_xor c (b % 2))) (b / 2) (halved k b h)
    ∙ ap (after_shifts k) (one_more c b)

pub bits_append : (c : ℕ) (m n : Polynomial) → after_bits c (m ++ n) ≡ after_bits (after_bits c m) n
unfolding after_bits
bits_append c [] n = refl
bits_append c (a ∷ m) n = bits_append (after_shift (bit_xor c (digit a))) m n

-- ---- 32 bits stay 32 bits

shift_lt : (c : ℕ) → c < 2 ^ 32 → after_shift c < 2 ^ 32
unfolding after_shift
shift_lt c h = let low = below_2 c in xor_lt 32 (c / 2) (c % 2 * reflected_generator) (omega arith) (omega arith)

digit_lt : (a : Bool) → digit a < 2 ^ 32
digit_lt true = lit< tt
digit_lt false = lit< tt

pub taken_in_lt : (c : ℕ) (a : Bool) → c < 2 ^ 32 → after_shift (bit_xor c (digit a)) < 2 ^ 32
taken_in_lt c a h = shift_lt (bit_xor c (digit a)) (xor_lt 32 c (digit a) h (digit_lt a))

pub bits_lt : (c : ℕ) (m : Polynomial) → c < 2 ^ 32 → after_bits c m < 2 ^ 32
unfolding after_bits
bits_lt c [] h = h
bits_lt c (a ∷ m) h = bits_lt (after_shift (bit_xor c (digit a))) m (taken_in_lt c a h)
