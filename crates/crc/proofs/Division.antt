-- The bits of a message taken in one by one leave the remainder of the division, so they give the CRC.
use mathlib.Core.Path.{◌≡◌, refl, sym, ap, ap₂, ◌∙◌}
use mathlib.Core.Bool.{Bool, true, false, not, xor}
use mathlib.Core.List.{List, [], ◌∷◌, ◌++◌}
use Prim.Native.Nat.{ℕ, zero, suc, ◌*◌, ◌/◌, ◌%◌, ◌^◌, ◌<◌}
use native.Mathlib.Nat.{zero-mul}
use native.Mathlib.Omega.{arith}
use lib.Bits.{bit_xor, xor_shr, xor_zero_r, xor_lt}
use lib.Dec.{lit<}
use lib.ListN.{length, drop, replicate}
use Rattle.crc.specs.Crc.{Polynomial, lowest_first, message_bits, generator, difference, divided, complemented, digit, bits_as_number, remainder, crc_of}
use Rattle.crc.specs.Steps.{reflected_generator, after_shift, after_bits}
use Rattle.crc.proofs.Bits.{odd, digit_odd, odd_xor, length_bits, bits_xor, bits_top, bits_number}
use Rattle.crc.proofs.Shifts.{bits_append, taken_in_lt, bits_lt}

-- ---- differences

xor_bool_assoc : (a b c : Bool) → xor (xor a b) c ≡ xor a (xor b c)
unfolding xor
xor_bool_assoc true true true = refl
xor_bool_assoc true true false = refl
xor_bool_assoc true false true = refl
xor_bool_assoc true false false = refl
xor_bool_assoc false true true = refl
xor_bool_assoc false true false = refl
xor_bool_assoc false false true = refl
xor_bool_assoc false false false = refl

xor_bool_comm : (a b : Bool) → xor a b ≡ xor b a
unfolding xor
xor_bool_comm true true = refl
xor_bool_comm true false = refl
xor_bool_comm false true = refl
xor_bool_comm false false = refl

xor_false : (a : Bool) → xor a false ≡ a
unfolding xor
xor_false true = refl
xor_false false = refl

xor_true : (a : Bool) → xor a true ≡ not a
unfolding xor
xor_true true = refl
xor_true false = refl

false_xor : (a : Bool) → xor false a ≡ a
unfolding xor
false_xor true = refl
false_xor false = refl

-- the difference from a difference is the difference from both
less_both : (p g h : Polynomial) → length g ≡ length h → difference (difference p g) h ≡ difference p (difference g h)
unfolding difference
less_both p [] [] e = refl
less_both p [] (c ∷ h) e = absurd (omega arith)
less_both p (b ∷ g) [] e = absurd (omega arith)
less_both [] (b ∷ g) (c ∷ h) e = refl
less_both (a ∷ p) (b ∷ g) (c ∷ h) e =
    ap₂ (λ (x : Bool) (q : Polynomial). x ∷ q) (xor_bool_assoc a b c) (less_both p g h (omega arith))

-- a coefficient that is 0 takes nothing off
less_zero : (p g : Polynomial) → difference p (g ++ (false ∷ [])) ≡ difference p g
unfolding difference
less_zero [] [] = refl
less_zero (a ∷ p) [] = ap (λ (x : Bool). x ∷ p) (xor_false a)
less_zero [] (b ∷ g) = refl
less_zero (a ∷ p) (b ∷ g) = ap (λ (q : Polynomial). xor a b ∷ q) (less_zero p g)

zeros_less : (n : ℕ) (g : Polynomial) → length g ≡ n → difference (replicate n false) g ≡ g
unfolding difference
zeros_less zero [] e = refl
zeros_less zero (b ∷ g) e = absurd (omega arith)
zeros_less (suc n) [] e = absurd (omega arith)
zeros_less (suc n) (b ∷ g) e = ap₂ (λ (x : Bool) (q : Polynomial). x ∷ q) (false_xor b) (zeros_less n g (omega arith))

complement_is : (n : ℕ) (p : Polynomial) → complemented n p ≡ difference p (replicate n true)
unfolding complemented difference
complement_is zero p = refl
complement_is (suc n) [] = refl
complement_is (suc n) (a ∷ p) = ap₂ (λ (x : Bool) (q : Polynomial). x ∷ q) (sym (xor_true a)) (complement_is n p)

-- ---- one step of the division

-- G(x) begins with x^32, and the number of the code has the rest
generator_is : generator ≡ true ∷ lowest_first 32 reflected_generator
unfolding generator lowest_first
generator_is = refl

-- the leading coefficient of a message less the bits of a number
leading : (k c : ℕ) (a : Bool) (p : Polynomial) → difference (a ∷ p) (lowest_first (suc k) c) ≡ xor a (odd c) ∷ difference p (lowest_first k (c / 2))
unfolding difference lowest_first
leading k c a p = refl

-- what is taken off where the leading coefficient is 1
taken_off : (p : Polynomial) → drop 1 (difference (true ∷ p) (true ∷ lowest_first 32 reflected_generator)) ≡ difference p (lowest_first 32 reflected_generator)
unfolding difference
taken_off p = refl

-- a bit is taken in: what moves down, and whether G(x) is taken off
module _ (c : ℕ) (a : Bool) where
  half : bit_xor c (digit a) / 2 ≡ c / 2
  half = xor_shr c (digit a) 1 ∙ ap (bit_xor (c / 2)) (none a) ∙ xor_zero_r (c / 2)
    where
      none : (a : Bool) → digit a / 2 ≡ 0
      none true = refl
      none false = refl

  low : bit_xor c (digit a) % 2 ≡ digit (xor a (odd c))
  low = sym (digit_odd (bit_xor c (digit a))) ∙ ap digit (odd_xor c (digit a) ∙ ap (xor (odd c)) (itself a) ∙ xor_bool_comm (odd c) a)
    where
      itself : (a : Bool) → odd (digit a) ≡ a
      itself true = refl
      itself false = refl

  taken_in : after_shift (bit_xor c (digit a)) ≡ bit_xor (c / 2) (digit (xor a (odd c)) * reflected_generator)
  unfolding after_shift
  taken_in = ap₂ (λ (h l : ℕ). bit_xor h (l * reflected_generator)) half low

-- a step of the division is a bit taken in
module _ (n c : ℕ) (small : c < 2 ^ 32) (a : Bool) (p : Polynomial) where
  rest : difference p (lowest_first 31 (c / 2)) ≡ difference p (lowest_first 32 (c / 2))
  rest = sym (ap (difference p) (bits_top 31 (c / 2) (omega arith)) ∙ less_zero p (lowest_first 31 (c / 2)))

  -- the leading coefficient is 0 or 1
  cases : (b : Bool)
      → divided (suc n) (b ∷ difference p (lowest_first 31 (c / 2))) ≡ divided n (difference p (lowest_first 32 (bit_xor (c / 2) (digit b * reflected_generator))))
  unfolding divided
  cases false =
      ap (divided n) rest
      ∙ ap (λ (x : ℕ). divided n (difference p (lowest_first 32 x))) (sym (ap (bit_xor (c / 2)) (zero-mul reflected_generator) ∙ xor_zero_r (c / 2)))
  cases true =
      ap (λ (g : Polynomial). divided n (drop 1 (difference (true ∷ difference p (lowest_first 31 (c / 2))) g))) generator_is
      ∙ ap (divided n)
      (taken_off (difference p (lowest_first 31 (c / 2)))
      ∙ ap (λ (q : Polynomial). difference q (lowest_first 32 reflected_generator)) rest
      ∙ less_both p (lowest_first 32 (c / 2)) (lowest_first 32 reflected_generator) (length_bits 32 (c / 2) ∙ sym (length_bits 32 reflected_generator))
      ∙ ap (difference p) (sym (bits_xor 32 (c / 2) reflected_generator)))

  step : divided (suc n) (difference (a ∷ p) (lowest_first 32 c)) ≡ divided n (difference p (lowest_first 32 (after_shift (bit_xor c (digit a)))))
  step =
      ap (divided (suc n)) (leading 31 c a p) ∙ cases (xor a (odd c))
      ∙ ap (λ (x : ℕ). divided n (difference p (lowest_first 32 x))) (sym (taken_in c a))

-- ---- the whole division

undivided : (p : Polynomial) → divided 0 p ≡ p
unfolding divided
undivided p = refl

-- the bits of a number are taken off the front of a message with 32 zeros behind it: the remainder is the number after the message
pub divides : (m : Polynomial) (c : ℕ) → c < 2 ^ 32
    → divided (length m) (difference (m ++ replicate 32 false) (lowest_first 32 c)) ≡ lowest_first 32 (after_bits c m)
unfolding after_bits
divides [] c h = undivided (difference (replicate 32 false) (lowest_first 32 c)) ∙ zeros_less 32 (lowest_first 32 c) (length_bits 32 c)
divides (a ∷ m) c h =
    step (length m) c h a (m ++ replicate 32 false) ∙ divides m (after_shift (bit_xor c (digit a))) (taken_in_lt c a h)

-- a byte is taken in, then the bytes behind it
pub byte_first : (c b : ℕ) (s : List ℕ) → after_bits (after_bits c (lowest_first 8 b)) (message_bits s) ≡ after_bits c (message_bits (b ∷ s))
unfolding message_bits
byte_first c b s = sym (bits_append c (lowest_first 8 b) (message_bits s))

-- 32 coefficients that are 1, as the bits of a number
abbrev pub ones : ℕ
ones = 0xffff_ffff

ones_are : replicate 32 true ≡ lowest_first 32 ones
unfolding lowest_first
ones_are = refl

complement_ones : (p : Polynomial) → complemented 32 p ≡ difference p (lowest_first 32 ones)
complement_ones p = complement_is 32 p ∙ ap (difference p) ones_are

-- the CRC by steps
pub by_steps : (s : List ℕ) → crc_of s ≡ bit_xor (after_bits ones (message_bits s)) ones
unfolding crc_of remainder
by_steps s =
    let m = message_bits s in
    let c = after_bits ones m in
    let small : c < 2 ^ 32 = bits_lt ones m (lit< tt) in
    ap (λ (p : Polynomial). bits_as_number (complemented 32 (divided (length m) p))) (complement_ones (m ++ replicate 32 false))
    ∙ ap (λ (p : Polynomial). bits_as_number (complemented 32 p)) (divides m ones (lit< tt))
    ∙ ap bits_as_number (complement_ones (lowest_first 32 c) ∙ sym (bits_xor 32 c ones))
    ∙ bits_number 32 (bit_xor c ones) (xor_lt 32 c ones small (lit< tt))
