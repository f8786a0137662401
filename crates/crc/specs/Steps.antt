-- CRC-32C bit by bit in one number of 32 bits, as the code has it; proofs/Division.antt proves that it is the definition.
use Rattle.std.specs.Prelude.{◌≡◌, ℕ, zero, suc, ◌*◌, ◌/◌, ◌%◌, ◌<◌, List, [], ◌∷◌, get_or}
use Rattle.std.specs.Int.Bits.{bit_xor}
use Rattle.crc.specs.Crc.{Polynomial, digit}

-- G(x) without x^32; the coefficient of x^31 is the lowest bit
abbrev pub reflected_generator : ℕ
reflected_generator = 0x82f6_3b78

-- the lowest bit goes out, and where it is 1 the polynomial is taken off
unfoldable pub after_shift : ℕ → ℕ
after_shift c = bit_xor (c / 2) (c % 2 * reflected_generator)

-- k bits go out
unfoldable pub after_shifts : ℕ → ℕ → ℕ
after_shifts zero c = c
after_shifts (suc k) c = after_shifts k (after_shift c)

-- the bits of a message are taken in, each at the lowest bit, which then goes out
unfoldable pub after_bits : ℕ → Polynomial → ℕ
after_bits c [] = c
after_bits c (a ∷ m) = after_bits (after_shift (bit_xor c (digit a))) m

-- a table of what each low byte comes to when its eight bits go out
pub record IsTable (table : List ℕ) : Type 0 where
  pub entry : (k : ℕ) → k < 256 → get_or table k 0 ≡ after_shifts 8 k
