-- Bit patterns, as the published tables write them, and what a byte holds by such a pattern.
use Rattle.std.specs.Prelude.{ℕ, ◌+◌, ◌*◌, ◌/◌, ◌%◌, List, [], ◌∷◌, Bool, true, ◌&&◌, eqb}

-- a symbol of a pattern: a bit that is 0, one that is 1, one that may be either, one that another row describes
pub data Bit : Type 0 where
  O I x - : Bit

-- eight symbols, high bit first
abbrev pub bits : Bit → Bit → Bit → Bit → Bit → Bit → Bit → Bit → List Bit
bits a b c d e f g h = a ∷ b ∷ c ∷ d ∷ e ∷ f ∷ g ∷ h ∷ []

abbrev pub fits_bit : Bit → ℕ → Bool
fits_bit O d = eqb d 0
fits_bit I d = eqb d 1
fits_bit x d = true
fits_bit - d = true

-- the byte fits the pattern, whose first symbol stands for the bit of weight w
abbrev pub fits : List Bit → ℕ → ℕ → Bool
fits [] w byte = true
fits (p ∷ ps) w byte = fits_bit p (byte / w % 2) && fits ps (w / 2) byte

abbrev pub with_bit : Bit → ℕ → ℕ → ℕ
with_bit O d n = n
with_bit I d n = n
with_bit x d n = n * 2 + d
with_bit - d n = n

-- the binary digits of n, and behind them the byte's bits at each x
abbrev pub with_bits : List Bit → ℕ → ℕ → ℕ → ℕ
with_bits [] w byte n = n
with_bits (p ∷ ps) w byte n = with_bits ps (w / 2) byte (with_bit p (byte / w % 2) n)
