-- CRC-32C as RFC 3720, section 12.1, defines it: the remainder of a division of polynomials whose coefficients are 0 and 1.
use Rattle.std.specs.Prelude.{ℕ, zero, suc, ◌+◌, ◌*◌, ◌/◌, ◌%◌, Bool, true, false, not, List, [], ◌∷◌, ◌++◌, reverse, eqb, length, drop, replicate}
use Rattle.std.specs.Bool.{xor}

-- the coefficients of a polynomial, that of the highest power first; true is 1
abbrev pub Polynomial : Type 0
Polynomial = List Bool

-- the k lowest bits of a number, the lowest first
unfoldable pub lowest_first : ℕ → ℕ → Polynomial
lowest_first zero x = []
lowest_first (suc k) x = eqb (x % 2) 1 ∷ lowest_first k (x / 2)

-- M(x): the bits of the bytes, the lowest bit of the first byte first
unfoldable pub message_bits : List ℕ → Polynomial
message_bits [] = []
message_bits (b ∷ s) = lowest_first 8 b ++ message_bits s

-- G(x): the 33 bits of the published number, the highest first
unfoldable pub generator : Polynomial
generator = reverse (lowest_first 33 0x11EDC6F41)

-- p less g from the first coefficient of p on, where 0 less 1 is 1; what g does not reach stays
unfoldable pub difference : Polynomial → Polynomial → Polynomial
difference p [] = p
difference [] (b ∷ g) = []
difference (a ∷ p) (b ∷ g) = xor a b ∷ difference p g

-- n steps of long division by G(x): a leading 0 is dropped, and at a leading 1 G(x) is taken off, which leaves a 0 to drop
unfoldable pub divided : ℕ → Polynomial → Polynomial
divided zero p = p
divided (suc n) [] = []
divided (suc n) (false ∷ p) = divided n p
divided (suc n) (true ∷ p) = divided n (drop 1 (difference (true ∷ p) generator))

-- the first n coefficients complemented
unfoldable pub complemented : ℕ → Polynomial → Polynomial
complemented zero p = p
complemented (suc n) [] = []
complemented (suc n) (a ∷ p) = not a ∷ complemented n p

-- a coefficient as a number
abbrev pub digit : Bool → ℕ
digit true = 1
digit false = 0

-- the number whose lowest bit is the first coefficient
unfoldable pub bits_as_number : Polynomial → ℕ
bits_as_number [] = 0
bits_as_number (a ∷ p) = digit a + 2 * bits_as_number p

-- R(x): M(x) times x^32, its first 32 coefficients complemented, is divided by G(x) until 32 coefficients are left
unfoldable pub remainder : Polynomial → Polynomial
remainder m = divided (length m) (complemented 32 (m ++ replicate 32 false))

-- the coefficients of R(x) are complemented, and that of x^31 is the lowest bit: as a number, e3069283 hex for the text 123456789
unfoldable pub crc_of : List ℕ → ℕ
crc_of s = bits_as_number (complemented 32 (remainder (message_bits s)))
