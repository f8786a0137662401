-- The text of a byte is its two hexadecimal digits, the higher first.
use Rattle.std.proofs.Common.{◌≡◌, ℕ, ◌/◌, ◌%◌, ◌<◌, [], ◌∷◌, false}
use Rattle.std.specs.Fmt.{digit_glyph}
use Rattle.std.proofs.lemmas.Fmt.{hex_byte}
use Rattle.text_line.specs.Hex.{two_digits}

pub two_digits_of_byte : (b : ℕ) → b < 256 → two_digits b ≡ digit_glyph false (b / 16) ∷ digit_glyph false (b % 16) ∷ []
two_digits_of_byte b h = hex_byte false b h
