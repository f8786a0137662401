-- Bytes as lower-case hexadecimal digits.
use Rattle.std.specs.Prelude.{ℕ, ◌+◌, ◌*◌, ◌-◌, ◌/◌, ◌%◌, Bool, true, not, ◌&&◌, List, [], ◌∷◌, ◌++◌, Option, Some, None, is_some, if◌then◌else◌, eqb, ltb, leb, length, take, drop}
use Rattle.std.specs.List.{list_all}
use Rattle.laws.specs.Codes.{codes}
use Rattle.script_words.specs.Words.{same}

-- the value of a digit: 48 to 57 are 0 to 9, and 97 to 102 are 10 to 15
abbrev pub digit_of : ℕ → Option ℕ
digit_of b = if leb 48 b && leb b 57 then Some (b - 48) else if leb 97 b && leb b 102 then Some (b - 87) else None

abbrev pub all_hex : List ℕ → Bool
all_hex s = list_all (λ b. is_some (digit_of b)) s

-- the byte of two digits, or 0
abbrev pub joined : Option ℕ → Option ℕ → ℕ
joined (Some high) (Some low) = high * 16 + low
joined (Some high) None = 0
joined None low = 0

abbrev pub byte_of : ℕ → ℕ → ℕ
byte_of high low = joined (digit_of high) (digit_of low)

-- the bytes of a text, two digits each
unfoldable pub bytes_from_hex : List ℕ → List ℕ
bytes_from_hex [] = []
bytes_from_hex (a ∷ []) = []
bytes_from_hex (a ∷ b ∷ s) = byte_of a b ∷ bytes_from_hex s

-- a word that represents bytes: `-`, or an even number of digits, for at least one byte and at most the given number
unfoldable pub is_bytes : ℕ → List ℕ → Bool
is_bytes most s = if same s (codes "-") then true else not (eqb (length s / 2) 0) && eqb (length s % 2) 0 && leb (length s / 2) most && all_hex s

-- the digit of a value
abbrev pub glyph_of : ℕ → ℕ
glyph_of d = if ltb d 10 then 48 + d else 87 + d

-- two digits for each byte
unfoldable pub text_of : List ℕ → List ℕ
text_of [] = []
text_of (b ∷ s) = glyph_of (b / 16) ∷ glyph_of (b % 16) ∷ text_of s

-- a place after the first n of some bytes are put at its start
abbrev pub laid : List ℕ → List ℕ → ℕ → List ℕ
laid place bytes n = take n bytes ++ drop n place
