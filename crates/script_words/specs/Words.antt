-- The words of a line.
use Rattle.std.specs.Prelude.{ℕ, ◌+◌, Bool, true, List, eqb, ltb, if◌then◌else◌, length, take, drop, get_or, nat_eq}
use Rattle.std.specs.Cmp.Lexicographic.{pointwise}
use Rattle.std.specs.List.{position_or_len}

-- the place of the first space, or the length
abbrev pub space_of : List ℕ → ℕ
space_of s = position_or_len (λ b. eqb b 32) s

-- the text up to the first space
unfoldable pub head_of : List ℕ → List ℕ
head_of s = take (space_of s) s

-- the text behind the first space
unfoldable pub tail_of : List ℕ → List ℕ
tail_of s = drop (space_of s + 1) s

-- whether there is a space
unfoldable pub has_more : List ℕ → Bool
has_more s = ltb (space_of s) (length s)

-- an empty line, or one that begins with the number sign
unfoldable pub is_skipped : List ℕ → Bool
is_skipped s = if ltb 0 (length s) then eqb (get_or s 0 0) 35 else true

-- whether two texts have the same bytes
unfoldable pub same : List ℕ → List ℕ → Bool
same = pointwise nat_eq
