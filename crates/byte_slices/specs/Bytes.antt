-- Where a byte is in a text, and a part of a text.
use Rattle.std.specs.Prelude.{ℕ, suc, List, [], ◌∷◌, eqb, cond, take, drop}

-- the place of the first byte of a value, or the length
abbrev pub index_of : ℕ → List ℕ → ℕ
index_of b [] = 0
index_of b (x ∷ xs) = cond (eqb x b) 0 (suc (index_of b xs))

-- the bytes from one index up to another
unfoldable pub slice : ℕ → ℕ → List ℕ → List ℕ
slice from to s = drop from (take to s)
