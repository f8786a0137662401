-- A flag is 1 if it is set; the first one of a range, and the nearest one going round the 128 numbers.
use Rattle.std.specs.Prelude.{ℕ, zero, suc, Bool, List, get_or, eqb, Option, Some, None}
use Rattle.laws.specs.Pick.{pick}
use Rattle.laws.specs.Circle.{nearest}

abbrev pub is_set : List ℕ → ℕ → Bool
is_set flags n = eqb (get_or flags n 0) 1

-- the nearest number after i that passes the test, or nothing if none does
unfoldable pub nearest_found : (ℕ → Bool) → ℕ → Option ℕ
nearest_found test i = pick (test (nearest test i)) (Some (nearest test i)) None

abbrev pub nearest_set : List ℕ → ℕ → Option ℕ
nearest_set flags last = nearest_found (is_set flags) last

-- the first number that passes the test, of the k numbers that begin at i, or nothing if none of these does
unfoldable pub first_found : (ℕ → Bool) → ℕ → ℕ → Option ℕ
first_found test i zero = None
first_found test i (suc k) = pick (test i) (Some i) (first_found test (suc i) k)

abbrev pub first_set : List ℕ → ℕ → ℕ → Option ℕ
first_set flags i k = first_found (is_set flags) i k
