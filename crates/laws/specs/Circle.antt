-- The circle of the 128 session numbers, and the nearest one after a number that passes a test.
use Rattle.std.specs.Prelude.{ℕ, zero, suc, ◌+◌, ◌-◌, ◌%◌, Bool}
use Rattle.laws.specs.Pick.{pick}

-- the number after i, going round from 127 to 0
unfoldable pub following : ℕ → ℕ
following i = (i + 1) % 128

-- how many steps lead from i to n, going round: 1 to 128
unfoldable pub gap : ℕ → ℕ → ℕ
gap i n = (n + 127 - i) % 128 + 1

-- the first of the k numbers after i that passes the test; the k-th after i if none does
unfoldable pub first_after : (ℕ → Bool) → ℕ → ℕ → ℕ
first_after test i zero = i
first_after test i (suc k) = pick (test (following i)) (following i) (first_after test (following i) k)

-- the nearest number after i that passes the test, i itself last
unfoldable pub nearest : (ℕ → Bool) → ℕ → ℕ
nearest test i = first_after test i 128
