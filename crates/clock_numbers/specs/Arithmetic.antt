-- The numbers of binary64 that the ping clock works with, and the operations on them, each rounded once.
use Rattle.std.specs.Prelude.{ℕ, ◌≡◌, Bool, true, ◌&&◌, pos, Float}
use Rattle.std.specs.Float.{binary64}
use Rattle.std.specs.Float.Ieee.{add, sub, mul, div, lt, le, of_int}
use Rattle.laws.specs.Pick.{pick}

-- sum, difference, product and quotient, rounded once: to the nearest number, at a tie to the even one
infixl 6 ◌⊕◌ ◌⊖◌
infixl 7 ◌⊗◌ ◌⊘◌
abbrev pub ◌⊕◌ : Float → Float → Float
x ⊕ y = add binary64 x y

abbrev pub ◌⊖◌ : Float → Float → Float
x ⊖ y = sub binary64 x y

abbrev pub ◌⊗◌ : Float → Float → Float
x ⊗ y = mul binary64 x y

abbrev pub ◌⊘◌ : Float → Float → Float
x ⊘ y = div binary64 x y

unfoldable pub whole_number : ℕ → Float
whole_number n = of_int binary64 (pos n)

-- 0.75, 0.25, 0.875 and 0.125, which binary64 holds exactly
unfoldable pub 0·75 : Float
0·75 = whole_number 3 ⊘ whole_number 4

unfoldable pub 0·25 : Float
0·25 = whole_number 1 ⊘ whole_number 4

unfoldable pub 0·875 : Float
0·875 = whole_number 7 ⊘ whole_number 8

unfoldable pub 0·125 : Float
0·125 = whole_number 1 ⊘ whole_number 8

-- x is a number from low to high: NaN is not, and -0 counts as 0
abbrev pub within : ℕ → ℕ → Float → Bool
within low high x = le (whole_number low) x && le x (whole_number high)

abbrev pub larger : Float → Float → Float
larger x y = pick (lt x y) y x

abbrev pub smaller : Float → Float → Float
smaller x y = pick (lt y x) y x

-- the smaller subtracted from the larger; x from y if they are equal, so that the distance of -0 and a sample of 0 is 0
abbrev pub distance : Float → Float → Float
distance x y = pick (lt y x) (x ⊖ y) (y ⊖ x)

-- x held between floor and ceiling
abbrev pub held : Float → Float → Float → Float
held floor ceiling x = smaller ceiling (larger floor x)

-- x is between floor and ceiling
abbrev pub Between : Float → Float → Float → Type 0
Between floor ceiling x = (le floor x ≡ true) × (le x ceiling ≡ true)
