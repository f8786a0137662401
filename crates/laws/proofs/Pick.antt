-- A choice follows its test: the laws by which a chain of tests is walked, from the definition of `pick`.
use mathlib.Core.Path.{◌≡◌, sym, ◌∙◌}
use mathlib.Core.Bool.{Bool, true, false}
use Rattle.laws.specs.Pick.{pick}

pub yes : {A : Type 0} (t : Bool) (a b : A) → t ≡ true → pick t a b ≡ a
unfolding pick
yes t a b e = rw e

pub no : {A : Type 0} (t : Bool) (a b : A) → t ≡ false → pick t a b ≡ b
unfolding pick
no t a b e = rw e

-- the test is what a call returned
pub via : {r t b : Bool} → r ≡ t → r ≡ b → t ≡ b
via p q = sym p ∙ q
