-- The choice that a test makes.
use Rattle.std.specs.Prelude.{Bool, true, false}

-- the first value if the test holds, else the second
unfoldable pub pick : {A : Type 0} → Bool → A → A → A
pick true a b = a
pick false a b = b
