-- A rule: checks in their order, each with the number that it refuses with, and then what is done.
use Rattle.std.specs.Prelude.{ℕ, Bool, true, false}

pub data Plan (A : Type 0) : Type 0 where
  stop : ℕ → Plan A
  check : Bool → ℕ → Plan A → Plan A
  take : A → Plan A

-- the result of a rule, where a check that holds gives `bad` of its number
unfoldable pub settle : {A B : Type 0} → (ℕ → B) → (A → B) → Plan A → B
settle bad good (stop n) = bad n
settle bad good (check true n p) = bad n
settle bad good (check false n p) = settle bad good p
settle bad good (take a) = good a

-- the same checks, with more done at the end
abbrev pub and_then : {A B : Type 0} → (A → B) → Plan A → Plan B
and_then f (stop n) = stop n
and_then f (check b n p) = check b n (and_then f p)
and_then f (take a) = take (f a)
