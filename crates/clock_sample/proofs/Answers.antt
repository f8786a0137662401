-- An answer is known from its result, so a contract that gives the result leaves one answer; from the definitions, case by case.
use Rattle.std.proofs.Common.{◌≡◌, ℕ, Result, Ok, Err, refl, arith}
use Rattle.clock_sample.specs.declared.BadValue.{BadValue}
use Rattle.clock_sample.specs.Clock.{outcome_result}

pub same_outcome : (a b : Result Unit BadValue) → outcome_result a ≡ outcome_result b → a ≡ b
same_outcome (Ok a) (Ok b) e = refl
same_outcome (Err a) (Err b) e = refl
same_outcome (Ok a) (Err b) e = let z : ◌≡◌ {A = ℕ} 0 1 = cc in absurd (omega arith)
same_outcome (Err a) (Ok b) e = let z : ◌≡◌ {A = ℕ} 0 1 = cc in absurd (omega arith)
