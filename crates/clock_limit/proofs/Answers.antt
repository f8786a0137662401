-- An answer is known from its result, so a contract that gives the result leaves one answer; from the definitions, case by case.
use Rattle.std.proofs.Common.{◌≡◌, ℕ, Result, Ok, Err, refl, arith}
use lib.Ieee.{Float}
use Rattle.clock_sample.specs.declared.BadValue.{BadValue}
use Rattle.clock_limit.specs.Limit.{limit_result}

pub same_limit : (a b : Result Float BadValue) → limit_result a ≡ limit_result b → a ≡ b
same_limit (Ok x) (Ok y) e = cc
same_limit (Err a) (Err b) e = refl
same_limit (Ok x) (Err b) e = let z : ◌≡◌ {A = ℕ} 0 1 = cc in absurd (omega arith)
same_limit (Err a) (Ok y) e = let z : ◌≡◌ {A = ℕ} 0 1 = cc in absurd (omega arith)
