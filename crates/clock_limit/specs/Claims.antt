-- What is claimed of a clock that takes a list of samples.
use Rattle.std.specs.Prelude.{◌≡◌, true, List, [], ◌∷◌, ℕ, Float}
use Rattle.laws.specs.Result.{ok}
use Rattle.clock_numbers.specs.Arithmetic.{whole_number, Between}
use Rattle.clock_sample.specs.declared.Clock.{Clock}
use Rattle.clock_sample.specs.Clock.{new_clock, updated, good_sample, sample_rule}
use Rattle.clock_limit.specs.declared.Setting.{Setting}
use Rattle.clock_limit.specs.declared.Setting.TheVariants.{Measured}
use Rattle.clock_limit.specs.Limit.{good_setting, limit_under, limit_rule}

-- the clock after the samples, taken or refused
unfoldable pub clock_after : Clock → List ℕ → Clock
clock_after clock [] = clock
clock_after clock (R ∷ Rs) = clock_after (sample_rule clock R).1 Rs

-- no good sample and no good setting is refused, and a measured limit is between floor and ceiling
pub record Sound (clock : Clock) : Type 0 where
  pub takes : (R : ℕ) → good_sample R ≡ true → sample_rule clock R ≡ (ok tt, updated clock (whole_number R))
  pub limits : (setting : Setting) → good_setting setting ≡ true → limit_rule clock setting ≡ ok (limit_under setting clock)
  pub between : (floor ceiling : Float) → good_setting (Measured floor ceiling) ≡ true
      → Between floor ceiling (limit_under (Measured floor ceiling) clock)

-- a clock just made is sound after any samples
abbrev pub SoundAfterAny : Type 0
SoundAfterAny = (Rs : List ℕ) → Sound (clock_after new_clock Rs)
