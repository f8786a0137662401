-- What a limit is in numbers: the fixed one, 1000 before any sample, a margin of at least 1, and the settings refused with 12.
use mathlib.Core.Path.{◌≡◌, refl, ap, ◌∙◌}
use mathlib.Core.Bool.{true, false}
use lib.Ieee.{Float, add, mul, div, lt, le, of_int}
use Rattle.laws.specs.Pick.{pick}
use Rattle.laws.specs.Result.{ok, refused}
use Rattle.laws.proofs.Pick.{yes, no}
use Rattle.laws.proofs.Tests.{and_both}
use Rattle.clock_numbers.specs.Arithmetic.{◌⊕◌, ◌⊗◌, ◌⊘◌, whole_number, held, Between}
use Rattle.clock_sample.specs.declared.Clock.{Clock}
use Rattle.clock_sample.specs.Clock.{new_clock, first, updated, good_clock, sample_rule}
use Rattle.clock_limit.specs.declared.Setting.TheVariants.{Fixed, Measured}
use Rattle.clock_limit.specs.Limit.{good_setting, measured, limit_under, limit_rule}

-- a fixed limit is that limit, whatever a good clock holds
pub fixed_is_itself : (limit : Float) (clock : Clock) → good_clock clock ≡ true → good_setting (Fixed limit) ≡ true → limit_rule clock (Fixed limit) ≡ ok limit
unfolding limit_rule
fixed_is_itself limit clock g s = yes _ _ _ (and_both g s)

-- before any sample a measured limit is 1000, held between floor and ceiling
pub before_any_sample : (floor ceiling : Float) (clock : Clock) → clock.sampled ≡ false
    → limit_under (Measured floor ceiling) clock ≡ held floor ceiling (whole_number 1000)
unfolding measured
before_any_sample floor ceiling clock e = ap (held floor ceiling) (no _ _ _ e)

-- a margin that is not above 1 counts as 1
pub least_margin : (clock : Clock) → clock.sampled ≡ true → lt (whole_number 1) (whole_number 4 ⊗ clock.deviation) ≡ false
    → measured clock ≡ clock.smoothed ⊕ whole_number 1
unfolding measured
least_margin clock e m = yes _ _ _ e ∙ ap (λ (x : Float). clock.smoothed ⊕ x) (no _ _ _ m)

-- one above 1 counts as it is
pub margin_above : (clock : Clock) → clock.sampled ≡ true → lt (whole_number 1) (whole_number 4 ⊗ clock.deviation) ≡ true
    → measured clock ≡ clock.smoothed ⊕ whole_number 4 ⊗ clock.deviation
unfolding measured
margin_above clock e m = yes _ _ _ e ∙ ap (λ (x : Float). clock.smoothed ⊕ x) (yes _ _ _ m)

-- between two numbers: not below the one, not above the other
pub between_says : (floor ceiling x : Float) → Between floor ceiling x → (le floor x ≡ true) × (le x ceiling ≡ true)
between_says floor ceiling x b = b

-- ---- in numbers, by computation

-- a clock just made: 1000, and no less than the floor, no more than the ceiling
pub new_limits : (limit_rule new_clock (Measured (whole_number 1) (whole_number 60_000)) ≡ ok (whole_number 1000))
    × (limit_rule new_clock (Measured (whole_number 1001) (whole_number 60_000)) ≡ ok (whole_number 1001))
    × (limit_rule new_clock (Measured (whole_number 1) (whole_number 999)) ≡ ok (whole_number 999))
    × (limit_rule new_clock (Measured (whole_number 7) (whole_number 7)) ≡ ok (whole_number 7))
unfolding pick new_clock good_clock good_setting measured limit_rule whole_number of_int lt le
new_limits = (refl, refl, refl, refl)

-- a first sample of 0 has the deviation 0: the limit is 1
pub limit_after_0 : limit_rule (sample_rule new_clock 0).1 (Measured (whole_number 1) (whole_number 60_000)) ≡ ok (whole_number 1)
unfolding pick new_clock first updated good_clock sample_rule good_setting measured limit_rule whole_number of_int add mul div lt le
limit_after_0 = refl

-- every number from 1 to 60,000
pub fixed_limits : (limit_rule new_clock (Fixed (whole_number 0)) ≡ refused 12)
    × (limit_rule new_clock (Fixed (whole_number 1)) ≡ ok (whole_number 1))
    × (limit_rule new_clock (Fixed (whole_number 60_000)) ≡ ok (whole_number 60_000))
    × (limit_rule new_clock (Fixed (whole_number 60_001)) ≡ refused 12)
unfolding pick new_clock good_clock good_setting limit_rule whole_number of_int lt le
fixed_limits = (refl, refl, refl, refl)

-- floor not above ceiling, NaN refused
pub bad_settings : (limit_rule new_clock (Measured (whole_number 0) (whole_number 60_000)) ≡ refused 12)
    × (limit_rule new_clock (Measured (whole_number 1) (whole_number 60_001)) ≡ refused 12)
    × (limit_rule new_clock (Measured (whole_number 3) (whole_number 2)) ≡ refused 12)
    × (limit_rule new_clock (Fixed (whole_number 0 ⊘ whole_number 0)) ≡ refused 12)
    × (limit_rule new_clock (Measured (whole_number 0 ⊘ whole_number 0) (whole_number 60_000)) ≡ refused 12)
    × (limit_rule new_clock (Measured (whole_number 1) (whole_number 0 ⊘ whole_number 0)) ≡ refused 12)
unfolding pick new_clock good_clock good_setting limit_rule whole_number of_int div lt le
bad_settings = (refl, refl, refl, refl, refl, refl)
