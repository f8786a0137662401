-- A clock just made is sound after any list of samples; from the laws that a good clock stays good and that what is held is between.
use mathlib.Core.Path.{◌≡◌}
use mathlib.Core.Bool.{true, ◌&&◌}
use mathlib.Core.List.{List, [], ◌∷◌}
use Prim.Native.Nat.{ℕ}
use lib.Ieee.{Float, le}
use Rattle.laws.proofs.Pick.{yes}
use Rattle.laws.proofs.Tests.{and_both, and_second}
use Rattle.clock_numbers.specs.Arithmetic.{within}
use Rattle.clock_numbers.proofs.Between.{held_between}
use Rattle.clock_sample.specs.declared.Clock.{Clock}
use Rattle.clock_sample.specs.Clock.{new_clock, good_clock, sample_rule}
use Rattle.clock_sample.proofs.State.{new_good, sample_good}
use Rattle.clock_limit.specs.declared.Setting.TheVariants.{Measured}
use Rattle.clock_limit.specs.Limit.{good_setting, measured, limit_rule}
use Rattle.clock_limit.specs.Claims.{clock_after, Sound, SoundAfterAny}

floor_below_ceiling : (floor ceiling : Float) → good_setting (Measured floor ceiling) ≡ true → le floor ceiling ≡ true
unfolding good_setting
floor_below_ceiling floor ceiling s = and_second (within 1 60_000 floor && within 1 60_000 ceiling) (le floor ceiling) s

pub good_is_sound : (clock : Clock) → good_clock clock ≡ true → Sound clock
good_is_sound clock c = record {
  takes = λ R s. unfold sample_rule in yes _ _ _ (and_both c s);
  limits = λ setting s. unfold limit_rule in yes _ _ _ (and_both c s);
  between = λ floor ceiling s. held_between floor ceiling (floor_below_ceiling floor ceiling s) (measured clock);
}

pub after_good : (clock : Clock) (Rs : List ℕ) → good_clock clock ≡ true → good_clock (clock_after clock Rs) ≡ true
unfolding clock_after
after_good clock [] c = c
after_good clock (R ∷ Rs) c = after_good (sample_rule clock R).1 Rs (sample_good clock R c)

pub sound_after_any : SoundAfterAny
sound_after_any Rs = good_is_sound (clock_after new_clock Rs) (after_good new_clock Rs new_good)
