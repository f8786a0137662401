-- `Clock::later` meets its contract: its operations are those of the definition, from what `distance` ensures.
use mathlib.Core.Path.{◌≡◌}
use mathlib.Core.Bool.{true}
use lib.Ieee.{Float, of_bits, of_int, div}
use borrow.Author.Rules.{rules}
use Rattle.clock_numbers.specs.Arithmetic.{◌⊕◌, ◌⊗◌, whole_number, 0·75, 0·25, 0·875, 0·125, distance}
use Rattle.clock_sample.specs.declared.Clock.{Clock}
use Rattle.clock_sample.specs.Clock.{later}
use Rattle.clock_sample.proofs.Clock.later.Goals as goal

later-at : (clock : Clock) (R far : Float) → far ≡ distance clock.smoothed R
    → record { sampled = true; smoothed = 0·875 ⊗ clock.smoothed ⊕ 0·125 ⊗ R; deviation = 0·75 ⊗ clock.deviation ⊕ 0·25 ⊗ far } ≡ later clock R
unfolding later
later-at clock R far e = rw e

pub returns : goal.returns
unfolding of_bits of_int div whole_number 0·75 0·25 0·875 0·125
returns c = later-at _ _ _ (search rules)
