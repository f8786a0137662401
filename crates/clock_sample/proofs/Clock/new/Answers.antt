-- `Clock::new` meets its contract: its numbers are those of the definition.
use mathlib.Core.Path.{refl}
use lib.Ieee.{of_bits, of_int}
use Rattle.clock_numbers.specs.Arithmetic.{whole_number}
use Rattle.clock_sample.specs.Clock.{new_clock}
use Rattle.clock_sample.proofs.Clock.new.Goals as goal

pub returns : goal.returns
unfolding of_bits of_int whole_number new_clock
returns c = refl
