-- `Clock::first` meets its contract: its operation is that of the definition.
use mathlib.Core.Path.{refl}
use lib.Ieee.{of_bits, of_int}
use Rattle.clock_numbers.specs.Arithmetic.{whole_number}
use Rattle.clock_sample.specs.Clock.{first}
use Rattle.clock_sample.proofs.Clock.first.Goals as goal

pub returns : goal.returns
unfolding of_bits of_int whole_number first
returns c = refl
