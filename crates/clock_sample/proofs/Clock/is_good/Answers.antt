-- `Clock::is_good` meets its contract, from what `within` ensures.
use mathlib.Core.Path.{sym, ◌∙◌}
use lib.Ieee.{of_bits, of_int}
use Rattle.clock_numbers.specs.Arithmetic.{whole_number}
use Rattle.clock_sample.specs.Clock.{good_clock}
use Rattle.clock_sample.proofs.Clock.is_good.Goals as goal

pub returns-then-within : goal.returns-then-within
unfolding of_bits of_int whole_number good_clock
returns-then-within c = simp (c.within-then-within.ensures, sym c.within.ensures ∙ c.if-within.true)

pub returns-else-within : goal.returns-else-within
unfolding of_bits of_int whole_number good_clock
returns-else-within c = simp (c.if-within.false, sym c.within.ensures ∙ c.if-within.false)
