-- `measured` meets its contract, from what `larger` ensures.
use lib.Ieee.{of_bits, of_int}
use Rattle.laws.specs.Pick.{pick}
use Rattle.clock_numbers.specs.Arithmetic.{whole_number}
use Rattle.clock_limit.specs.Limit.{measured}
use Rattle.clock_limit.proofs.measured.Goals as goal

pub returns-then-clock : goal.returns-then-clock
unfolding of_bits of_int whole_number measured pick
returns-then-clock c = simp (c.if-clock.true, c.larger.ensures)

pub returns-else-clock : goal.returns-else-clock
unfolding of_bits of_int whole_number measured pick
returns-else-clock c = simp c.if-clock.false
