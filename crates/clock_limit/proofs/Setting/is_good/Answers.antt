-- `Setting::is_good` meets its contract, from what `within` ensures.
use mathlib.Core.Path.{sym, ◌∙◌}
use lib.Ieee.{of_bits, of_int}
use Rattle.laws.proofs.Tests.{true_false}
use Rattle.clock_numbers.specs.Arithmetic.{whole_number}
use Rattle.clock_limit.specs.Limit.{good_setting}
use Rattle.clock_limit.proofs.Setting.is_good.Goals as goal
use Rattle.clock_limit.proofs.Setting.is_good.Goals.{then-within, else-within}

pub returns-in-Fixed : goal.returns-in-Fixed
unfolding of_bits of_int whole_number good_setting
returns-in-Fixed c = simp (c.within.ensures, c.in-Fixed.is)

pub returns-then-within-2 : goal.returns-then-within-2
unfolding of_bits of_int whole_number good_setting
returns-then-within-2 c =
    elim c.if-within.branch [
      | then-within w ↦ simp (c.in-Measured.is, sym c.within-in-Measured.ensures ∙ w.if-within.true, sym w.within-then-within.ensures ∙ sym w.value-is ∙ c.if-within-2.true)
      | else-within w ↦ absurd (true_false c.if-within-2.true (w.value-is ∙ w.if-within.false))
    ]

pub returns-else-within-2 : goal.returns-else-within-2
unfolding of_bits of_int whole_number good_setting
returns-else-within-2 c =
    elim c.if-within.branch [
      | then-within w ↦ simp (c.if-within-2.false, c.in-Measured.is, sym c.within-in-Measured.ensures ∙ w.if-within.true, sym w.within-then-within.ensures ∙ sym w.value-is ∙ c.if-within-2.false)
      | else-within w ↦ simp (c.if-within-2.false, c.in-Measured.is, sym c.within-in-Measured.ensures ∙ w.if-within.false)
    ]
