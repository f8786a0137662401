-- A size truncates only a number that is in range: from its two tests.
use Rattle.std.proofs.Common.{T, sym, subst}
use lib.Ieee.{of_bits, neg}
use Rattle.clock_cases.proofs.SizeDisplay.fmt.Goals as goal

pub truncating_f64_to_u64-count-requires : goal.truncating_f64_to_u64-count-requires
unfolding of_bits neg
truncating_f64_to_u64-count-requires c c' = record {
  lower_bound = subst T (sym c'.if-thousandths.true) tt;
  upper_bound = subst T (sym c'.if-thousandths-2.true) tt;
}
