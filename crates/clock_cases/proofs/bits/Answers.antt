-- `bits` never asks for the bits of a NaN: only NaN differs from itself.
use Rattle.std.proofs.Common.{◌≡◌, true, not, T}
use mathlib.Core.Bool.{false≢true}
use lib.Ieee.{Float, nan, inf, fin, eq, is_nan}
use Rattle.clock_cases.proofs.bits.Goals as goal

number : (x : Float) → eq x x ≡ true → T (not (is_nan x))
unfolding eq is_nan
number nan e = false≢true e
number (inf s) e = tt
number (fin s m d) e = tt

pub float_to_bits-result : goal.float_to_bits-result
float_to_bits-result c = number _ c.if-x.true
