-- `effective_increment` meets its contract: no bit of the increment is shifted out, since three bits shift by 14 at most.
use Rattle.std.proofs.Common.{◌*◌, ◌%◌, ◌^◌, ◌≤◌, arith}
use Rattle.std.proofs.Math.Nat.{mod-eq_of_lt, mul-le-mul, lt_of_le_of_lt}
use Rattle.std.proofs.Math.Pow.{pow_mono}
use lib.Dec.{lit<}
use Rattle.wire.specs.Message.{effective_increment}
use Rattle.wire_fields.proofs.amounts.effective_increment.Goals as goal

pub returns : goal.returns
unfolding effective_increment
returns c =
    let i : c.args.increment ≤ 65_535 = omega arith in
    let twice : 2 * (c.args.shift % 8) ≤ 14 = omega arith in
    let power : 2 ^ (2 * (c.args.shift % 8)) ≤ 16_384 = pow_mono twice in
    mod-eq_of_lt (lt_of_le_of_lt (mul-le-mul i power) (lit< tt))
