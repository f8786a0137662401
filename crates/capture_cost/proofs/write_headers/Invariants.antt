-- `write_headers` is safe and ends: the number of bytes that are left falls.
use Rattle.std.proofs.Common.{◌-◌, ◌≤◌}
use Rattle.capture_cost.proofs.write_headers.Given as goal

abbrev pub invariant-loop-at : goal.invariant-loop-at
invariant-loop-at l = l.at ≤ 65536

abbrev pub decreases-loop-at : goal.decreases-loop-at
decreases-loop-at l = 65536 - l.at
