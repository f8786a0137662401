-- `stopped` meets its contract: nothing is added to the messages and to the sum, which fits 64 bits.
use Rattle.std.proofs.Common.{◌≡◌, ◌+◌, ◌%◌, ◌^◌, arith}
use Rattle.capture_scan.proofs.stopped.Goals as goal

pub returns : goal.returns
returns c =
    let t = c.args.t in
    let count : t.messages ≡ t.messages + 0 = omega arith in
    let sum : t.sum ≡ (t.sum + 0) % 2 ^ 64 = omega arith in
    rw (← count, ← sum)
