-- `with_next` meets its contract: each arm is a case of what is at the tally's place.
use Rattle.std.proofs.Common.{arith}
use Rattle.capture_scan.proofs.Tallies.{found_here, place_after_lem, failure_stays}
use Rattle.capture_scan.proofs.with_next.Goals as goal

pub overflow_add-result : goal.overflow_add-result
overflow_add-result c =
    let r = c.read_at-step in
    let p = rw c.in-Ok.is at (place_after_lem _ _ c.args.t r.result r.ensures) in
    omega arith

pub returns-in-Ok : goal.returns-in-Ok
returns-in-Ok c =
    let r = c.read_at-step in
    let t = c.args.t in
    let p = rw c.in-Ok.is at (place_after_lem _ _ t r.result r.ensures) in
    let e = found_here _ _ t r.result r.ensures in
    (rw (e, c.in-Ok.is, p, c.packed_items.ensures), omega arith)

pub returns-in-Err : goal.returns-in-Err
returns-in-Err c =
    let r = c.read_at-step in
    let t = c.args.t in
    let e = found_here _ _ t r.result r.ensures in
    (rw (e, c.in-Err.is) c.failed.ensures, rw c.failed.ensures (failure_stays t c.in-Err.failure c.requires))
