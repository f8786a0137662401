use Rattle.std.proofs.Common.{refl, rules}
use Rattle.capture_scan.proofs.Tallies.{stepped}
use Rattle.capture_scan.proofs.tally_all.Goals as goal

pub loop-tally-init : goal.loop-tally-init
loop-tally-init c = (record { reading = λ _. refl; done = λ not. absurd (not refl) }, search rules)

pub loop-tally-smaller : goal.loop-tally-smaller
loop-tally-smaller c =
    let l = c.loop-tally in
    rw c.with_next-tally.ensures.0 (stepped _ _ l.tally c.loop-tally-test.true).1

pub loop-tally-preserved : goal.loop-tally-preserved
loop-tally-preserved c =
    let l = c.loop-tally in
    let z = c.loop-tally-test.true in
    (rw (c.with_next-tally.ensures.0, ← l.invariant.0.reading z) (stepped _ _ l.tally z).0, c.with_next-tally.ensures.1)

pub returns : goal.returns
returns c = c.loop-tally.invariant.0.done c.loop-tally-test.false
