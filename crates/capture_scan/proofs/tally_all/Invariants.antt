-- `tally_all` meets its contract. The loop's invariant: the tally comes to what the first one comes to.
use Rattle.std.proofs.Common.{◌≤◌}
use Rattle.capture_reader.specs.Capture.{first_place}
use Rattle.capture_scan.specs.Tallies.{completed, empty_tally}
use Rattle.capture_scan.proofs.Tallies.{ComesTo, left}
use Rattle.capture_scan.proofs.tally_all.Given as goal

abbrev pub invariant-loop-tally : goal.invariant-loop-tally
invariant-loop-tally l =
    ComesTo l.from l.capture (completed l.from l.capture (empty_tally first_place)) l.tally × (l.tally.messages ≤ l.tally.place)

abbrev pub decreases-loop-tally : goal.decreases-loop-tally
decreases-loop-tally l = left l.capture l.tally
