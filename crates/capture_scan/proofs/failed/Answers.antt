-- `failed` meets its contract: each arm is a case of the failure.
use Rattle.capture_scan.proofs.failed.Goals as goal

pub returns-in-Refused : goal.returns-in-Refused
returns-in-Refused c = rw (c.in-Refused.is, ← c.number.ensures) c.stopped.ensures

pub returns-in-Violated : goal.returns-in-Violated
returns-in-Violated c = rw (c.in-Violated.is, ← c.number-in-Violated.ensures, ← c.place.ensures) c.stopped-in-Violated.ensures
