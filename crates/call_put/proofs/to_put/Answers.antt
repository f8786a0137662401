-- `to_put` meets its contract: two checks more than `is_up`.
use mathlib.Core.Bool.{not}
use lib.Dec.{eqb, leb}
use Rattle.protocol.specs.Slot.{queue_size}
use Rattle.protocol.specs.Plan.{check, take}
use Rattle.protocol.specs.Call.{up_and_running, queue_of}
use Rattle.call_checks.proofs.Checks.{one_more}
use Rattle.call_put.proofs.to_put.Goals as goal

pub returns : goal.returns
returns c =
    let a = c.args in
    one_more (up_and_running a.c (queue_of a.queue (take tt))) (check (leb 128 a.n) 3 (take tt)) c.and.result c.refuse_if-numbered.result c.and-2.ensures
    (one_more (up_and_running a.c (take tt)) (check (not (eqb a.queue queue_size)) 8 (take tt)) c.is_up.result c.refuse_if-whole.result c.and.ensures c.is_up.ensures
    c.refuse_if-whole.ensures)
    c.refuse_if-numbered.ensures
