-- `is_up` meets its contract: one check more than `is_running`.
use Rattle.std.specs.Prelude.{not}
use Rattle.std.proofs.lemmas.Result.{err_from_is_err_and}
use Rattle.protocol.specs.Plan.{check, take}
use Rattle.protocol.specs.Connection.{exchanged}
use Rattle.protocol.specs.Call.{running}
use Rattle.call_checks.proofs.Checks.{go_on, stop_here}
use Rattle.call_checks.proofs.gates.is_up.Goals as goal

pub returns-in_err-is_running : goal.returns-in_err-is_running
returns-in_err-is_running c =
    let a = c.args in
    let p = err_from_is_err_and c.from_residual.result c.from_residual.ensures.1 in
    rw (p.1, p.2) (stop_here (running a.c (take tt)) (check (not (exchanged a.c.stage)) 1 (take tt)) c.in_err-is_running.ensures)

pub returns : goal.returns
returns c =
    let a = c.args in
    go_on (running a.c (take tt)) (check (not (exchanged a.c.stage)) 1 (take tt)) c.in_ok-is_running.ensures (rw c.exchanged.ensures at c.refuse_if.ensures)
