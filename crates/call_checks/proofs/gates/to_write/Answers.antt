-- `to_write` meets its contract: one check more than `is_up`.
use Rattle.std.specs.Prelude.{ltb}
use Rattle.std.proofs.lemmas.Result.{err_from_is_err_and}
use Rattle.protocol.specs.Plan.{check, take}
use Rattle.protocol.specs.Call.{up_and_running}
use Rattle.call_checks.proofs.Checks.{go_on, stop_here}
use Rattle.call_checks.proofs.gates.to_write.Goals as goal

pub returns-in_err-is_up : goal.returns-in_err-is_up
returns-in_err-is_up c =
    let a = c.args in
    let p = err_from_is_err_and c.from_residual.result c.from_residual.ensures.1 in
    rw (p.1, p.2) (stop_here (up_and_running a.c (take tt)) (check (ltb a.room 4) 8 (take tt)) c.in_err-is_up.ensures)

pub returns : goal.returns
returns c =
    let a = c.args in
    go_on (up_and_running a.c (take tt)) (check (ltb a.room 4) 8 (take tt)) c.in_ok-is_up.ensures c.refuse_if.ensures
