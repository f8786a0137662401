-- `to_receive` meets its contract: two checks more than `is_running`.
use Rattle.std.specs.Prelude.{ltb}
use Rattle.std.proofs.lemmas.Result.{err_from_is_err_and}
use Rattle.protocol.specs.Plan.{check, take}
use Rattle.protocol.specs.Call.{running, unstarted}
use Rattle.call_checks.proofs.Checks.{go_on, stop_here}
use Rattle.call_receive.proofs.to_receive.Goals as goal

pub returns-in_err-is_running : goal.returns-in_err-is_running
returns-in_err-is_running c =
    let a = c.args in
    let p = err_from_is_err_and c.from_residual.result c.from_residual.ensures.1 in
    rw (p.1, p.2)
    (stop_here (running a.c (take tt)) (check (unstarted a.c.stage) 1 (check (ltb a.room 12) 8 (take tt))) c.in_err-is_running.ensures)

pub returns-in_err-refuse_if : goal.returns-in_err-refuse_if
returns-in_err-refuse_if c =
    let a = c.args in
    let p = err_from_is_err_and c.from_residual-in_err-refuse_if.result c.from_residual-in_err-refuse_if.ensures.1 in
    let started = running a.c (check (unstarted a.c.stage) 1 (take tt)) in
    rw (p.1, p.2)
    (stop_here started (check (ltb a.room 12) 8 (take tt))
    (go_on (running a.c (take tt)) (check (unstarted a.c.stage) 1 (take tt)) c.in_ok-is_running.ensures (rw c.unstarted.ensures at c.in_err-refuse_if.ensures)))

pub returns : goal.returns
returns c =
    let a = c.args in
    let started = running a.c (check (unstarted a.c.stage) 1 (take tt)) in
    go_on started (check (ltb a.room 12) 8 (take tt))
    (go_on (running a.c (take tt)) (check (unstarted a.c.stage) 1 (take tt)) c.in_ok-is_running.ensures (rw c.unstarted.ensures at c.in_ok-refuse_if.ensures))
    c.refuse_if-2.ensures
