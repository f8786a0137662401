-- `is_running` meets its contract: one check more than `refuse_if`.
use Rattle.std.specs.Prelude.{not}
use Rattle.std.proofs.lemmas.Result.{err_from_is_err_and}
use Rattle.protocol.specs.Plan.{check, take}
use Rattle.protocol.specs.Connection.{well_formed}
use Rattle.call_checks.proofs.Checks.{go_on, stop_here}
use Rattle.call_checks.proofs.gates.is_running.Goals as goal

pub returns-in_err-refuse_if : goal.returns-in_err-refuse_if
returns-in_err-refuse_if c =
    let a = c.args in
    let p = err_from_is_err_and c.from_residual.result c.from_residual.ensures.1 in
    rw (p.1, p.2) (stop_here (check (not (well_formed a.c)) 14 (take tt)) (check a.c.over 2 (take tt)) (rw c.well_formed-2.ensures at c.in_err-refuse_if.ensures))

pub returns : goal.returns
returns c =
    let a = c.args in
    go_on (check (not (well_formed a.c)) 14 (take tt)) (check a.c.over 2 (take tt)) (rw c.well_formed-2.ensures at c.in_ok-refuse_if.ensures) c.refuse_if-2.ensures
