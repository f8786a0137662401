-- `take_step` meets its contract: the result of the step, behind the checks.
use mathlib.Core.Path.{ap, ◌∙◌}
use mathlib.Core.List.{[]}
use Rattle.protocol.specs.Judge.{done, setting_session}
use Rattle.protocol.specs.Plan.{take}
use Rattle.protocol.specs.Call.{up_and_running, number_in}
use Rattle.protocol.specs.Result.{given}
use Rattle.call_checks.proofs.Calls.{stepped_behind}
use Rattle.call_checks.proofs.Steps.{quiet_behind, step_taken, step_refused}
use Rattle.call_session.proofs.stepping.take_step.Goals as goal

pub returns-in-Ok : goal.returns-in-Ok
returns-in-Ok c =
    let a = c.args in
    step_taken a.c a.n c.in-Ok.is (quiet_behind c.to_session.result a.stepped c.and.ensures c.requires) c.with_session.ensures c.done.ensures
    ∙ ap (given a.c [])
    (stepped_behind (setting_session a.c a.n a.c.last done) (up_and_running a.c (number_in a.n (take tt))) c.to_session.result a.stepped c.to_session.ensures c.and.ensures)

pub returns-in-Err : goal.returns-in-Err
returns-in-Err c =
    let a = c.args in
    step_refused a.c a.n c.in-Err.is c.refused.ensures
    ∙ ap (given a.c [])
    (stepped_behind (setting_session a.c a.n a.c.last done) (up_and_running a.c (number_in a.n (take tt))) c.to_session.result a.stepped c.to_session.ensures c.and.ensures)
