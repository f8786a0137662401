-- `take_step_in` meets its contract: what the session sends fits the room if the checks pass, and the step counts behind them.
use Rattle.std.proofs.Common.{ap, sym, ◌∙◌, length}
use Rattle.protocol.specs.Judge.{done, setting_session}
use Rattle.protocol.specs.Plan.{take}
use Rattle.protocol.specs.Call.{number_in}
use Rattle.protocol.specs.Result.{in_room}
use Rattle.call_checks.specs.Stepped.{checks}
use Rattle.call_checks.proofs.Calls.{roomy, gate_passed, stepped_behind}
use Rattle.call_checks.proofs.Steps.{step_taken_in, step_refused_in}
use Rattle.call_checks.proofs.stepping.take_step_in.Goals as goal

pub returns-in-Ok : goal.returns-in-Ok
returns-in-Ok c =
    let a = c.args in
    let gate = c.to_write_session.ensures in
    let passed = gate_passed c.to_write_session.result a.stepped (sym c.and.ensures ∙ c.in-Ok.is) ∙ gate in
    step_taken_in a.c a.n a.room.now (roomy a.c 4 (length a.room.now) (number_in a.n (take tt)) passed) c.in-Ok.is c.with_session.ensures
    c.of_session.ensures c.write-wrote.ensures c.done.ensures
    ∙ ap (in_room a.c a.room.now)
    (stepped_behind (setting_session a.c a.n a.c.last done) (checks a.c a.n (length a.room.now)) c.to_write_session.result a.stepped gate c.and.ensures)

pub returns-in-Err : goal.returns-in-Err
returns-in-Err c =
    let a = c.args in
    step_refused_in a.c a.n a.room.now c.in-Err.is c.refused.ensures
    ∙ ap (in_room a.c a.room.now)
    (stepped_behind (setting_session a.c a.n a.c.last done) (checks a.c a.n (length a.room.now)) c.to_write_session.result a.stepped c.to_write_session.ensures c.and.ensures)
