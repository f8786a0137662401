-- `judge_receipt` meets its contract: each arm is a case of `judged_by`.
use mathlib.Core.Path.{ap, ◌∙◌}
use Rattle.laws.specs.Result.{Fault}
use Rattle.protocol.specs.Judge.{breach}
use Rattle.connection_judge.specs.Verdict.{verdict}
use Rattle.connection_judge.proofs.Judgments.{step_taken}
use Rattle.connection_judge.proofs.judging.judge_receipt.Goals as goal

pub returns-in-Ok : goal.returns-in-Ok
returns-in-Ok c =
    let a = c.args in
    step_taken a.c a.m a.n c.in-Ok.is
    c.with_session.ensures c.of_session-reply.ensures c.taken.ensures

pub returns-in-Err : goal.returns-in-Err
returns-in-Err c =
    let a = c.args in
    rw c.in-Err.is (c.violated.ensures ∙ ap (λ (f : Fault). verdict a.c (breach a.c f)) c.fault_of.ensures)
