-- `judge_ping_ack` meets its contract: the test of the cookie picks the case.
use mathlib.Core.Path.{ap, ◌∙◌}
use Rattle.laws.specs.Result.{Fault}
use Rattle.laws.proofs.Pick.{via}
use Rattle.protocol.specs.Judge.{breach}
use Rattle.connection_judge.specs.Verdict.{verdict}
use Rattle.connection_judge.proofs.Judgments.{acknowledged, unasked}
use Rattle.connection_judge.proofs.judging.judge_ping_ack.Goals as goal

pub returns-then-matches : goal.returns-then-matches
returns-then-matches c =
    let a = c.args in
    acknowledged a.c a.cookie (via c.matches.ensures c.if-matches.true)
    c.with_ping-next.ensures c.taken.ensures

pub returns : goal.returns
returns c =
    let a = c.args in
    unasked a.c a.cookie (via c.matches.ensures c.if-matches.false)
    (c.violated.ensures ∙ ap (λ (f : Fault). verdict a.c (breach a.c f)) c.fault_of.ensures)
