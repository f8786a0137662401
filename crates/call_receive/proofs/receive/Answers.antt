-- `receive` meets its contract: the gate, then what is read, then the reply.
use mathlib.Core.Path.{sym, ap, ◌∙◌}
use Rattle.call_checks.specs.Gate.{gate_as}
use Rattle.call_receive.proofs.Rules.{passed, stopped, roomy}
use Rattle.call_receive.proofs.receive.Goals as goal

pub replied-requires : goal.replied-requires
replied-requires c =
    let a = c.args in
    roomy a.c a.input.now a.room.now (sym (ap gate_as c.in_default.is) ∙ c.to_receive.ensures)

pub returns : goal.returns
returns c =
    let a = c.args in
    passed a.c a.input.now a.room.now (sym (ap gate_as c.in_default.is) ∙ c.to_receive.ensures) c.decide.ensures c.replied.ensures

pub returns-in-Err : goal.returns-in-Err
returns-in-Err c =
    let a = c.args in
    stopped a.c a.input.now a.room.now (sym (ap gate_as c.in-Err.is) ∙ c.to_receive.ensures) c.refused.ensures
