-- `lost_line` meets its contract: the gate, then the connection is over.
use mathlib.Core.Path.{refl, ap, ◌∙◌}
use mathlib.Core.List.{[]}
use Rattle.protocol.specs.Plan.{take, settle}
use Rattle.protocol.specs.Connection.{line_lost}
use Rattle.protocol.specs.Judge.{done, ends_by}
use Rattle.protocol.specs.Call.{running, lost_rule}
use Rattle.protocol.specs.Result.{given, lost_call}
use Rattle.call_checks.proofs.Calls.{passed, stopped, taken, none}
use Rattle.connection.proofs.Effects.{sets_end}
use Rattle.call_connection.proofs.ending.lost_line.Goals as goal

pub returns-in-Ok : goal.returns-in-Ok
unfolding lost_call lost_rule settle
returns-in-Ok c =
    let x = c.args.c in
    let e = ends_by x line_lost done [] in
    c.done.ensures
    ∙ taken x e refl (c.ended.ensures ∙ sets_end x done [] line_lost) none
    ∙ ap (given x []) (passed (running x (take tt)) (take e) c.in-Ok.ensures)

pub returns-in-Err : goal.returns-in-Err
unfolding lost_call lost_rule settle
returns-in-Err c =
    let x = c.args.c in
    c.refused.ensures
    ∙ ap (given x [])
    (stopped (running x (take tt)) (take (ends_by x line_lost done [])) c.in-Err.ensures)
