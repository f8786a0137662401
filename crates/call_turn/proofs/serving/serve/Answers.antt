-- `serve` meets its contract: each arm is a case of `decision`, with the room and the slot that it leaves.
use mathlib.Core.Path.{refl, ap, ◌∙◌}
use Rattle.protocol.specs.Ask.{turn_ask}
use Rattle.protocol.specs.Connection.{at, own_start, far_start}
use Rattle.protocol.specs.Judge.{served, setting_session}
use Rattle.state.specs.declared.Session.{Session}
use Rattle.call_checks.specs.Deciding.{decision}
use Rattle.call_checks.proofs.Calls.{step}
use Rattle.call_turn.specs.Turned.{turn_gives}
use Rattle.call_turn.proofs.Served.{turn_taken, turn_refused}
use Rattle.call_turn.proofs.Shrinking.{turn_shrinks}
use Rattle.call_turn.proofs.serving.serve.Goals as goal

pub overflow_sub-x : goal.overflow_sub-x
overflow_sub-x c =
    rw (← c.step_turn.ensures, c.in-Ok.is) at (turn_shrinks c.own_start.result c.far_start.result c.session_at-x.result)

pub returns-in-Ok : goal.returns-in-Ok
returns-in-Ok c =
    let a = c.args in
    let same = ap (λ (y : Session). y.waiting) c.session_at-x.ensures in
    let ask = turn_ask (own_start a.c) (far_start a.c) (at a.c a.n) in
    turn_taken a.c a.n a.queue.now a.room.now c.requires.0 same (rw (← same) at c.requires.1) c.requires.2 c.requires.3
    c.in-Ok.is c.with_served.ensures c.of_session.ensures c.slot_start-start.ensures c.write_with-wrote.ensures refl
    c.take_from.ensures c.answered.ensures
    ∙ ap (turn_gives a.c a.queue.now a.room.now)
    (ap (decision (setting_session a.c a.n a.n (served a.n))) (rw (c.own_start.ensures, c.far_start.ensures, c.session_at-x.ensures) at c.step_turn.ensures)
    ∙ step (setting_session a.c a.n a.n (served a.n)) ask)

pub returns-in-Err : goal.returns-in-Err
returns-in-Err c =
    let a = c.args in
    let ask = turn_ask (own_start a.c) (far_start a.c) (at a.c a.n) in
    turn_refused a.c a.n a.queue.now a.room.now c.in-Err.is c.refused.ensures
    ∙ ap (turn_gives a.c a.queue.now a.room.now)
    (ap (decision (setting_session a.c a.n a.n (served a.n))) (rw (c.own_start.ensures, c.far_start.ensures, c.session_at-x.ensures) at c.step_turn.ensures)
    ∙ step (setting_session a.c a.n a.n (served a.n)) ask)
