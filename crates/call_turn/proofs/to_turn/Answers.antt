-- `to_turn` meets its contract: two checks more than `is_up`.
use Rattle.std.specs.Prelude.{not, eqb, ltb}
use Rattle.std.proofs.lemmas.Result.{err_from_is_err_and}
use Rattle.protocol.specs.Slot.{queue_size, turn_room}
use Rattle.protocol.specs.Plan.{check, take}
use Rattle.protocol.specs.Call.{up_and_running, room_for}
use Rattle.call_checks.proofs.Checks.{go_on, stop_here}
use Rattle.call_turn.proofs.to_turn.Goals as goal

pub returns-in_err-is_up : goal.returns-in_err-is_up
returns-in_err-is_up c =
    let a = c.args in
    let p = err_from_is_err_and c.from_residual.result c.from_residual.ensures.1 in
    rw (p.1, p.2)
    (stop_here (up_and_running a.c (take tt)) (check (ltb a.room turn_room) 8 (check (not (eqb a.queue queue_size)) 8 (take tt))) c.in_err-is_up.ensures)

pub returns-in_err-refuse_if : goal.returns-in_err-refuse_if
returns-in_err-refuse_if c =
    let a = c.args in
    let p = err_from_is_err_and c.from_residual-in_err-refuse_if.result c.from_residual-in_err-refuse_if.ensures.1 in
    let roomy = up_and_running a.c (room_for turn_room a.room (take tt)) in
    rw (p.1, p.2)
    (stop_here roomy (check (not (eqb a.queue queue_size)) 8 (take tt))
    (go_on (up_and_running a.c (take tt)) (check (ltb a.room turn_room) 8 (take tt)) c.in_ok-is_up.ensures c.in_err-refuse_if.ensures))

pub returns : goal.returns
returns c =
    let a = c.args in
    let roomy = up_and_running a.c (room_for turn_room a.room (take tt)) in
    go_on roomy (check (not (eqb a.queue queue_size)) 8 (take tt))
    (go_on (up_and_running a.c (take tt)) (check (ltb a.room turn_room) 8 (take tt)) c.in_ok-is_up.ensures c.in_ok-refuse_if.ensures)
    c.refuse_if-2.ensures
