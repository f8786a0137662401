-- `shutdown` meets its contract: the gate, then the Shutdown is written and the connection is over.
use mathlib.Core.Path.{refl, sym, ap, ◌∙◌}
use mathlib.Core.List.{[], ◌∷◌}
use lib.ListN.{length}
use Rattle.wire.specs.declared.Message.TheVariants as msg
use Rattle.wire.specs.Message.{is_client}
use Rattle.protocol.specs.Plan.{take, check, settle}
use Rattle.protocol.specs.Connection.{own_shutdown, role_of}
use Rattle.protocol.specs.Judge.{done, sent, ends_by}
use Rattle.protocol.specs.Call.{up_and_running, room_for, shutdown_rule}
use Rattle.protocol.specs.Result.{in_room, shutdown_call}
use Rattle.call_checks.specs.Gate.{gate_as}
use Rattle.call_checks.proofs.Checks.{one_more}
use Rattle.call_checks.proofs.Calls.{passed, stopped, roomy, taken_in, done_in, refusing_in, four}
use Rattle.connection.proofs.Effects.{sets_end}
use Rattle.call_connection.proofs.ending.shutdown.Goals as goal

pub returns-in-Ok : goal.returns-in-Ok
unfolding shutdown_call shutdown_rule settle
returns-in-Ok c =
    let a = c.args in
    let x = a.c in
    let room = a.room.now in
    let e = ends_by x own_shutdown done (sent (msg.Shutdown 0) ∷ []) in
    let p = up_and_running x (room_for 4 (length room) (check (is_client (role_of x.stage)) 4 (take tt))) in
    let ens = one_more (up_and_running x (room_for 4 (length room) (take tt))) (check (is_client (role_of x.stage)) 4 (take tt)) c.to_write.result c.refuse_if-for_server.result c.and.ensures c.to_write.ensures (rw (c.is_client.ensures, c.role_of.ensures) at c.refuse_if-for_server.ensures) in
    let told = sym (ap gate_as c.in-Ok.is) ∙ ens in
    done_in c.done.ensures
    (taken_in x e refl (c.ended.ensures ∙ sets_end x done (sent (msg.Shutdown 0) ∷ []) own_shutdown) room (four (msg.Shutdown 0) room (roomy x 4 (length room) (check (is_client (role_of x.stage)) 4 (take tt)) told)) c.write-wrote.ensures)
    ∙ ap (in_room x room) (passed p (take e) told)

pub returns-in-Err : goal.returns-in-Err
unfolding shutdown_call shutdown_rule settle
returns-in-Err c =
    let a = c.args in
    let x = a.c in
    let room = a.room.now in
    let e = ends_by x own_shutdown done (sent (msg.Shutdown 0) ∷ []) in
    let p = up_and_running x (room_for 4 (length room) (check (is_client (role_of x.stage)) 4 (take tt))) in
    let ens = one_more (up_and_running x (room_for 4 (length room) (take tt))) (check (is_client (role_of x.stage)) 4 (take tt)) c.to_write.result c.refuse_if-for_server.result c.and.ensures c.to_write.ensures (rw (c.is_client.ensures, c.role_of.ensures) at c.refuse_if-for_server.ensures) in
    refusing_in x room c.refused.ensures ∙ ap (in_room x room) (stopped p (take e) (sym (ap gate_as c.in-Err.is) ∙ ens))
