-- `start` meets its contract: the gate, then the header is written and the client started.
use mathlib.Core.Path.{refl, sym, ap, ◌∙◌}
use mathlib.Core.Bool.{not}
use mathlib.Core.List.{[], ◌∷◌}
use lib.ListN.{length}
use Rattle.wire.specs.Message.{is_server}
use Rattle.state.specs.declared.Stage.TheVariants as stage
use Rattle.protocol.specs.Plan.{take, check, settle}
use Rattle.protocol.specs.Connection.{role_of}
use Rattle.protocol.specs.Judge.{done, header_out, setting_stage}
use Rattle.protocol.specs.Call.{running, room_for, is_fresh, start_rule}
use Rattle.protocol.specs.Result.{in_room, start_call}
use Rattle.call_checks.specs.Gate.{gate_as}
use Rattle.call_checks.proofs.Checks.{one_more}
use Rattle.call_checks.proofs.Calls.{passed, stopped, roomy_running, taken_in, done_in, refusing_in, eight}
use Rattle.connection.proofs.Effects.{sets_stage}
use Rattle.call_connection.proofs.starting.start.Goals as goal

pub returns-in-Ok : goal.returns-in-Ok
unfolding start_call start_rule settle
returns-in-Ok c =
    let a = c.args in
    let x = a.c in
    let room = a.room.now in
    let e = setting_stage x stage.Started done (header_out x.own ∷ []) in
    let p = running x (room_for 8 (length room) (check (is_server (role_of x.stage)) 4 (check (not (is_fresh x.stage)) 5 (take tt)))) in
    let ens =
    one_more (running x (room_for 8 (length room) (check (is_server (role_of x.stage)) 4 (take tt)))) (check (not (is_fresh x.stage)) 5 (take tt)) c.and.result c.refuse_if-once.result c.and-2.ensures
    (one_more (running x (room_for 8 (length room) (take tt))) (check (is_server (role_of x.stage)) 4 (take tt)) c.to_start.result c.refuse_if-for_client.result c.and.ensures c.to_start.ensures
    (rw (c.is_server.ensures, c.role_of.ensures) at c.refuse_if-for_client.ensures))
    (rw c.is_fresh.ensures at c.refuse_if-once.ensures) in
    let told = sym (ap gate_as c.in-Ok.is) ∙ ens in
    done_in c.done.ensures
    (taken_in x e refl (c.with_stage.ensures ∙ sets_stage x done (header_out x.own ∷ []) stage.Started) room (eight x.own room (roomy_running x 8 (length room) (check (is_server (role_of x.stage)) 4 (check (not (is_fresh x.stage)) 5 (take tt))) told)) c.write-wrote.ensures)
    ∙ ap (in_room x room) (passed p (take e) told)

pub returns-in-Err : goal.returns-in-Err
unfolding start_call start_rule settle
returns-in-Err c =
    let a = c.args in
    let x = a.c in
    let room = a.room.now in
    let e = setting_stage x stage.Started done (header_out x.own ∷ []) in
    let p = running x (room_for 8 (length room) (check (is_server (role_of x.stage)) 4 (check (not (is_fresh x.stage)) 5 (take tt)))) in
    let ens =
    one_more (running x (room_for 8 (length room) (check (is_server (role_of x.stage)) 4 (take tt)))) (check (not (is_fresh x.stage)) 5 (take tt)) c.and.result c.refuse_if-once.result c.and-2.ensures
    (one_more (running x (room_for 8 (length room) (take tt))) (check (is_server (role_of x.stage)) 4 (take tt)) c.to_start.result c.refuse_if-for_client.result c.and.ensures c.to_start.ensures
    (rw (c.is_server.ensures, c.role_of.ensures) at c.refuse_if-for_client.ensures))
    (rw c.is_fresh.ensures at c.refuse_if-once.ensures) in
    refusing_in x room c.refused.ensures ∙ ap (in_room x room) (stopped p (take e) (sym (ap gate_as c.in-Err.is) ∙ ens))
