-- `ping` meets its contract: the gate, then the Ping is written and outstanding.
use mathlib.Core.Bool.{Bool}
use Rattle.std.specs.Prelude.{Option, Some, None, ℕ}
use Rattle.std.specs.Option.{is_some}
use mathlib.Core.Path.{◌≡◌, refl, sym, ap, ◌∙◌}
use mathlib.Core.List.{[], ◌∷◌}
use lib.ListN.{length}
use Rattle.wire.specs.declared.Message.TheVariants as msg
use Rattle.protocol.specs.Plan.{take, check, settle}
use Rattle.protocol.specs.Judge.{done, sent, setting_ping}
use Rattle.protocol.specs.Call.{up_and_running, room_for, is_outstanding, ping_rule}
use Rattle.protocol.specs.Result.{in_room, ping_call}
use Rattle.call_checks.specs.Gate.{gate_as, to_gate}
use Rattle.call_checks.proofs.Checks.{one_more}
use Rattle.call_checks.proofs.Calls.{passed, stopped, roomy, taken_in, done_in, refusing_in, four}
use Rattle.connection.proofs.Effects.{sets_ping}
use Rattle.call_connection.proofs.starting.ping.Goals as goal

outstanding_is : (p : Option ℕ) → is_some p ≡ is_outstanding p
outstanding_is None = refl
outstanding_is (Some k) = refl

pub returns-in-Ok : goal.returns-in-Ok
unfolding ping_call ping_rule settle
returns-in-Ok c =
    let a = c.args in
    let x = a.c in
    let room = a.room.now in
    let e = setting_ping x (Some a.cookie) done (sent (msg.Ping a.cookie) ∷ []) in
    let p = up_and_running x (room_for 4 (length room) (check (is_outstanding x.ping) 13 (take tt))) in
    let ens = one_more (up_and_running x (room_for 4 (length room) (take tt))) (check (is_outstanding x.ping) 13 (take tt)) c.to_write.result c.refuse_if-alone.result c.and.ensures c.to_write.ensures (c.refuse_if-alone.ensures ∙ ap (λ (b : Bool). to_gate (check b 13 (take tt))) (c.is_some.ensures ∙ outstanding_is x.ping)) in
    let told = sym (ap gate_as c.in-Ok.is) ∙ ens in
    done_in c.done.ensures
    (taken_in x e refl (c.with_ping.ensures ∙ sets_ping x done (sent (msg.Ping a.cookie) ∷ []) (Some a.cookie)) room (four (msg.Ping a.cookie) room (roomy x 4 (length room) (check (is_outstanding x.ping) 13 (take tt)) told)) c.write-wrote.ensures)
    ∙ ap (in_room x room) (passed p (take e) told)

pub returns-in-Err : goal.returns-in-Err
unfolding ping_call ping_rule settle
returns-in-Err c =
    let a = c.args in
    let x = a.c in
    let room = a.room.now in
    let e = setting_ping x (Some a.cookie) done (sent (msg.Ping a.cookie) ∷ []) in
    let p = up_and_running x (room_for 4 (length room) (check (is_outstanding x.ping) 13 (take tt))) in
    let ens = one_more (up_and_running x (room_for 4 (length room) (take tt))) (check (is_outstanding x.ping) 13 (take tt)) c.to_write.result c.refuse_if-alone.result c.and.ensures c.to_write.ensures (c.refuse_if-alone.ensures ∙ ap (λ (b : Bool). to_gate (check b 13 (take tt))) (c.is_some.ensures ∙ outstanding_is x.ping)) in
    refusing_in x room c.refused.ensures ∙ ap (in_room x room) (stopped p (take e) (sym (ap gate_as c.in-Err.is) ∙ ens))
