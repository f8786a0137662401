-- `to_write_session` meets its contract: one check more than `to_write`.
use Rattle.std.specs.Prelude.{leb}
use Rattle.protocol.specs.Plan.{check, take}
use Rattle.protocol.specs.Call.{up_and_running, room_for}
use Rattle.call_checks.proofs.Checks.{one_more}
use Rattle.call_checks.proofs.gates.to_write_session.Goals as goal

pub returns : goal.returns
returns c =
    let a = c.args in
    one_more (up_and_running a.c (room_for 4 a.room (take tt))) (check (leb 128 a.n) 3 (take tt)) c.to_write.result c.refuse_if.result c.and.ensures
    c.to_write.ensures c.refuse_if.ensures
