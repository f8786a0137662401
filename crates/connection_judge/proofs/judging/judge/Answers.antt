-- `judge` meets its contract: each arm is a type of message, of the connection as a whole or of a session.
use mathlib.Core.Path.{refl}
use Rattle.protocol.specs.Message.{no_operation_of, shutdown_of, error_of, ping_of, ping_ack_of, whole}
use Rattle.connection_judge.proofs.Judgments.{no_operation, shut_down, told_error, pinged, by_scope, by_parts}
use Rattle.connection_judge.proofs.judging.judge.Goals as goal

pub returns-in-NoOperation : goal.returns-in-NoOperation
returns-in-NoOperation c =
    let a = c.args in
    by_scope a.c a.m (whole no_operation_of) c.in-NoOperation.is refl (no_operation a.c a.m c.taken.ensures)

pub returns-in-Shutdown : goal.returns-in-Shutdown
returns-in-Shutdown c =
    let a = c.args in
    by_scope a.c a.m (whole shutdown_of) c.in-Shutdown.is refl (shut_down a.c a.m refl c.judge_end.ensures)

pub returns-in-Ping : goal.returns-in-Ping
returns-in-Ping c =
    let a = c.args in
    by_scope a.c a.m (whole (ping_of _)) c.in-Ping.is refl (rw c.in-Ping.is (pinged a.c _ c.in-Ping.cookie c.taken-in-Ping.ensures))

pub returns-in-PingAck : goal.returns-in-PingAck
returns-in-PingAck c =
    let a = c.args in
    by_scope a.c a.m (whole (ping_ack_of _)) c.in-PingAck.is refl (rw c.in-PingAck.is c.judge_ping_ack.ensures)

pub returns-in-Error : goal.returns-in-Error
returns-in-Error c =
    let a = c.args in
    by_scope a.c a.m (whole error_of) c.in-Error.is refl (told_error a.c a.m refl c.judge_end-in-Error.ensures)

pub returns-in-IncrementRation : goal.returns-in-IncrementRation
returns-in-IncrementRation c =
    let a = c.args in
    by_parts a.c a.m _ c.in-IncrementRation.is refl c.judge_increment.ensures

pub returns-in-Abort : goal.returns-in-Abort
returns-in-Abort c =
    let a = c.args in
    by_parts a.c a.m _ c.in-Abort.is refl c.judge_abort.ensures

pub returns-in-Close : goal.returns-in-Close
returns-in-Close c =
    let a = c.args in
    by_parts a.c a.m _ c.in-Close.is refl c.judge_close.ensures

pub returns-in-Acknowledgment : goal.returns-in-Acknowledgment
returns-in-Acknowledgment c =
    let a = c.args in
    by_parts a.c a.m _ c.in-Acknowledgment.is refl c.judge_acknowledgment.ensures

pub returns-in-Data : goal.returns-in-Data
returns-in-Data c =
    let a = c.args in
    by_parts a.c a.m _ c.in-Data.is refl (c.judge_data.ensures c.in-Data.ack_required)
