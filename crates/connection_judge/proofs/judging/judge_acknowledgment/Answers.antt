-- `judge_acknowledgment` meets its contract: the result of the session's step decides.
use mathlib.Core.Path.{refl}
use Rattle.protocol.specs.Connection.{role_of, own_start, far_start}
use Rattle.protocol.specs.Message.{acknowledgment_of}
use Rattle.connection_judge.proofs.Judgments.{stepped}
use Rattle.connection_judge.proofs.judging.judge_acknowledgment.Goals as goal

pub returns : goal.returns
returns c =
    let a = c.args in
    stepped a.c a.m a.session acknowledgment_of refl refl refl c.session_at.ensures
    (c.receive_acknowledgment-receipt.ensures (role_of a.c.stage) (own_start a.c) (far_start a.c)) c.judge_receipt.ensures
