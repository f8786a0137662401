-- `judge_close` meets its contract: the result of the session's step decides.
use mathlib.Core.Path.{refl}
use Rattle.protocol.specs.Connection.{own_start, far_start}
use Rattle.protocol.specs.Message.{close_of}
use Rattle.connection_judge.proofs.Judgments.{stepped}
use Rattle.connection_judge.proofs.judging.judge_close.Goals as goal

pub returns : goal.returns
returns c =
    let a = c.args in
    stepped a.c a.m a.session close_of c.role_of.ensures refl refl c.session_at.ensures
    (c.receive_close-receipt.ensures (own_start a.c) (far_start a.c)) c.judge_receipt.ensures
