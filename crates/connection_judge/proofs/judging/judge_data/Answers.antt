-- `judge_data` meets its contract: the result of the session's step decides.
use Rattle.protocol.specs.Message.{data_of}
use Rattle.connection_judge.proofs.Judgments.{stepped}
use Rattle.connection_judge.proofs.judging.judge_data.Goals as goal

pub returns : goal.returns
returns c =
    let a = c.args in
    λ ack.
    stepped a.c a.m a.session (data_of a.received.length a.received.opens a.received.close a.received.eof ack) c.role_of.ensures c.own_start.ensures
    c.far_start.ensures c.session_at-x.ensures (c.receive_data-receipt.ensures ack) c.judge_receipt.ensures
