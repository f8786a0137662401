-- `judge_increment` meets its contract: the result of the session's step decides.
use mathlib.Core.Path.{refl, ap, ◌∙◌}
use Prim.Native.Nat.{ℕ}
use Rattle.protocol.specs.Connection.{role_of, own_start, far_start}
use Rattle.protocol.specs.Message.{of_session, increment_of}
use Rattle.protocol.specs.Judge.{judge_scope}
use Rattle.connection_judge.specs.Verdict.{verdict}
use Rattle.connection_judge.proofs.Judgments.{stepped}
use Rattle.connection_judge.proofs.judging.judge_increment.Goals as goal

pub returns : goal.returns
returns c =
    let a = c.args in
    stepped a.c a.m a.session (increment_of c.effective_increment-amount.result) refl refl refl c.session_at.ensures
    (c.receive_increment-receipt.ensures (role_of a.c.stage) (own_start a.c) (far_start a.c)) c.judge_receipt.ensures
    ∙ ap (λ (k : ℕ). verdict a.c (judge_scope a.c a.m (of_session a.session (increment_of k)))) c.effective_increment-amount.ensures
