-- `whole` meets its contract: one law for each way through its checks.
use Rattle.std.proofs.Common.{ap, refl, ◌∙◌}
use borrow.Author.Tests.{eq-eqb, ne_eqb}
use Rattle.laws.specs.Result.{violation}
use Rattle.wire_read.proofs.Order.{order_reserved, order_clear}
use Rattle.wire_read.proofs.headers.Header.whole.Goals as goal

pub returns-then-self-ne0 : goal.returns-then-self-ne0
returns-then-self-ne0 c = ap violation c.broken.ensures ∙ order_reserved _ _ _ _ _ (ne_eqb _ _ c.if-self-ne0.true)

pub returns : goal.returns
returns c = let a = c.args in c.if_sent.ensures ∙ order_clear a.allowed 1 a.message (eq-eqb _ _ c.if-self-ne0.false) refl
