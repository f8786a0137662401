-- `if_sent` meets its contract: the test picks the case.
use Rattle.std.proofs.Common.{ap, sym, ◌∙◌}
use Rattle.laws.specs.Result.{violation}
use Rattle.laws.proofs.Pick.{yes, no}
use Rattle.wire_read.proofs.headers.if_sent.Goals as goal

pub returns-then-allowed : goal.returns-then-allowed
returns-then-allowed c = sym (yes _ _ _ c.if-allowed.true)

pub returns-else-allowed : goal.returns-else-allowed
returns-else-allowed c = ap violation c.broken.ensures ∙ sym (no _ _ _ c.if-allowed.false)
