-- `if_flagged` meets its contract: the test picks the case.
use Rattle.std.proofs.Common.{ap, sym, ◌∙◌}
use Rattle.laws.specs.Result.{violation}
use Rattle.laws.proofs.Pick.{yes, no, via}
use Rattle.wire_read.proofs.headers.if_flagged.Goals as goal

pub returns-then-flags_allowed : goal.returns-then-flags_allowed
returns-then-flags_allowed c = sym (yes _ _ _ (via c.flags_allowed.ensures c.if-flags_allowed.true))

pub returns-else-flags_allowed : goal.returns-else-flags_allowed
returns-else-flags_allowed c = ap violation c.broken.ensures ∙ sym (no _ _ _ (via c.flags_allowed.ensures c.if-flags_allowed.false))
