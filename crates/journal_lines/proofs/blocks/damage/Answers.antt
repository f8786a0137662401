-- `damage` meets its contract: the test of the code is that of the definition.
use mathlib.Core.Path.{sym}
use borrow.Author.Tests.{lt-ltb, le-ltb}
use Rattle.laws.proofs.Pick.{yes, no}
use Rattle.journal_lines.specs.Blocks.{damaged}
use Rattle.journal_lines.proofs.blocks.damage.Goals as goal

pub returns-then-place-region : goal.returns-then-place-region
unfolding damaged
returns-then-place-region c = sym (yes _ _ _ (lt-ltb _ _ c.if-place-region.true))

pub returns-else-place-region : goal.returns-else-place-region
unfolding damaged
returns-else-place-region c = sym (no _ _ _ (le-ltb _ _ c.if-place-region.false))
