-- `due_if` meets its contract.
use mathlib.Core.Path.{sym}
use Rattle.laws.proofs.Pick.{yes, no}
use Rattle.journal_history.specs.Due.{nothing_due, entry_due}
use Rattle.journal_keep.proofs.fates.due_if.Goals as goal

pub returns-then-stored : goal.returns-then-stored
returns-then-stored c = sym (yes c.args.stored (entry_due c.args.kind) nothing_due c.if-stored.true)

pub returns-else-stored : goal.returns-else-stored
returns-else-stored c = sym (no c.args.stored (entry_due c.args.kind) nothing_due c.if-stored.false)
