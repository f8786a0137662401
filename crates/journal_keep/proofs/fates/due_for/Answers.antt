-- `due_for` meets its contract.
use mathlib.Core.Path.{sym, ◌∙◌}
use Rattle.laws.proofs.Pick.{yes, no}
use Rattle.journal_history.specs.Due.{entry_due, due_fate}
use Rattle.protocol.specs.Fate.{fate_of}
use Rattle.journal_keep.proofs.fates.due_for.Goals as goal

pub returns-then-opening : goal.returns-then-opening
returns-then-opening c =
    let a = c.args in
    sym (yes a.opening (entry_due 0) (due_fate a.stored (fate_of a.x.outcome) a.x.sides) c.if-opening.true)

pub returns : goal.returns
returns c =
    let a = c.args in
    c.due_fate.ensures ∙ sym (no a.opening (entry_due 0) (due_fate a.stored (fate_of a.x.outcome) a.x.sides) c.if-opening.false)
