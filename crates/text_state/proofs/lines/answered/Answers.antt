-- `answered` meets its contract: those of a header are two items, one behind the other.
use Rattle.std.proofs.Common.{rules}
use Rattle.text_line.proofs.Lines.{added_twice}
use Rattle.text_state.proofs.lines.answered.Goals as goal

pub returns-in-Ok-Header : goal.returns-in-Ok-Header
returns-in-Ok-Header c =
    search (rules, added_twice _ _ _ c.item-in-Ok-Header.ensures c.item-in-Ok-Header-2.ensures)
