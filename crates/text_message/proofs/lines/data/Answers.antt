-- `data` meets its contract: two items and four flags, one behind another.
use Rattle.text_line.proofs.Lines.{added_twice}
use Rattle.text_message.proofs.lines.data.Goals as goal

pub returns : goal.returns
returns c =
    added_twice _ _ _
    (added_twice _ _ _
    (added_twice _ _ _
    (added_twice _ _ _
    (added_twice _ _ _
    c.item.ensures
    c.flag.ensures)
    c.flag-2.ensures)
    c.flag-3.ensures)
    c.flag-4.ensures)
    c.item-2.ensures
