-- `abort` meets its contract: two items and a flag, one behind another.
use Rattle.text_line.proofs.Lines.{added_twice}
use Rattle.text_message.proofs.lines.abort.Goals as goal

pub returns : goal.returns
returns c =
    added_twice _ _ _ (added_twice _ _ _ c.item.ensures c.flag.ensures) c.item-2.ensures
