-- `increment` meets its contract: three items, one behind another.
use Rattle.text_line.proofs.Lines.{added_twice}
use Rattle.text_message.proofs.lines.increment.Goals as goal

pub returns : goal.returns
returns c =
    added_twice _ _ _ (added_twice _ _ _ c.item.ensures c.item-2.ensures) c.item-3.ensures
