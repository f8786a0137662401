-- `taken` meets its contract: its words, one behind another.
use Rattle.text_line.proofs.Lines.{added_twice}
use Rattle.text_state.proofs.lines.taken.Goals as goal

pub returns : goal.returns
returns c =
    added_twice _ _ _ (added_twice _ _ _ (added_twice _ _ _ c.text.ensures c.with_message.ensures) c.flag.ensures) c.item.ensures
