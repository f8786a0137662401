-- `with_waiting` meets its contract: its words, one behind another.
use Rattle.text_line.proofs.Lines.{added_twice}
use Rattle.text_state.proofs.lines.with_waiting.Goals as goal

pub returns : goal.returns
returns c = added_twice _ _ _ c.item.ensures c.flag.ensures
