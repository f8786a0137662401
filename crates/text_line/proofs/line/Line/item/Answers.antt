-- `Line::item` meets its contract: one text behind another is both behind the line's end.
use Rattle.text_line.proofs.Lines.{added_twice}
use Rattle.text_line.proofs.line.Line.item.Goals as goal

pub returns : goal.returns
returns c = added_twice _ _ _ c.text.ensures c.number.ensures
