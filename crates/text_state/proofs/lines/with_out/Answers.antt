-- `with_out` meets its contract: the ration stands behind its name.
use Rattle.text_line.proofs.Lines.{added_twice}
use Rattle.text_state.proofs.lines.with_out.Goals as goal

pub returns : goal.returns
returns c = added_twice _ _ _ c.text.ensures c.with_ration.ensures
