-- `with_in` meets its contract: the ration stands behind its name.
use Rattle.text_line.proofs.Lines.{added_twice}
use Rattle.text_state.proofs.lines.with_in.Goals as goal

pub returns-in-Open : goal.returns-in-Open
returns-in-Open c =
    rw c.in-Open.is (added_twice _ _ _ c.text.ensures c.with_ration.ensures)
