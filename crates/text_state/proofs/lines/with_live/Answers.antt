-- `with_live` meets its contract: where our side is open, both rations and what waits, one behind another.
use Rattle.text_line.proofs.Lines.{added_twice}
use Rattle.text_state.proofs.lines.with_live.Goals as goal

pub returns-in-Open : goal.returns-in-Open
returns-in-Open c =
    rw c.in-Open.is
    (added_twice _ _ _ (added_twice _ _ _ c.with_out.ensures c.with_in-rations.ensures) c.with_waiting.ensures)
