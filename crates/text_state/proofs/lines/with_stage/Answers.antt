-- `with_stage` meets its contract: each arm of the code is a case of the definition.
use Rattle.text_line.proofs.Lines.{added_twice}
use Rattle.text_state.proofs.lines.with_stage.Goals as goal

pub returns-in-Fresh : goal.returns-in-Fresh
returns-in-Fresh c =
    rw c.in-Fresh.is (added_twice _ _ _ c.with_role.ensures c.text.ensures)

pub returns-in-Started : goal.returns-in-Started
returns-in-Started c =
    rw c.in-Started.is c.text-in-Started.ensures

pub returns-in-Up : goal.returns-in-Up
returns-in-Up c =
    rw c.in-Up.is (added_twice _ _ _ c.with_role-in-Up.ensures c.item.ensures)
