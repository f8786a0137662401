-- `connection_line` meets its contract: its words, one behind another.
use Rattle.std.proofs.Common.{List, ℕ, ap}
use Rattle.std.specs.Prelude.{codes}
use Rattle.text_line.specs.Line.{added}
use Rattle.text_line.proofs.Lines.{added_twice, same_text}
use Rattle.text_state.proofs.lines.connection_line.Goals as goal

pub returns : goal.returns
returns c =
    let start = same_text c.text.ensures (ap (λ (l : List ℕ). added l (codes "connection")) c.new.ensures.reads) in
    added_twice _ _ _
    (added_twice _ _ _ (added_twice _ _ _ (added_twice _ _ _ start c.with_stage.ensures) c.flag.ensures) c.item-line.ensures)
    c.with_ping.ensures
