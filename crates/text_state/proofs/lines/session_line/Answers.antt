-- `session_line` meets its contract: its words, one behind another.
use Rattle.std.proofs.Common.{List, ℕ, ◌++◌, ap}
use Rattle.std.specs.Prelude.{codes}
use Rattle.std.specs.Fmt.{decimal}
use Rattle.text_line.specs.Line.{added}
use Rattle.text_line.proofs.Lines.{added_twice, same_text}
use Rattle.text_state.proofs.lines.session_line.Goals as goal

pub returns : goal.returns
returns c =
    let start = same_text c.item.ensures (ap (λ (l : List ℕ). added l (codes "session " ++ decimal c.args.n)) c.new.ensures.reads) in
    added_twice _ _ _ (added_twice _ _ _ (added_twice _ _ _ start c.with_sides-line.ensures) c.with_outcome.ensures)
    c.with_counts.ensures
