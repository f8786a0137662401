-- `Line::flag` meets its contract: the test picks the name or nothing.
use Rattle.std.proofs.Common.{rules}
use Rattle.laws.specs.Pick.{pick}
use Rattle.text_line.proofs.line.Line.flag.Goals as goal
use Rattle.text_line.proofs.line.Line.flag.Goals.{then-set, else-set}

pub returns : goal.returns
unfolding pick
returns c =
    elim c.if-set.branch [
      | then-set w ↦ search rules
      | else-set w ↦ search rules
    ]
