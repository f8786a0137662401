-- The text of a flag is its name where it is set, and else nothing.
use Rattle.std.proofs.Common.{rules}
use Rattle.laws.specs.Pick.{pick}
use Rattle.text_line.proofs.pieces.FlagDisplay.fmt.Goals as goal
use Rattle.text_line.proofs.pieces.FlagDisplay.fmt.Goals.{then-self, else-self}

pub returns-clause-writes : goal.returns-clause-writes
unfolding pick
returns-clause-writes g c =
    elim c.if-self.branch [
      | then-self w ↦ search rules
      | else-self w ↦ search rules
    ]
