-- What a format writes of a message is the text of its variant, piece by piece.
use Rattle.std.proofs.Common.{refl, append_assoc}
use Rattle.std.proofs.Output.{has_written_of_eq}
use Rattle.text_message.proofs.MessageTextDisplay.fmt.Goals as goal

pub returns-in-IncrementRation-clause-writes : goal.returns-in-IncrementRation-clause-writes
returns-in-IncrementRation-clause-writes g c plain ok =
    rw c.in-IncrementRation.is (has_written_of_eq _ _ _ _ _ (simp append_assoc refl) (c.write-in-IncrementRation.ensures.writes plain ok))

pub returns-in-Abort-clause-writes : goal.returns-in-Abort-clause-writes
returns-in-Abort-clause-writes g c plain ok =
    rw c.in-Abort.is (has_written_of_eq _ _ _ _ _ (simp append_assoc refl) (c.write-in-Abort.ensures.writes plain ok))

pub returns-in-Data-clause-writes : goal.returns-in-Data-clause-writes
returns-in-Data-clause-writes g c plain ok =
    rw c.in-Data.is (has_written_of_eq _ _ _ _ _ (simp append_assoc refl) (c.write-in-Data.ensures.writes plain ok))
