-- `replied` meets its contract: the reply fits the room, and the other parts follow from the answer.
use native.Mathlib.Nat.{le_trans}
use Rattle.connection_judge.specs.Verdict.{verdict_as}
use Rattle.call_receive.proofs.Rooms.{fits_twelve, concludes}
use Rattle.call_receive.proofs.replies.replied.Goals as goal

pub returns : goal.returns
returns c =
    let a = c.args in
    concludes (verdict_as a.judged) a.room.now (le_trans (fits_twelve a.judged.reply) c.requires) c.write_reply-wrote.ensures
    c.extent_of-extent.ensures
