-- `end_state` meets its contract: the column of statuses is the one that is ended, and the connection is over.
use Rattle.std.proofs.Common.{ℕ, List, ap, set}
use Rattle.connection.specs.Cause.{cause_as}
use Rattle.words.specs.State.{over_at}
use Rattle.words_access.specs.Access.{ended_status, ended_words}
use Rattle.words_access.proofs.Columns.{column}
use Rattle.words_access.proofs.ending.end_state.Goals as goal

pub returns : goal.returns
unfolding ended_words
returns c =
    ap (λ (l : List ℕ). set l over_at 1) (column (ended_status (cause_as c.args.cause)) c.args.state.now c.end_statuses.new.statuses c.end_statuses.ensures)
