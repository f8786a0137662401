-- `end_statuses` meets its contract. The loop's invariant: the statuses passed are those after the end, the others as they were.
use Rattle.std.proofs.Common.{◌≡◌}
use Rattle.connection.specs.Cause.{cause_as}
use Rattle.words_access.specs.Access.{ended_status}
use Rattle.words_access.proofs.Columns.{up_to}
use Rattle.words_access.proofs.ending.end_statuses.Given as goal

abbrev pub invariant-loop-status : goal.invariant-loop-status
invariant-loop-status l = l.statuses ≡ up_to (ended_status (cause_as l.cause)) l.status-index l.initial.statuses
