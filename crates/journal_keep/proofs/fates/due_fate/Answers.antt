-- `due_fate` meets its contract, outcome by outcome.
use Rattle.journal_keep.proofs.fates.due_fate.Goals as goal

pub returns-in-Running : goal.returns-in-Running
returns-in-Running c = rw c.in-Running.is c.due_running.ensures

pub returns-in-Complete : goal.returns-in-Complete
returns-in-Complete c = rw c.in-Complete.is c.due_if.ensures

pub returns-in-MayRetry : goal.returns-in-MayRetry
returns-in-MayRetry c = rw c.in-MayRetry.is c.due_if-in-MayRetry.ensures

pub returns-in-MustNotRetry : goal.returns-in-MustNotRetry
returns-in-MustNotRetry c = rw c.in-MustNotRetry.is c.due_if-in-MustNotRetry.ensures
