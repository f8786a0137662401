-- `keep_some` meets its contract: the table of the connection, with nothing stored and nothing stopped at first.
use mathlib.Core.Path.{ap}
use Rattle.journal_history.specs.Keep.{seen_of, keep_all}
use Rattle.journal_keep.proofs.keep_some.Goals as goal

pub returns : goal.returns
unfolding keep_all
returns c = ap seen_of c.keep_table.ensures
