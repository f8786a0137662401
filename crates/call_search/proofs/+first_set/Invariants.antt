-- The count falls.
use Rattle.call_search.proofs.+first_set.Given as goal

abbrev pub decreases-first_set : goal.decreases-first_set
decreases-first_set l = l.count
