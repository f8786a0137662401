-- From the entry at hand on the answer is the same as from the first one on.
use Rattle.std.proofs.Common.{◌≡◌, drop, map}
use Rattle.journal_rules.specs.Listing.{is_answered}
use Rattle.journal_read.specs.Answers.{entry_as}
use Rattle.journal_read.proofs.is_answered.Given as goal

abbrev pub invariant-loop-entry : goal.invariant-loop-entry
invariant-loop-entry l = is_answered l.number (map entry_as (drop l.entry-index l.later)) ≡ is_answered l.number (map entry_as l.later)
