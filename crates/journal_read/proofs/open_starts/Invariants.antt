-- The serials of the open starts passed are there, and the others are still to come.
use Rattle.std.proofs.Common.{◌≡◌, ◌≤◌, ◌++◌, drop, length, map}
use Rattle.journal_rules.specs.Listing.{not_to_retry}
use Rattle.journal_read.specs.Answers.{entry_as}
use Rattle.journal_read.proofs.open_starts.Given as goal

abbrev pub invariant-loop-place : goal.invariant-loop-place
invariant-loop-place l =
    record {
      few : length l.serials.items ≤ l.place;
      all : l.serials.items ++ not_to_retry l.place (map entry_as (drop l.place l.entries)) ≡ not_to_retry 0 (map entry_as l.entries);
    }
