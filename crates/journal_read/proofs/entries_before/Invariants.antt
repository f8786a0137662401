-- The entries of the blocks passed are there, and those of the others are still to come.
use Rattle.std.proofs.Common.{◌≡◌, ◌-◌, ◌*◌, ◌≤◌, ◌++◌, length, map}
use Rattle.journal_read.specs.Answers.{entry_as}
use Rattle.journal_read.proofs.Standing.{entries_in}
use Rattle.journal_read.proofs.entries_before.Given as goal

abbrev pub invariant-loop-place : goal.invariant-loop-place
invariant-loop-place l =
    record {
      few : l.count ≤ 128;
      room : 512 * l.count ≤ length l.region;
      size : length l.entries.items ≡ l.place;
      all : map entry_as l.entries.items ++ entries_in (l.count - l.place) l.place l.region ≡ entries_in l.count 0 l.region;
    }
