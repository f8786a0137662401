-- `keep_table` meets its contract. The loop's invariant: the numbers that are left, done on the work so far, give what all numbers give.
use mathlib.Core.Path.{◌≡◌}
use Prim.Native.Nat.{◌-◌}
use lib.ListN.{length}
use Rattle.protocol.specs.Result.{answer_as}
use Rattle.journal_history.specs.Due.{has_open}
use Rattle.journal_history.specs.Keep.{keep_numbers}
use Rattle.journal_keep.specs.Answers.{work_as}
use Rattle.journal_keep.proofs.keep_table.Given as goal

abbrev pub invariant-loop-n : goal.invariant-loop-n
invariant-loop-n l =
    record {
      sized : length l.region ≡ length l.initial.region;
      table : length l.table ≡ 128;
      opens : l.open ≡ has_open l.written;
      onward : keep_numbers l.table (answer_as l.answer) l.written (128 - l.n) l.n (work_as l.work l.region)
          ≡ keep_numbers l.table (answer_as l.answer) l.written 128 0 (work_as l.initial.work l.initial.region);
    }
