-- `write_block` meets its contract: after each byte store the bytes stored so far are those of the block, and all others are as before.
use mathlib.Core.Path.{◌≡◌}
use lib.ListN.{length}
use lib.Seq.{paste}
use Rattle.journal_store.proofs.write_block.Given as goal

abbrev pub invariant-loop-i : goal.invariant-loop-i
invariant-loop-i l = record { sized : length l.region ≡ length l.initial.region; stored : l.region ≡ paste l.initial.region l.at l.block l.i }
