-- `ready_flags` meets its contract. The loop's invariant: the first i flags are those of the table.
use mathlib.Core.Path.{◌≡◌}
use Prim.Native.Nat.{◌-◌, ◌≤◌}
use lib.ListN.{length}
use Rattle.call_turn.specs.Ready.{flag_of}
use Rattle.call_turn.proofs.Ready.{fill_to}
use Rattle.call_turn.proofs.flags.ready_flags.Given as goal

abbrev pub invariant-loop-i : goal.invariant-loop-i
invariant-loop-i l =
    (l.i ≤ 128) × (length l.table ≡ 128) × (length l.initial.flags ≡ 128) × (length l.flags ≡ 128) × (l.flags ≡ fill_to flag_of l.i l.table l.initial.flags)

abbrev pub decreases-loop-i : goal.decreases-loop-i
decreases-loop-i l = 128 - l.i
