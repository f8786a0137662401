-- `search_blocks` meets its contract: the blocks before the one at hand are good, so the first bad one is found from there on.
use mathlib.Core.Path.{◌≡◌}
use Prim.Native.Nat.{◌-◌, ◌*◌, ◌≤◌}
use lib.ListN.{length}
use Rattle.journal_rules.specs.Region.{first_bad_from}
use Rattle.journal_region.proofs.search_blocks.Given as goal

abbrev pub invariant-loop-place : goal.invariant-loop-place
invariant-loop-place l =
    record {
      inside : 512 * l.blocks ≤ length l.region;
      onward : first_bad_from (l.blocks - l.place) l.place l.region ≡ first_bad_from l.blocks 0 l.region;
    }
