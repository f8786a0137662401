-- `is_good` meets its contract: it is the test of the block against the one that holds the same entry with the serial of its place.
use mathlib.Core.Path.{ap, ◌∙◌}
use Prim.Native.Nat.{ℕ, ◌+◌}
use lib.ListN.{get_or}
use Rattle.journal_rules.specs.Block.{block_of, journal_entry}
use Rattle.journal_block.proofs.Good.{bad_length, bad_number, bad_kind, good_same}
use Rattle.journal_block.proofs.is_good.Goals as goal
use Rattle.journal_block.proofs.is_good.Goals.{then-number-gt127-via-then-number-gt127, then-number-gt127-via-else-number-gt127+then-kind-gt3}

pub returns-then-block-ne512 : goal.returns-then-block-ne512
returns-then-block-ne512 c = bad_length c.args.block.now c.args.place c.if-block-ne512.true

pub returns-then-number-gt127 : goal.returns-then-number-gt127
returns-then-number-gt127 c =
    let b = c.args.block.now in
    elim c.then-number-gt127.branch [
      | then-number-gt127-via-then-number-gt127 w ↦ bad_number b c.args.place w.if-number-gt127.true
      | then-number-gt127-via-else-number-gt127+then-kind-gt3 w ↦ bad_kind b c.args.place w.if-number-gt127.false w.if-kind-gt3.true
    ]

pub returns : goal.returns
returns c =
    let b = c.args.block.now in
    c.eq.ensures
    ∙ good_same b c.args.place c.block_of-whole.result c.if-number-gt127.false c.if-kind-gt3.false
    (c.block_of-whole.ensures ∙ ap (λ (n : ℕ). block_of (n + 1) (journal_entry (get_or b 4 0) (get_or b 5 0))) c.from.ensures)
