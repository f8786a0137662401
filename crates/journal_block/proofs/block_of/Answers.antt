-- `block_of` meets its contract: the bytes are those of the block, and the CRC is that of the first 507.
use mathlib.Core.Path.{refl}
use Rattle.journal_rules.specs.Block.{block_of, checked_bytes}
use Rattle.journal_block.proofs.block_of.Goals as goal

pub returns : goal.returns
unfolding block_of checked_bytes
returns c =
    rw (c.copy_from_slice-2.ensures.after, c.to_be_bytes-2.ensures, c.crc32c-checksum.ensures, c.copy_from_slice.ensures.after, c.to_be_bytes.ensures) refl
