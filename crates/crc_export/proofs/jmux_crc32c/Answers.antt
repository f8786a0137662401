-- `jmux_crc32c` meets its contract, which is that of `crc32c`.
use Rattle.crc_export.proofs.jmux_crc32c.Goals as goal

pub returns : goal.returns
returns c = c.crc32c.ensures
