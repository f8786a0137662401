-- `crc32c` meets its contract: its table is one, and the state after all bits gives the CRC.
use mathlib.Core.Path.{sym, ap, ◌∙◌}
use Prim.Native.Nat.{ℕ}
use lib.Bits.{bit_xor}
use Rattle.crc.specs.Steps.{after_shift, after_shifts}
use Rattle.crc.proofs.Shifts.{is_table}
use Rattle.crc.proofs.Division.{ones, by_steps}
use Rattle.crc.proofs.crc32c.Goals as goal

pub after_bytes-requires : goal.after_bytes-requires
unfolding after_shifts after_shift
after_bytes-requires c = is_table _ tt

pub returns : goal.returns
returns c = ap (λ (x : ℕ). bit_xor x ones) c.after_bytes.ensures ∙ sym (by_steps _)
