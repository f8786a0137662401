-- `after_byte` meets its contract, by the table's law.
use mathlib.Core.Path.{sym, ap, ◌∙◌}
use Prim.Native.Nat.{ℕ, ◌/◌, ◌%◌}
use lib.Bits.{bit_xor}
use borrow.Author.Rules.{rules}
use Rattle.crc.proofs.Shifts.{by_table, bits_shift}
use Rattle.crc.proofs.after_byte.Goals as goal

pub returns : goal.returns
returns c =
    let a = c.args in
    ap (λ (x : ℕ). bit_xor x (a.c / 256)) (c.requires.entry (bit_xor a.c a.b % 256) (search rules))
    ∙ by_table a.c a.b (search rules) ∙ sym (bits_shift 8 a.c a.b (search rules))
