-- The effective increment of a message that was read: the increment times two to the power of its first byte AND 0E.
use mathlib.Core.Path.{◌≡◌, ap, ◌∙◌}
use Prim.Native.Nat.{ℕ, ◌+◌, ◌*◌, ◌%◌, ◌^◌, ◌<◌}
use mathlib.Core.List.{List}
use lib.Bits.{bit_and}
use lib.ListN.{get_or}
use Rattle.laws.specs.Result.{ok}
use Rattle.laws.proofs.Below.{below_number}
use Rattle.laws.proofs.Lists.{Bytes}
use Rattle.wire.specs.declared.Role.{Role}
use Rattle.wire.specs.declared.Message.TheVariants.{IncrementRation}
use Rattle.wire.specs.Message.{effective_increment, read_message}
use Rattle.wire.proofs.Laws.{message_parsed}

twice_shift : (t : ℕ) → t < 8 → 2 * (t % 8) ≡ bit_and (0x10 + t % 8 * 2) 0x0E
twice_shift = below_number (λ t. 2 * (t % 8)) (λ t. bit_and (0x10 + t % 8 * 2) 0x0E) 8 tt

pub effective_by_first_byte : (from : Role) (s : List ℕ) (t i n : ℕ) → Bytes s → read_message from s ≡ ok (IncrementRation t i n)
    → effective_increment t n ≡ n * 2 ^ bit_and (get_or s 0 0) 0x0E
unfolding effective_increment
effective_by_first_byte from s t i n bs q =
    let p = message_parsed from s (IncrementRation t i n) bs q in
    ap (λ (e : ℕ). n * 2 ^ e) (twice_shift t p.shift ∙ ap (λ (a : ℕ). bit_and a 0x0E) p.first)
