use mathlib.Core.Path.{sym, ap, ◌∙◌}
use mathlib.Core.List.{List}
use Prim.Native.Nat.{ℕ, suc}
use native.Mathlib.Numerals.{add-one}
use lib.ListN.{drop, get_or, drop_of_length-le}
use lib.Seq.{drop-cons}
use Rattle.crc.specs.Crc.{message_bits}
use Rattle.crc.specs.Steps.{after_bits}
use Rattle.crc.proofs.Division.{byte_first}
use Rattle.crc.proofs.after_bytes.Goals as goal

pub loop-b-preserved : goal.loop-b-preserved
loop-b-preserved c =
    let l = c.loop-b in
    let s : List ℕ = c.args.s.now in
    rw (add-one, c.after_byte-c.ensures)
    (byte_first l.c (get_or s l.b-index 0) (drop (suc l.b-index) s)
    ∙ ap (λ (t : List ℕ). after_bits l.c (message_bits t)) (sym (drop-cons s l.b-index 0 c.loop-b-test.true))
    ∙ l.invariant)

pub returns : goal.returns
unfolding message_bits after_bits
returns c =
    let l = c.loop-b in
    ap (λ (t : List ℕ). after_bits l.c (message_bits t)) (sym (drop_of_length-le _ c.loop-b-test.false)) ∙ l.invariant
