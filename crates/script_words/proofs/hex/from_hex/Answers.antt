use Rattle.std.proofs.Common.{List, ℕ, ap, ◌∙◌, take, arith}
use lib.ListN.{set, length-take}
use Rattle.script_words.proofs.Digits.{bytes_more}
use Rattle.script_words.proofs.hex.from_hex.Goals as goal

pub loop-i-preserved : goal.loop-i-preserved
loop-i-preserved c =
    let i = c.loop-i.i in
    let dst = take c.min-n.result c.args.dst.now in
    let long = length-take c.min-n.result c.args.dst.now in
    ap (λ (l : List ℕ). set l i c.byte.result) c.loop-i.invariant
    ∙ bytes_more i dst c.args.s.now c.byte.result (omega arith) (omega arith) c.byte.ensures
