use Rattle.std.proofs.Common.{◌≡◌, List, ℕ, ◌+◌, ◌*◌, ◌/◌, ◌%◌, ◌<◌, take, get_or, ap, ◌∙◌, arith}
use lib.ListN.{set, length-take}
use Rattle.std.proofs.lemmas.List.{get_or-take}
use Rattle.script_words.specs.Hex.{glyph_of}
use Rattle.script_words.proofs.Digits.{text_more}
use Rattle.script_words.proofs.hex.to_hex.Goals as goal

pub loop-i-preserved : goal.loop-i-preserved
loop-i-preserved c =
    let i = c.loop-i.i in
    let n = c.min-n.result in
    let src = c.args.src.now in
    let long = length-take n src in
    let within : i < n = omega arith in
    let same : get_or (take n src) i 0 ≡ get_or src i 0 = get_or-take n src i 0 within in
    ap (λ (l : List ℕ). set (set l (2 * i) c.glyph.result) (2 * i + 1) c.glyph-in-loop-i.result) c.loop-i.invariant
    ∙ text_more i c.args.dst.now src _ _ (omega arith) (omega arith) (c.glyph.ensures ∙ ap (λ b. glyph_of (b / 16)) same)
    (c.glyph-in-loop-i.ensures ∙ ap (λ b. glyph_of (b % 16)) same)
