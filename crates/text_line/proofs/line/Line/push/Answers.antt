-- `Line::push` meets its contract: what fits is copied in behind the line's end, and no more.
use Rattle.std.proofs.Common.{◌≡◌, ◌+◌, ◌-◌, min, length, length-take, take, ◌++◌, ap, ◌∙◌, arith, rules}
use Rattle.std.proofs.lemmas.Slice.{take-put_mid}
use Rattle.text_line.proofs.Lines.{fitting_added}
use Rattle.text_line.proofs.line.Line.push.Goals as goal

pub returns : goal.returns
returns c =
    let line = c.args.self.now in
    let at = c.min-at.result in
    let fitting = c.first-fitting.result.now in
    let whole : length line.bytes ≡ 128 = search rules in
    let short : length fitting ≡ min (128 - at) (length c.args.words.now) = ap length c.first-fitting.ensures ∙ length-take (128 - at) c.args.words.now in
    let copied : length c.copy_from_slice.new.self ≡ length fitting = ap length c.copy_from_slice.ensures.after in
    record {
      reads = take-put_mid at _ line.bytes c.copy_from_slice.new.self (at + length fitting) (omega arith) (omega arith)
          ∙ ap (λ l. take at line.bytes ++ l) (c.copy_from_slice.ensures.after ∙ c.first-fitting.ensures)
          ∙ fitting_added line.bytes c.args.words.now line.length at whole (omega arith);
      fits = omega arith;
    }
