-- `Line::number` meets its contract: the fewest digits that hold the number are its decimal.
use Rattle.std.proofs.Common.{ap, ◌∙◌, arith}
use Rattle.text_line.specs.Line.{line_text, added}
use Rattle.text_line.proofs.Lines.{same_text}
use Rattle.text_line.proofs.Decimals.{fewest_decimal}
use Rattle.text_line.proofs.line.Line.number.Goals as goal

pub returns : goal.returns
returns c =
    let d = c.decimal-k.ensures in
    same_text c.text.ensures
    (ap (added (line_text c.args.self)) (d.digits ∙ fewest_decimal _ _ (omega arith) d.len))
