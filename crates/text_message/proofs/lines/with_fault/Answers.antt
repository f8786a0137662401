-- `with_fault` meets its contract: the number and the place, one behind the other.
use Rattle.std.proofs.Common.{ℕ, ap}
use Rattle.text_line.specs.Line.{item_text, line_text, added}
use Rattle.text_line.proofs.Lines.{added_twice, same_text}
use Rattle.text_message.proofs.lines.with_fault.Goals as goal

pub returns : goal.returns
returns c =
    let a = c.args in
    added_twice _ _ _
    (same_text c.item.ensures (ap (λ (k : ℕ). added (line_text a.line) (item_text " refused " k)) c.number.ensures))
    (same_text c.item-2.ensures (ap (λ (k : ℕ). added (line_text c.item.result) (item_text " at " k)) c.place.ensures))
