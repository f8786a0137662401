-- `with_sides` meets its contract: of a session with two sides each stands behind the other.
use Rattle.std.proofs.Common.{ap, ◌∙◌}
use Rattle.text_line.specs.Line.{line_text, added}
use Rattle.text_line.proofs.Lines.{added_twice, same_text}
use Rattle.text_state.proofs.lines.with_sides.Goals as goal

pub returns-in-Live : goal.returns-in-Live
returns-in-Live c =
    let ours = same_text c.text-in-Live.ensures (ap (added (line_text c.args.line)) (c.as_bytes.ensures.value ∙ c.side_words.ensures)) in
    let theirs = same_text c.text-in-Live-2.ensures
    (ap (added (line_text c.text-in-Live.result)) (c.as_bytes-in-Live.ensures.value ∙ c.side_words-in-Live.ensures)) in
    rw c.in-Live.is (added_twice _ _ _ ours theirs)
