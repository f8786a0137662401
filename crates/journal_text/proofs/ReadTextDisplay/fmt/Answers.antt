-- Each entry adds its line behind those of the entries before it.
use Rattle.std.proofs.Common.{rules, length, get_or, ◌+◌}
use Rattle.std.specs.Fmt.{HasWritten}
use Rattle.std.proofs.Output.{has_written_append, has_written_of_eq}
use Rattle.text_line.specs.Line.{item_text}
use Rattle.journal_read.specs.declared.Entry.{Entry}
use Rattle.journal_text.specs.Texts.{entry_line}
use Rattle.journal_text.proofs.Lines.{more_lines}
use Rattle.journal_text.proofs.ReadTextDisplay.fmt.Goals as goal

pub loop-place-preserved : goal.loop-place-preserved
loop-place-preserved g c plain =
    let es = c.as_slice-entry-items.result.now in
    let i = c.loop-place.place in
    let none : Entry = record { number = 0; kind = 0 } in
    let wrote : HasWritten g.W.Write.write_str_gives c.loop-place.f (entry_line (i + 1) (get_or es i none)) c.write-in-loop-place.new.self = search rules in
    has_written_of_eq _ _ _ _ _ (more_lines (item_text "read ok " (length es)) es i none c.loop-place-test.true)
    (has_written_append _ _ _ _ _ _ (c.loop-place.invariant plain) wrote)
