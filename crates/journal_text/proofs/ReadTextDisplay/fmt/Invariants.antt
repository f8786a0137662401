-- What is written so far are the words in front and the lines of the entries passed.
use Rattle.std.proofs.Common.{take, length, ◌++◌}
use Rattle.std.specs.Fmt.{HasWritten, IsPlainFormatter}
use Rattle.text_line.specs.Line.{item_text}
use Rattle.journal_text.specs.Texts.{entry_lines}
use Rattle.journal_text.proofs.ReadTextDisplay.fmt.Given as goal

abbrev pub invariant-loop-place : goal.invariant-loop-place
invariant-loop-place g l =
    IsPlainFormatter l.fn.f → HasWritten g.W.Write.write_str_gives l.fn.f (item_text "read ok " (length l.entry-items) ++ entry_lines 1 (take l.place l.entry-items)) l.f
