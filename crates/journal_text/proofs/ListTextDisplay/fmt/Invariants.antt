-- What is written so far are the words in front and the serials passed.
use Rattle.std.proofs.Common.{take, ◌++◌}
use Rattle.std.specs.Prelude.{codes}
use Rattle.std.specs.List.{flat_map}
use Rattle.std.specs.Fmt.{HasWritten, IsPlainFormatter}
use Rattle.text_line.specs.Line.{item_text}
use Rattle.journal_text.proofs.ListTextDisplay.fmt.Given as goal

abbrev pub invariant-loop-serial : goal.invariant-loop-serial
invariant-loop-serial g l =
    IsPlainFormatter l.fn.f → HasWritten g.W.Write.write_str_gives l.fn.f (codes "list ok" ++ flat_map (item_text " ") (take l.serial-index l.serial-items)) l.f
