-- The bytes so far have their two digits.
use Rattle.std.proofs.Common.{◌≡◌, ◌*◌}
use Rattle.script_words.specs.Hex.{text_of, laid}
use Rattle.script_words.proofs.hex.to_hex.Given as goal

abbrev pub invariant-loop-i : goal.invariant-loop-i
invariant-loop-i l = l.dst ≡ laid l.initial.dst (text_of l.src) (2 * l.i)
