-- The places so far have their bytes.
use Rattle.std.proofs.Common.{◌≡◌}
use Rattle.script_words.specs.Hex.{bytes_from_hex, laid}
use Rattle.script_words.proofs.hex.from_hex.Given as goal

abbrev pub invariant-loop-i : goal.invariant-loop-i
invariant-loop-i l = l.place-items ≡ laid l.initial.place-items (bytes_from_hex l.s) l.i
