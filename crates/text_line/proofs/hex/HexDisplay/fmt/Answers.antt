-- Each byte adds its two digits behind those of the bytes before it.
use Rattle.std.proofs.Common.{◌≡◌, ℕ, ◌+◌, ◌<◌, List, [], ◌++◌, take, get_or, length, rules, ap, sym, ◌∙◌}
use Rattle.std.proofs.Output.{has_written_append, has_written_of_eq}
use Rattle.std.proofs.lemmas.List.{flat_map_more, take_more}
use Rattle.text_line.specs.Hex.{two_digits, hex_text}
use Rattle.text_line.proofs.hex.HexDisplay.fmt.Goals as goal

more : (bytes : List ℕ) (i : ℕ) → i < length bytes → hex_text (take i bytes) ++ two_digits (get_or bytes i 0) ≡ hex_text (take (i + 1) bytes)
more bytes i h = flat_map_more two_digits [] (take i bytes) (get_or bytes i 0) ∙ sym (ap hex_text (take_more bytes i 0 h))

pub loop-byte-preserved : goal.loop-byte-preserved
loop-byte-preserved g c plain =
    has_written_of_eq _ _ _ _ _ (more c.args.self.now.0.now c.loop-byte.byte-index (search rules))
    (has_written_append _ _ _ _ _ _ (c.loop-byte.invariant plain) (search rules))
