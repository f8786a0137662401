-- Bytes as hexadecimal digits.
use Rattle.std.specs.Prelude.{ℕ, ◌-◌, ◌^◌, List, [], false}
use Rattle.std.specs.List.{flat_map}
use Rattle.std.specs.Fmt.{digits, format_spec, padded_integral}

-- what `{:02x}` writes of a byte: its hexadecimal digits, with a zero before a lone one
abbrev pub two_digits : ℕ → List ℕ
two_digits b = padded_integral (format_spec 32 0 4 2 (2 ^ 64 - 1)) false [] (digits 16 false b)

-- the digits of each byte in turn
abbrev pub hex_text : List ℕ → List ℕ
hex_text bytes = flat_map two_digits bytes
