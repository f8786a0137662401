-- Decimal numbers in a text: no sign, no leading zero, at most nine digits.
use Rattle.std.specs.Prelude.{ℕ, ◌+◌, ◌*◌, ◌-◌, Bool, ◌&&◌, List, [], ◌∷◌, Option, Some, None, if◌then◌else◌, eqb, ltb, leb, length, get_or}
use Rattle.std.specs.Bool.{then_some}
use Rattle.std.specs.Char.{is_ascii_digit}
use Rattle.std.specs.List.{list_all}

-- the value of digits that follow a value: it is multiplied by ten before each further digit is added
abbrev pub value_from : ℕ → List ℕ → ℕ
value_from v [] = v
value_from v (b ∷ s) = value_from (v * 10 + (b - 48)) s

-- a digit 0 in front of other bytes
abbrev pub leads_with_zero : List ℕ → Bool
leads_with_zero s = ltb 1 (length s) && eqb (get_or s 0 0) 48

-- a text that is all digits is its value
abbrev pub digits_of : List ℕ → Option ℕ
digits_of s = then_some (list_all is_ascii_digit s) (value_from 0 s)

-- one to nine digits with no leading zero
unfoldable pub decimal_of : List ℕ → Option ℕ
decimal_of s = if eqb (length s) 0 then None else if ltb 9 (length s) then None else if leads_with_zero s then None else digits_of s

-- a number of at most a limit
abbrev pub at_most : ℕ → Option ℕ → Option ℕ
at_most most (Some n) = then_some (leb n most) n
at_most most None = None

-- a session number: at most 255
abbrev pub id_from : Option ℕ → Option ℕ
id_from = at_most 255

-- a number of 16 bits: at most 65,535
abbrev pub short_from : Option ℕ → Option ℕ
short_from = at_most 65535
