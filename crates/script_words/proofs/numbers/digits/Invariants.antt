-- The digits that are left, behind the value, are the whole's, and the value has as many digits as were passed.
use Rattle.std.proofs.Common.{◌≡◌, ◌<◌, ◌^◌, drop}
use Rattle.std.specs.Bool.{then_some}
use Rattle.std.specs.Char.{is_ascii_digit}
use Rattle.std.specs.List.{list_all}
use Rattle.script_words.specs.Numbers.{digits_of, value_from}
use Rattle.script_words.proofs.numbers.digits.Given as goal

abbrev pub invariant-loop-b : goal.invariant-loop-b
invariant-loop-b l =
    (then_some (list_all is_ascii_digit (drop l.b-index l.s)) (value_from l.value (drop l.b-index l.s)) ≡ digits_of l.s) × (l.value < 10 ^ l.b-index)
