-- The limit for a ping, in milliseconds, that a clock gives under a setting.
use Rattle.std.specs.Prelude.{Bool, ◌&&◌, Float, Result as Returned, Ok, Err}
use Rattle.std.specs.Float.Ieee.{le}
use Rattle.laws.specs.Pick.{pick}
use Rattle.laws.specs.Result.{Result, ok, refused}
use Rattle.refusal.specs.Number.{refusal_number}
use Rattle.refusal.specs.declared.Refusal.TheVariants as refusal
use Rattle.clock_numbers.specs.Arithmetic.{◌⊕◌, ◌⊗◌, whole_number, within, larger, held}
use Rattle.clock_sample.specs.declared.Clock.{Clock}
use Rattle.clock_sample.specs.declared.BadValue.{BadValue}
use Rattle.clock_sample.specs.Clock.{good_clock}
use Rattle.clock_limit.specs.declared.Setting.{Setting}
use Rattle.clock_limit.specs.declared.Setting.TheVariants.{Fixed, Measured}

-- every number from 1 to 60,000, floor not above ceiling
unfoldable pub good_setting : Setting → Bool
good_setting (Fixed limit) = within 1 60_000 limit
good_setting (Measured floor ceiling) = within 1 60_000 floor && within 1 60_000 ceiling && le floor ceiling

-- smoothed + larger of 1 and 4 * deviation; 1000 before any sample
unfoldable pub measured : Clock → Float
measured clock = pick clock.sampled (clock.smoothed ⊕ larger (whole_number 1) (whole_number 4 ⊗ clock.deviation)) (whole_number 1000)

-- fixed: the one limit; measured: held between floor and ceiling
abbrev pub limit_under : Setting → Clock → Float
limit_under (Fixed limit) clock = limit
limit_under (Measured floor ceiling) clock = held floor ceiling (measured clock)

-- state and setting are both checked, whatever the setting is, and whether or not a sample has come
unfoldable pub limit_rule : Clock → Setting → Result Float
limit_rule clock setting = pick (good_clock clock && good_setting setting) (ok (limit_under setting clock)) (refused 12)

-- each case of the answer in the terms of docs/PROTOCOL.md, "The ping clock"
abbrev pub limit_result : Returned Float BadValue → Result Float
limit_result (Ok limit) = ok limit
limit_result (Err e) = refused (refusal_number refusal.BadValue)
