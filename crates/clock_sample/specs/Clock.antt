-- The ping clock, and how a sample R changes it. The smoothed time and the deviation are in milliseconds.
use Rattle.std.specs.Prelude.{ℕ, Bool, true, false, ◌&&◌, leb, Float, Result as Returned, Ok, Err}
use Rattle.laws.specs.Pick.{pick}
use Rattle.laws.specs.Result.{Result, ok, refused}
use Rattle.refusal.specs.Number.{refusal_number}
use Rattle.refusal.specs.declared.Refusal.TheVariants as refusal
use Rattle.clock_numbers.specs.Arithmetic.{◌⊕◌, ◌⊗◌, ◌⊘◌, whole_number, 0·75, 0·25, 0·875, 0·125, within, distance}
use Rattle.clock_sample.specs.declared.Clock.{Clock}
use Rattle.clock_sample.specs.declared.BadValue.{BadValue}

-- no sample has come
unfoldable pub new_clock : Clock
new_clock = record { sampled = false; smoothed = whole_number 0; deviation = whole_number 0 }

-- first: smoothed = R, deviation = R / 2
unfoldable pub first : Float → Clock
first R = record { sampled = true; smoothed = R; deviation = R ⊘ whole_number 2 }

-- later: deviation = 0.75 * deviation + 0.25 * distance(smoothed, R), then smoothed = 0.875 * smoothed + 0.125 * R
unfoldable pub later : Clock → Float → Clock
later clock R = record {
  sampled = true;
  deviation = 0·75 ⊗ clock.deviation ⊕ 0·25 ⊗ distance clock.smoothed R;
  smoothed = 0·875 ⊗ clock.smoothed ⊕ 0·125 ⊗ R;
}

unfoldable pub updated : Clock → Float → Clock
updated clock R = pick clock.sampled (later clock R) (first R)

-- a state with NaN or a number outside 0 to 60,000 is bad, and so is a sample outside that range
unfoldable pub good_clock : Clock → Bool
good_clock clock = within 0 60_000 clock.smoothed && within 0 60_000 clock.deviation

abbrev pub good_sample : ℕ → Bool
good_sample R = leb R 60_000

-- what the sampler answers, and the clock afterwards: a refusal leaves the clock as it was
unfoldable pub sample_rule : Clock → ℕ → Result Unit × Clock
sample_rule clock R = pick (good_clock clock && good_sample R) (ok tt, updated clock (whole_number R)) (refused 12, clock)

-- each case of the answer in the terms of docs/PROTOCOL.md, "The ping clock"
abbrev pub outcome_result : Returned Unit BadValue → Result Unit
outcome_result (Ok u) = ok tt
outcome_result (Err e) = refused (refusal_number refusal.BadValue)

-- the same by value: the clock after the sample, or the one that was passed
abbrev pub update_result : Clock → Returned Clock BadValue → Result Unit × Clock
update_result clock (Ok after) = (ok tt, after)
update_result clock (Err e) = (refused (refusal_number refusal.BadValue), clock)
