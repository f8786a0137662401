-- Which samples are taken and which refused, in numbers, and that a refusal is 12 and leaves the clock as it is: from the sample's rule.
use mathlib.Core.Path.{◌≡◌, refl, sym}
use mathlib.Core.Bool.{Bool, true, false, ◌&&◌, and-false}
use Prim.Native.Nat.{ℕ, ◌≤◌, ◌<◌}
use lib.Ieee.{Float, sub, div, lt, le, of_int}
use borrow.Author.Tests.{le-leb, lt-leb}
use Rattle.laws.specs.Pick.{pick}
use Rattle.laws.specs.Result.{Result, ok, refused}
use Rattle.laws.proofs.Pick.{yes, no}
use Rattle.laws.proofs.Results.{refused_same, refused_not_ok}
use Rattle.laws.proofs.Tests.{and_both}
use Rattle.clock_numbers.specs.Arithmetic.{◌⊖◌, ◌⊘◌, whole_number}
use Rattle.clock_sample.specs.declared.Clock.{Clock}
use Rattle.clock_sample.specs.Clock.{new_clock, first, updated, good_clock, good_sample, sample_rule}

-- a good clock takes every sample up to 60,000
pub taken_in_range : (clock : Clock) (R : ℕ) → good_clock clock ≡ true → R ≤ 60_000 → sample_rule clock R ≡ (ok tt, updated clock (whole_number R))
unfolding sample_rule
taken_in_range clock R g h = yes _ _ _ (and_both g (le-leb R 60_000 h))

-- no clock takes one above
pub refused_above : (clock : Clock) (R : ℕ) → 60_000 < R → sample_rule clock R ≡ (refused 12, clock)
unfolding sample_rule
refused_above clock R h = no _ _ _ (rw (lt-leb R 60_000 h) (and-false (good_clock clock)))

-- a bad clock takes none
pub refused_where_bad : (clock : Clock) (R : ℕ) → good_clock clock ≡ false → sample_rule clock R ≡ (refused 12, clock)
unfolding sample_rule
refused_where_bad clock R b = no _ _ _ (rw b)

-- a refusal is 12 and leaves the clock as it is
pub refused_leaves : (clock : Clock) (R n : ℕ) → (sample_rule clock R).0 ≡ refused n → (n ≡ 12) × ((sample_rule clock R).1 ≡ clock)
unfolding sample_rule pick
refused_leaves clock R n e = go (good_clock clock && good_sample R) e
  where
    go : (b : Bool) → (pick {A = Result Unit × Clock} b (ok tt, updated clock (whole_number R)) (refused 12, clock)).0 ≡ refused n
        → (n ≡ 12) × ((pick {A = Result Unit × Clock} b (ok tt, updated clock (whole_number R)) (refused 12, clock)).1 ≡ clock)
    go true q = absurd (refused_not_ok (sym q))
    go false q = (sym (refused_same q), refl)

-- ---- for a clock just made

pub takes_0 : sample_rule new_clock 0 ≡ (ok tt, record { sampled = true; smoothed = whole_number 0; deviation = whole_number 0 })
unfolding pick new_clock first updated good_clock sample_rule whole_number of_int div lt le
takes_0 = refl

pub takes_60000 : sample_rule new_clock 60_000 ≡ (ok tt, record { sampled = true; smoothed = whole_number 60_000; deviation = whole_number 30_000 })
unfolding pick new_clock first updated good_clock sample_rule whole_number of_int div lt le
takes_60000 = refl

pub refuses_60001 : sample_rule new_clock 60_001 ≡ (refused 12, new_clock)
unfolding pick new_clock good_clock sample_rule whole_number of_int lt le
refuses_60001 = refl

-- a state is good if both its numbers are from 0 to 60,000
pub good_up_to_60000 : (clock : Clock)
    → good_clock clock
    ≡ ((le (whole_number 0) clock.smoothed && le clock.smoothed (whole_number 60_000))
    && (le (whole_number 0) clock.deviation && le clock.deviation (whole_number 60_000)))
unfolding good_clock
good_up_to_60000 clock = refl

abbrev clock_of : Float → Float → Clock
clock_of smoothed deviation = record { sampled = true; smoothed = smoothed; deviation = deviation }

-- and so not above, not below and not NaN
pub bad_states : (good_clock (clock_of (whole_number 60_000) (whole_number 60_000)) ≡ true)
    × (good_clock (clock_of (whole_number 60_001) (whole_number 0)) ≡ false)
    × (good_clock (clock_of (whole_number 0) (whole_number 60_001)) ≡ false)
    × (good_clock (clock_of (whole_number 0 ⊖ whole_number 1) (whole_number 0)) ≡ false)
    × (good_clock (clock_of (whole_number 0) (whole_number 0 ⊖ whole_number 1)) ≡ false)
    × (good_clock (clock_of (whole_number 0 ⊘ whole_number 0) (whole_number 0)) ≡ false)
    × (good_clock (clock_of (whole_number 0) (whole_number 0 ⊘ whole_number 0)) ≡ false)
unfolding good_clock whole_number of_int sub div lt le
bad_states = (refl, refl, refl, refl, refl, refl, refl)
