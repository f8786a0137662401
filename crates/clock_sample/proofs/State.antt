-- A good clock stays good: a sample takes a state from 0 to 60,000 to one from 0 to 60,000, from the bounds that the operations keep.
use mathlib.Core.Path.{◌≡◌, refl}
use mathlib.Core.Bool.{Bool, true, false}
use Prim.Native.Nat.{ℕ}
use native.Mathlib.Omega.{arith}
use lib.IntN.{negsuc}
use lib.Dec.{T}
use lib.Ieee.{Float, of_int, div, lt, le, eq}
use lib.Ieee.Fits.{and_i}
use borrow.Author.Tests.{leb-true}
use Rattle.laws.specs.Pick.{pick}
use Rattle.laws.proofs.Pick.{yes, no}
use Rattle.laws.proofs.Tests.{and_both, T-first, T-second, T_true}
use Rattle.clock_numbers.specs.Arithmetic.{whole_number, 0·75, 0·25, 0·875, 0·125, within}
use Rattle.clock_numbers.proofs.Range.{UpTo, whole_up_to, product_up_to, half_up_to, sum_up_to, distance_up_to}
use Rattle.clock_numbers.proofs.Passing.{within→up_to, up_to→within}
use Rattle.clock_sample.specs.declared.Clock.{Clock}
use Rattle.clock_sample.specs.Clock.{new_clock, first, later, updated, good_clock, good_sample, sample_rule}

InRange : Clock → Type 0
InRange clock = UpTo 60_000 clock.smoothed × UpTo 60_000 clock.deviation

good→in_range : (clock : Clock) → good_clock clock ≡ true → InRange clock
unfolding InRange good_clock
good→in_range clock c =
    let smoothed = within 0 60_000 clock.smoothed in
    let deviation = within 0 60_000 clock.deviation in
    let t : T (good_clock clock) = rw c tt in
    (within→up_to clock.smoothed (T-first smoothed deviation t), within→up_to clock.deviation (T-second smoothed deviation t))

in_range→good : (clock : Clock) → InRange clock → good_clock clock ≡ true
unfolding InRange good_clock
in_range→good clock i =
    T_true (good_clock clock)
    (and_i (within 0 60_000 clock.smoothed) (within 0 60_000 clock.deviation) (up_to→within i.0) (up_to→within i.1))

first_in_range : {R : Float} → UpTo 60_000 R → InRange (first R)
unfolding InRange first
first_in_range r = (r, half_up_to 60_000 tt r)

-- 7/8 and 1/8 of 60,000 are 52,500 and 7,500; 3/4 and 1/4 are 45,000 and 15,000
later_in_range : (clock : Clock) {R : Float} → InRange clock → UpTo 60_000 R → InRange (later clock R)
unfolding InRange later 0·75 0·25 0·875 0·125 whole_number of_int div
later_in_range clock i r = (
  sum_up_to 52_500 7_500 tt
      (product_up_to 60_000 52_500 tt 7 (negsuc 2) (λ X Y h. omega arith) i.0)
      (product_up_to 60_000 7_500 tt 1 (negsuc 2) (λ X Y h. omega arith) r),
  sum_up_to 45_000 15_000 tt
      (product_up_to 60_000 45_000 tt 3 (negsuc 1) (λ X Y h. omega arith) i.1)
      (product_up_to 60_000 15_000 tt 1 (negsuc 1) (λ X Y h. omega arith) (distance_up_to 60_000 tt i.0 r)),
)

pub updated_good : (clock : Clock) (R : ℕ) → good_clock clock ≡ true → good_sample R ≡ true → good_clock (updated clock (whole_number R)) ≡ true
unfolding updated pick
updated_good clock R c s = in_range→good _ (go clock.sampled)
  where
    sample : UpTo 60_000 (whole_number R)
    sample = whole_up_to 60_000 tt R (leb-true R 60_000 s)

    go : (b : Bool) → InRange (pick b (later clock (whole_number R)) (first (whole_number R)))
    go true = later_in_range clock (good→in_range clock c) sample
    go false = first_in_range sample

-- a sample, taken or refused, leaves a good clock good
pub sample_good : (clock : Clock) (R : ℕ) → good_clock clock ≡ true → good_clock (sample_rule clock R).1 ≡ true
unfolding sample_rule
sample_good clock R c = go (good_sample R) refl
  where
    go : (b : Bool) → good_sample R ≡ b → good_clock (sample_rule clock R).1 ≡ true
    go true s = rw (yes _ _ _ (and_both c s)) (updated_good clock R c s)
    go false s = rw (c, s, no) c

pub new_good : good_clock new_clock ≡ true
new_good = unfold good_clock new_clock whole_number of_int le lt eq in refl
