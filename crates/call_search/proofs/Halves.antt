-- The first number of a range that passes a test, by the halves of the range; and the nearest number, by two ranges: from the following number up to 127, then below it.
use Rattle.std.specs.Prelude.{Some, None, Option}
use mathlib.Core.Path.{◌≡◌, refl, sym, ap, ap₂, ◌∙◌}
use mathlib.Core.Bool.{Bool, true, false}
use Prim.Native.Nat.{ℕ, zero, suc, ◌+◌, ◌-◌, ◌/◌, ◌≤◌, ◌<◌}
use native.Mathlib.Omega.{arith}
use Rattle.laws.specs.Pick.{pick}
use Rattle.laws.specs.Circle.{following}
use Rattle.laws.proofs.Circle.{following_lt}
use Rattle.call_search.specs.Flags.{first_found, nearest_found}
use Rattle.call_search.proofs.Steps.{searched, search_all}

-- the first, or the second if the first is nothing
abbrev pub or_else : Option ℕ → Option ℕ → Option ℕ
or_else None b = b
or_else (Some n) b = Some n

pub or_at : (a b : Option ℕ) (n : ℕ) → a ≡ Some n → a ≡ or_else a b
or_at a b n e = rw e

pub or_nothing : (a b : Option ℕ) → a ≡ None → b ≡ or_else a b
or_nothing a b e = rw e

or_pick : (b : Bool) (n : ℕ) (x y : Option ℕ) → pick b (Some n) (or_else x y) ≡ or_else (pick b (Some n) x) y
unfolding pick
or_pick true n x y = refl
or_pick false n x y = refl

below_127 : (i : ℕ) → i < 127 → following i ≡ suc i
unfolding following
below_127 i h = omega arith

after_127 : following 127 ≡ 0
unfolding following
after_127 = refl

module _ (test : ℕ → Bool) where
  pub first_none : (i : ℕ) → first_found test i 0 ≡ None
  unfolding first_found
  first_none i = refl

  pub first_one : (i : ℕ) → first_found test i 1 ≡ pick (test i) (Some i) None
  unfolding first_found
  first_one i = refl

  -- two ranges, one behind the other
  first_add : (i a b : ℕ) → first_found test i (a + b) ≡ or_else (first_found test i a) (first_found test (i + a) b)
  unfolding first_found
  first_add i zero b = ap₂ (first_found test) (let e : i ≡ i + 0 = omega arith in e) (let e : 0 + b ≡ b = omega arith in e)
  first_add i (suc a) b =
      let count : suc a + b ≡ suc (a + b) = omega arith in
      let start : suc i + a ≡ i + suc a = omega arith in
      ap (first_found test i) count
      ∙ ap (pick (test i) (Some i)) (first_add (suc i) a b ∙ ap (λ (k : ℕ). or_else (first_found test (suc i) a) (first_found test k b)) start)
      ∙ or_pick (test i) i (first_found test (suc i) a) (first_found test (i + suc a) b)

  pub first_halves : (i k : ℕ) → or_else (first_found test i (k / 2)) (first_found test (i + k / 2) (k - k / 2)) ≡ first_found test i k
  first_halves i k =
      let whole : k / 2 + (k - k / 2) ≡ k = omega arith in
      sym (first_add i (k / 2) (k - k / 2)) ∙ ap (first_found test i) whole

  -- a search that does not go past 127
  up_to_127 : (i s k : ℕ) → following i ≡ s → s + suc k ≤ 128 → searched test i (suc k) ≡ first_found test s (suc k)
  unfolding first_found searched
  up_to_127 i s zero e h = rw e
  up_to_127 i s (suc k) e h = rw e (ap (pick (test s) (Some s)) (up_to_127 s (suc s) k (below_127 s (omega arith)) (omega arith)))

  -- a search that goes on at 0 after 127
  past_127 : (i s a b : ℕ) → following i ≡ s → s + suc a ≡ 128 → searched test i (suc a + b) ≡ or_else (first_found test s (suc a)) (searched test 127 b)
  unfolding first_found searched
  past_127 i s zero b e h =
      let last : s ≡ 127 = omega arith in
      ap (searched test i) (let n : 1 + b ≡ suc b = omega arith in n)
      ∙ rw (e, last) (or_pick (test 127) 127 None (searched test 127 b))
  past_127 i s (suc a) b e h =
      ap (searched test i) (let n : suc (suc a) + b ≡ suc (suc a + b) = omega arith in n)
      ∙ rw e
      (ap (pick (test s) (Some s)) (past_127 s (suc s) a b (below_127 s (omega arith)) (omega arith))
      ∙ or_pick (test s) s (first_found test (suc s) (suc a)) (searched test 127 b))

  from_0 : (k : ℕ) → k ≤ 128 → searched test 127 k ≡ first_found test 0 k
  unfolding first_found searched
  from_0 zero h = refl
  from_0 (suc k) h = up_to_127 127 0 k after_127 (omega arith)

  -- the numbers from s up to 127, then those below s
  pub two_ranges : (i s : ℕ) → following i ≡ s → or_else (first_found test s (128 - s)) (first_found test 0 s) ≡ nearest_found test i
  two_ranges i s e =
      let small : following i < 128 = following_lt i in
      let upper : suc (127 - s) ≡ 128 - s = omega (arith, e) in
      let all : suc (127 - s) + s ≡ 128 = omega (arith, e) in
      ap (λ (k : ℕ). or_else (first_found test s k) (first_found test 0 s)) (sym upper)
      ∙ ap (or_else (first_found test s (suc (127 - s)))) (sym (from_0 s (omega (arith, e))))
      ∙ sym (past_127 i s (127 - s) s e (omega (arith, e))) ∙ ap (searched test i) all ∙ search_all test i
