use mathlib.Core.Path.{◌≡◌, sym, ap, ◌∙◌}
use Prim.Native.Nat.{ℕ, ◌-◌}
use native.Mathlib.Omega.{arith}
use Rattle.journal_rules.specs.Region.{good, first_bad_from}
use Rattle.journal_rules.proofs.Regions.{sized_bounds, first_on, first_here, first_none}
use Rattle.journal_region.proofs.Found.{part_at, find_bad, find_good}
use Rattle.journal_region.proofs.search_blocks.Goals as goal

pub loop-place-init : goal.loop-place-init
loop-place-init c =
    let a = c.args in
    let b = sized_bounds a.region.now c.requires.0 in
    let z : a.blocks - 0 ≡ a.blocks = omega arith in
    record { inside = omega (arith, c.requires.1); onward = ap (λ (m : ℕ). first_bad_from m 0 a.region.now) z }

pub returns-then-not-is_good : goal.returns-then-not-is_good
returns-then-not-is_good c =
    let a = c.args in
    let p = c.requires in
    let k : ℕ = c.loop-place.place in
    let g = sym (c.is_good.ensures ∙ ap (good k) (part_at a.region.now k c.from-at.ensures)) ∙ c.if-not-is_good.true in
    let here = sym (first_here a.region.now a.blocks k c.loop-place-test.true g) ∙ c.loop-place.invariant.onward in
    find_bad a.region.now k p.0 (here ∙ ap (λ (n : ℕ). first_bad_from n 0 a.region.now) p.1) (omega (arith, p.1))

pub loop-place-preserved : goal.loop-place-preserved
loop-place-preserved c =
    let a = c.args in
    let k : ℕ = c.loop-place.place in
    let g = sym (c.is_good.ensures ∙ ap (good k) (part_at a.region.now k c.from-at.ensures)) ∙ c.if-not-is_good.false in
    record {
      inside = c.loop-place.invariant.inside;
      onward = sym (first_on a.region.now a.blocks k c.loop-place-test.true g) ∙ c.loop-place.invariant.onward;
    }

pub returns : goal.returns
returns c =
    let a = c.args in
    let p = c.requires in
    let end : c.loop-place.place ≡ a.blocks = omega arith in
    let none = sym (first_none a.region.now a.blocks c.loop-place.place c.loop-place-test.false) ∙ c.loop-place.invariant.onward in
    find_good a.region.now a.blocks p.0 p.1
    (sym (ap (λ (n : ℕ). first_bad_from n 0 a.region.now) p.1) ∙ sym none ∙ end ∙ p.1)
