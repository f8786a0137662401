-- `nearest_set` meets its contract: what the first range names, or else the second one, is the nearest number.
use mathlib.Core.Path.{sym, ◌∙◌}
use native.Mathlib.Omega.{arith}
use Rattle.call_search.specs.Flags.{is_set}
use Rattle.laws.proofs.Circle.{following_lt}
use Rattle.call_search.proofs.Halves.{or_at, or_nothing, two_ranges}
use Rattle.call_search.proofs.nearest_set.Goals as goal

pub first_set-after-requires : goal.first_set-after-requires
first_set-after-requires c = omega (arith, c.following-start.ensures, following_lt c.args.last)

pub first_set-requires : goal.first_set-requires
first_set-requires c =
    omega (arith, c.following-start.ensures, following_lt c.args.last)

pub returns-in-Some : goal.returns-in-Some
returns-in-Some c =
    let a = c.args in
    let after = c.first_set-after.ensures in
    after ∙ or_at _ _ _ (sym after ∙ c.in-Some.is)
    ∙ two_ranges (is_set a.flags.now) a.last _ (sym c.following-start.ensures)

pub returns-in-None : goal.returns-in-None
returns-in-None c =
    let a = c.args in
    let after = c.first_set-after.ensures in
    c.first_set.ensures ∙ or_nothing _ _ (sym after ∙ c.in-None.is)
    ∙ two_ranges (is_set a.flags.now) a.last _ (sym c.following-start.ensures)

pub overflow_sub-start : goal.overflow_sub-start
overflow_sub-start c = omega (arith, c.following-start.ensures, following_lt c.args.last)
