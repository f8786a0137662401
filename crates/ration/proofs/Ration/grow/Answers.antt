-- `grow` meets its contract: the test of the sum picks the case.
use Rattle.std.specs.Prelude.{◌+◌, ◌≤◌, ◌<◌}
use native.Mathlib.Omega.{arith}
use Rattle.ration.specs.Ration.{largest, grow}
use Rattle.laws.specs.Pick.{pick}
use borrow.Author.Tests.{le-leb, lt-leb}
use Rattle.ration.proofs.Ration.grow.Goals as goal

pub returns-in-Some : goal.returns-in-Some
unfolding grow pick
returns-in-Some c =
    let e = c.in-Some.ensures.1 in
    let h : c.in-Finite.left + c.args.n ≤ largest = omega arith in
    simp (c.in-Finite.is, le-leb _ _ h, e)

pub returns-in_default : goal.returns-in_default
unfolding grow pick
returns-in_default c =
    let e = c.in-Some.ensures.1 in
    let h : largest < c.in-Finite.left + c.args.n = omega arith in
    simp (c.in-Finite.is, lt-leb _ _ h)

pub returns-in_default-2 : goal.returns-in_default-2
unfolding grow pick
returns-in_default-2 c =
    let wide = c.in_default.ensures in
    let h : largest < c.in-Finite.left + c.args.n = omega arith in
    simp (c.in-Finite.is, lt-leb _ _ h)

pub returns-in-Endless : goal.returns-in-Endless
unfolding grow pick
returns-in-Endless c = simp c.in-Endless.is
