-- `spend` meets its contract: the test of the length picks the case.
use Rattle.ration.specs.Ration.{spend}
use Rattle.laws.specs.Pick.{pick}
use borrow.Author.Tests.{le-leb, lt-leb}
use Rattle.ration.proofs.Ration.spend.Goals as goal

pub returns-in-Finite : goal.returns-in-Finite
unfolding spend pick
returns-in-Finite c = simp (c.in-Finite.is, le-leb _ _ c.if-n-left.true)

pub returns-in-Finite-2 : goal.returns-in-Finite-2
unfolding spend pick
returns-in-Finite-2 c = simp (c.in-Finite.is, lt-leb _ _ c.if-n-left.false)

pub returns-in-Endless : goal.returns-in-Endless
unfolding spend pick
returns-in-Endless c = simp c.in-Endless.is
