-- `from_header` meets its contract: the test for 0 picks the case.
use Rattle.laws.proofs.Pick.{yes, no}
use Rattle.ration.specs.Ration.{from_header}
use mathlib.Core.Path.{sym}
use borrow.Author.Tests.{eq-eqb, ne_eqb}
use Rattle.ration.proofs.Ration.from_header.Goals as goal

pub returns-then-number-eq0 : goal.returns-then-number-eq0
unfolding from_header
returns-then-number-eq0 c = sym (yes _ _ _ (eq-eqb _ _ c.if-number-eq0.true))

pub returns : goal.returns
unfolding from_header
returns c = sym (no _ _ _ (ne_eqb _ _ c.if-number-eq0.false))
