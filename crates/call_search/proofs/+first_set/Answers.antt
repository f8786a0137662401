-- `first_set` meets its contract: the first flag that is set in a range is that of the lower half, or else that of the upper half.
use Rattle.std.proofs.Common.{sym, ap, ◌∙◌}
use Rattle.laws.proofs.Pick.{yes, no, via}
use Rattle.call_search.specs.Flags.{is_set, first_found}
use Rattle.call_search.proofs.Halves.{first_none, first_one, first_halves, or_at, or_nothing}
use Rattle.call_search.proofs.+first_set.Goals as goal

pub returns-then-count-eq0 : goal.returns-then-count-eq0
returns-then-count-eq0 t c =
    let a = c.args in
    let test = is_set a.flags.now in
    sym (ap (first_found test a.from) c.if-count-eq0.true ∙ first_none test a.from)

pub returns-then-is_set : goal.returns-then-is_set
returns-then-is_set t c =
    let a = c.args in
    let test = is_set a.flags.now in
    sym (ap (first_found test a.from) c.if-count-eq1.true ∙ first_one test a.from ∙ yes _ _ _ (via c.is_set.ensures c.if-is_set.true))

pub returns-then-count-eq1 : goal.returns-then-count-eq1
returns-then-count-eq1 t c =
    let a = c.args in
    let test = is_set a.flags.now in
    sym (ap (first_found test a.from) c.if-count-eq1.true ∙ first_one test a.from ∙ no _ _ _ (via c.is_set.ensures c.if-is_set.false))

pub returns-in-Some : goal.returns-in-Some
returns-in-Some t c =
    let a = c.args in
    let lower = c.first_set-lower.ensures in
    lower ∙ or_at _ _ _ (sym lower ∙ c.in-Some.is) ∙ first_halves (is_set a.flags.now) a.from a.count

pub returns-in-None : goal.returns-in-None
returns-in-None t c =
    let a = c.args in
    let lower = c.first_set-lower.ensures in
    c.first_set.ensures ∙ or_nothing _ _ (sym lower ∙ c.in-None.is) ∙ first_halves (is_set a.flags.now) a.from a.count
