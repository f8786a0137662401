use mathlib.Core.Path.{ap, sym, ◌∙◌}
use Rattle.journal_rules.specs.Listing.{is_answered}
use Rattle.journal_read.proofs.Steps.{from_end, answered_here, answered_other, answered_later}
use Rattle.journal_read.proofs.is_answered.Goals as goal
use Rattle.journal_read.proofs.is_answered.Goals.{else-entry-number-via-then-entry-number+else-entry-lt3, else-entry-number-via-else-entry-number}

pub returns-then-entry-lt3 : goal.returns-then-entry-lt3
returns-then-entry-lt3 c =
    let a = c.args in
    answered_here a.later.now c.loop-entry.entry-index _ c.loop-entry-test.true a.number c.if-entry-number.true c.if-entry-lt3.true
    ∙ c.loop-entry.invariant

pub loop-entry-preserved : goal.loop-entry-preserved
loop-entry-preserved c =
    let a = c.args in
    let i = c.loop-entry.entry-index in
    elim c.else-entry-number.branch [
      | else-entry-number-via-then-entry-number+else-entry-lt3 w ↦
          answered_later a.later.now i _ c.loop-entry-test.true a.number w.if-entry-number.true w.if-entry-lt3.false
      | else-entry-number-via-else-entry-number w ↦
          answered_other a.later.now i _ c.loop-entry-test.true a.number w.if-entry-number.false
    ] ∙ c.loop-entry.invariant

pub returns : goal.returns
unfolding is_answered
returns c =
    let a = c.args in
    ap (is_answered a.number) (sym (from_end c.loop-entry.entry-index a.later.now c.loop-entry-test.false)) ∙ c.loop-entry.invariant
