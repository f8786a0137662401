use mathlib.Core.Path.{refl, sym, ap, ap₂, ◌∙◌}
use mathlib.Core.Bool.{Bool, false, ◌&&◌}
use native.Mathlib.Omega.{arith}
use lib.ListN.{get_or}
use Rattle.state.specs.New.{blank}
use Rattle.protocol.specs.Result.{answer_as}
use Rattle.journal_history.specs.Due.{DueEntry, due_for}
use Rattle.journal_history.specs.Keep.{keep_due}
use Rattle.journal_keep.specs.Answers.{work_as}
use Rattle.journal_keep.proofs.Steps.{one_more, none_left}
use borrow.Author.Rules.{rules}
use Rattle.journal_keep.proofs.keep_table.Goals as goal

pub loop-n-init : goal.loop-n-init
loop-n-init c = record { sized = refl; table = search rules; opens = c.has_open-open.ensures; onward = refl }

pub loop-n-preserved : goal.loop-n-preserved
loop-n-preserved c =
    let l = c.loop-n in
    let a = c.args in
    let v = l.invariant in
    let w = work_as l.work l.region in
    let x = get_or a.table l.n blank in
    record {
      sized = search rules;
      table = v.table;
      opens = v.opens;
      onward =
          one_more a.table (answer_as a.answer) a.written.now l.n c.loop-n-test.true w (work_as c.keep_due-work.result c.keep_due-work.new.region)
          (c.keep_due-work.ensures
          ∙ ap (λ (d : DueEntry). keep_due l.n d w)
          (c.due_for-due.ensures
          ∙ ap (λ (t : Bool). due_for t (get_or w.starts l.n false) x) (ap₂ ◌&&◌ c.is_served-served.ensures v.opens)))
          ∙ v.onward;
    }

pub shape_of-region : goal.shape_of-region
shape_of-region c = c.loop-n.invariant.sized

pub returns : goal.returns
returns c =
    let l = c.loop-n in
    let a = c.args in
    sym (none_left a.table (answer_as a.answer) a.written.now l.n (work_as l.work l.region) (omega (arith, c.loop-n-test.false))) ∙ l.invariant.onward
