-- `read_entries` meets its contract: a region of another size is refused, and of any other it gives the entries before the first bad block.
use mathlib.Core.Path.{sym, ap, ◌∙◌}
use Rattle.std.specs.Prelude.{Ok}
use Rattle.std.proofs.lemmas.Result.{err_from_is_err_and}
use Rattle.laws.specs.Result.{ok}
use Rattle.laws.proofs.Pick.{yes, no}
use Rattle.journal_rules.specs.Calls.{read_call}
use Rattle.journal_region.proofs.Found.{tells_wrong, tells_bad, tells_good, found_sized}
use Rattle.journal_read.proofs.read_entries.Goals as goal
use Rattle.journal_read.proofs.read_entries.Goals.{in-BadAt, in-AllGood}

pub returns-in_err-place : goal.returns-in_err-place
unfolding read_call
returns-in_err-place c =
    let r = c.args.region.now in
    let p = err_from_is_err_and c.from_residual.result c.from_residual.ensures.1 in
    let t = tells_wrong r _ c.in_err-place.ensures in
    rw (p.1, p.2, t.why) (sym (no _ _ _ t.not_sized))

pub entries_before-requires : goal.entries_before-requires
entries_before-requires c =
    let r = c.args.region.now in
    elim c.match-branch-2.branch [
      | in-BadAt w ↦
          let t = tells_bad r _ (ap Ok (sym w.in-BadAt.is) ∙ c.in_ok-place.ensures) in (t.is_sized_lem, w.count-is ∙ t.place)
      | in-AllGood w ↦
          let t = tells_good r _ (ap Ok (sym w.in-AllGood.is) ∙ c.in_ok-place.ensures) in (t.is_sized_lem, w.count-is ∙ t.place)
    ]

pub returns : goal.returns
unfolding read_call
returns c =
    let r = c.args.region.now in
    ap ok c.entries_before.ensures ∙ sym (yes _ _ _ (found_sized r _ c.in_ok-place.ensures))
