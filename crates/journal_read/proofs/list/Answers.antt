-- `list` meets its contract: a region that cannot be read is refused, and of any other it gives the starts among its entries.
use mathlib.Core.Path.{ap, ◌∙◌}
use mathlib.Core.List.{List, map}
use Rattle.std.proofs.lemmas.Result.{err_from_is_err_and}
use Rattle.laws.specs.Result.{ok}
use Rattle.journal_rules.specs.Listing.{not_to_retry}
use Rattle.journal_read.specs.declared.Entry.{Entry}
use Rattle.journal_read.specs.Answers.{entry_as}
use Rattle.journal_read.proofs.Steps.{listed, not_listed}
use Rattle.journal_read.proofs.list.Goals as goal

pub returns-in_err-entries : goal.returns-in_err-entries
returns-in_err-entries c =
    let p = err_from_is_err_and c.from_residual.result c.from_residual.ensures.1 in
    rw (p.1, p.2) (not_listed c.args.region.now _ c.in_err-entries.ensures)

pub returns : goal.returns
returns c =
    ap ok (c.open_starts.ensures ∙ ap (λ (es : List Entry). not_to_retry 0 (map entry_as es)) c.as_slice.ensures.value)
    ∙ listed c.args.region.now _ c.in_ok-entries.ensures
