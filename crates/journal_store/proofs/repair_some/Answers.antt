-- `repair_some` meets its contract: a region of another size is refused, none is bad, or zeros are written at the first bad block.
use mathlib.Core.Path.{sym, ap, ◌∙◌}
use Rattle.std.specs.Prelude.{Ok}
use Rattle.std.proofs.lemmas.Result.{err_from_is_err_and}
use Rattle.journal_region.proofs.Found.{tells_wrong, tells_bad}
use Rattle.journal_store.proofs.Calls.{has_room_lem, none_left, repair_8, repair_none, repair_done}
use Rattle.journal_store.proofs.repair_some.Goals as goal

pub returns-in_err-place : goal.returns-in_err-place
returns-in_err-place c =
    let r = c.args.region.now in
    let p = err_from_is_err_and c.from_residual.result c.from_residual.ensures.1 in
    let t = tells_wrong r _ c.in_err-place.ensures in
    rw (p.1, p.2, t.why) (repair_8 r c.args.stores t.not_sized)

pub returns-in_default : goal.returns-in_default
returns-in_default c =
    let r = c.args.region.now in
    let n = none_left r _ c.in_ok-place.ensures c.in_default.not-BadAt in
    repair_none r c.args.stores n.0 n.1

pub write_block-requires-clause-low : goal.write_block-requires-clause-low
write_block-requires-clause-low c =
    (has_room_lem _ _ (tells_bad c.args.region.now _ (ap Ok (sym c.in-BadAt.is) ∙ c.in_ok-place.ensures))).place

pub write_block-requires-clause-room : goal.write_block-requires-clause-room
write_block-requires-clause-room c =
    (has_room_lem _ _ (tells_bad c.args.region.now _ (ap Ok (sym c.in-BadAt.is) ∙ c.in_ok-place.ensures))).block

pub returns : goal.returns
returns c =
    let r = c.args.region.now in
    let t = tells_bad r _ (ap Ok (sym c.in-BadAt.is) ∙ c.in_ok-place.ensures) in
    repair_done r _ t c.args.stores _ c.write_block.ensures.bytes _ c.write_block.ensures.answer
