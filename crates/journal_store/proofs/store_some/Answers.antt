-- `store_some` meets its contract: what refuses it in its order, or the entry's block, written at the first bad one whole or cut.
use mathlib.Core.Path.{sym, ap, ◌∙◌}
use Prim.Native.Nat.{ℕ, ◌+◌}
use Rattle.std.specs.Prelude.{Ok}
use Rattle.std.proofs.lemmas.Result.{err_from_is_err_and}
use Rattle.journal_rules.specs.Block.{journal_entry, block_of}
use Rattle.journal_region.proofs.Found.{tells_wrong, tells_bad, found_sized}
use Rattle.journal_store.proofs.Calls.{told, whole, has_room_lem, none_left, store_8, store_3, store_12, store_16, store_done}
use Rattle.journal_store.proofs.store_some.Goals as goal

pub returns-in_err-found : goal.returns-in_err-found
returns-in_err-found c =
    let a = c.args in
    let p = err_from_is_err_and c.from_residual.result c.from_residual.ensures.1 in
    let t = tells_wrong a.region.now _ (told a.region.now c.in_err-found.ensures (search whole)) in
    rw (p.1, p.2, t.why) (store_8 a.region.now (journal_entry a.number a.kind) a.stores t.not_sized)

pub returns-then-number-gt127 : goal.returns-then-number-gt127
returns-then-number-gt127 c =
    let a = c.args in
    let sized = found_sized a.region.now _ (told a.region.now c.in_ok-found.ensures (search whole)) in
    store_3 a.region.now (journal_entry a.number a.kind) a.stores sized c.if-number-gt127.true

pub returns-then-kind-gt3 : goal.returns-then-kind-gt3
returns-then-kind-gt3 c =
    let a = c.args in
    let sized = found_sized a.region.now _ (told a.region.now c.in_ok-found.ensures (search whole)) in
    store_12 a.region.now (journal_entry a.number a.kind) a.stores sized c.if-number-gt127.false c.if-kind-gt3.true

pub returns-in_default : goal.returns-in_default
returns-in_default c =
    let a = c.args in
    let n = none_left a.region.now _ (told a.region.now c.in_ok-found.ensures (search whole)) c.in_default.not-BadAt in
    store_16 a.region.now (journal_entry a.number a.kind) a.stores n.0 c.if-number-gt127.false c.if-kind-gt3.false n.1

pub write_block-requires-clause-low : goal.write_block-requires-clause-low
write_block-requires-clause-low c =
    (has_room_lem _ _ (tells_bad c.args.region.now _ (ap Ok (sym c.in-BadAt.is) ∙ told c.args.region.now c.in_ok-found.ensures (search whole)))).place

pub write_block-requires-clause-room : goal.write_block-requires-clause-room
write_block-requires-clause-room c =
    (has_room_lem _ _ (tells_bad c.args.region.now _ (ap Ok (sym c.in-BadAt.is) ∙ told c.args.region.now c.in_ok-found.ensures (search whole)))).block

pub returns : goal.returns
returns c =
    let a = c.args in
    let e = journal_entry a.number a.kind in
    let t = tells_bad a.region.now _ (ap Ok (sym c.in-BadAt.is) ∙ told a.region.now c.in_ok-found.ensures (search whole)) in
    let made = c.block_of-block.ensures ∙ ap (λ (n : ℕ). block_of (n + 1) e) c.from-serial.ensures in
    store_done a.region.now _ t e c.if-number-gt127.false c.if-kind-gt3.false a.stores _ _ made c.write_block.ensures.bytes _
    c.write_block.ensures.answer
