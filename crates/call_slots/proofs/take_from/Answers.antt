-- `take_from` meets its contract: the tests pick the case, and the slot comes back in its place.
use mathlib.Core.Path.{ap, ◌∙◌}
use native.Mathlib.Omega.{arith}
use lib.ListN.{length}
use Rattle.laws.proofs.Pick.{via}
use Rattle.protocol.proofs.Slots.{slot_length}
use Rattle.call_slots.proofs.Parts.{servable_has, slot_part, take_from_is, take_too_many, take_unserved}
use Rattle.call_slots.proofs.take_from.Goals as goal

pub slice_bounds-take_first-end : goal.slice_bounds-take_first-end
slice_bounds-take_first-end c =
    let a = c.args in
    let s = servable_has (length a.queue.now) a.n a.waiting (via c.is_servable.ensures.value c.if-is_servable.true) in
    omega (arith, c.slot_start-start.ensures, s.whole, s.number)

pub take_first-requires : goal.take_first-requires
take_first-requires c =
    let a = c.args in
    let s = servable_has (length a.queue.now) a.n a.waiting (via c.is_servable.ensures.value c.if-is_servable.true) in
    record {
      whole = ap length (slot_part a.n a.queue.now c.slot_start-start.ensures) ∙ slot_length a.n a.queue.now s.number s.whole;
      within = s.within;
      enough = c.if-count-waiting.true;
    }

pub returns-then-count-waiting : goal.returns-then-count-waiting
returns-then-count-waiting c =
    let a = c.args in
    take_from_is a.n a.queue.now c.slot_start-start.ensures a.waiting (via c.is_servable.ensures.value c.if-is_servable.true) a.count c.if-count-waiting.true
    c.take_first.ensures

pub returns-else-count-waiting : goal.returns-else-count-waiting
returns-else-count-waiting c =
    let a = c.args in
    take_too_many a.n a.queue.now a.waiting (via c.is_servable.ensures.value c.if-is_servable.true) a.count c.if-count-waiting.false

pub returns-else-is_servable : goal.returns-else-is_servable
returns-else-is_servable c =
    let a = c.args in
    take_unserved a.n a.queue.now a.waiting a.count (via c.is_servable.ensures.value c.if-is_servable.false)
