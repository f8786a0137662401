-- `put_into` meets its contract: the tests pick the case, and the slot comes back in its place.
use mathlib.Core.Path.{ap, ◌∙◌}
use native.Mathlib.Omega.{arith}
use lib.ListN.{length}
use Rattle.laws.proofs.Pick.{via}
use Rattle.protocol.proofs.Slots.{slot_length}
use Rattle.call_slots.proofs.Parts.{servable_has, slot_part, put_into_is, put_too_many, put_unserved}
use Rattle.call_slots.proofs.put_into.Goals as goal

pub slice_bounds-put_behind-end : goal.slice_bounds-put_behind-end
slice_bounds-put_behind-end c =
    let a = c.args in
    let s = servable_has (length a.queue.now) a.n a.waiting (via c.is_servable.ensures.value c.if-is_servable.true) in
    omega (arith, c.slot_start-start.ensures, s.whole, s.number)

pub put_behind-requires : goal.put_behind-requires
put_behind-requires c =
    let a = c.args in
    let s = servable_has (length a.queue.now) a.n a.waiting (via c.is_servable.ensures.value c.if-is_servable.true) in
    record {
      whole = ap length (slot_part a.n a.queue.now c.slot_start-start.ensures) ∙ slot_length a.n a.queue.now s.number s.whole;
      fits = omega (arith, s.within, c.if-src-waiting.true);
    }

pub returns-then-src-waiting : goal.returns-then-src-waiting
returns-then-src-waiting c =
    let a = c.args in
    put_into_is a.n a.queue.now c.slot_start-start.ensures a.waiting (via c.is_servable.ensures.value c.if-is_servable.true) a.src.now c.if-src-waiting.true
    c.put_behind.ensures

pub returns-else-src-waiting : goal.returns-else-src-waiting
returns-else-src-waiting c =
    let a = c.args in
    put_too_many a.n a.queue.now a.waiting (via c.is_servable.ensures.value c.if-is_servable.true) a.src.now c.if-src-waiting.false

pub returns-else-is_servable : goal.returns-else-is_servable
returns-else-is_servable c =
    let a = c.args in
    put_unserved a.n a.queue.now a.waiting a.src.now (via c.is_servable.ensures.value c.if-is_servable.false)
