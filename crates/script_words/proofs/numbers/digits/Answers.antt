-- Fewer than nine digits have room for one more.
use Rattle.std.proofs.Common.{◌<◌, arith}
use Rattle.script_words.proofs.Values.{has_room_lem}
use Rattle.script_words.proofs.numbers.digits.Goals as goal

pub overflow_mul-value : goal.overflow_mul-value
overflow_mul-value c =
    let room : c.loop-b.value < 100_000_000 = has_room_lem _ c.loop-b.b-index (omega arith) (omega arith) in
    omega arith

pub overflow_add-value : goal.overflow_add-value
overflow_add-value c =
    let room : c.loop-b.value < 100_000_000 = has_room_lem _ c.loop-b.b-index (omega arith) (omega arith) in
    omega arith
