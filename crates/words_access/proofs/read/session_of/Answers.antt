-- `session_of` meets its contract: a phase in its range holds no more than a slot and a finish.
use Rattle.std.proofs.Common.{◌<◌, arith, rules}
use Rattle.words.specs.Session.{phases_end}
use Rattle.words.proofs.Sessions.{held_below}
use Rattle.words_access.proofs.read.session_of.Goals as goal

pub overflow_cast-result : goal.overflow_cast-result
overflow_cast-result c =
    let below : c.split-outcome.result.1 < phases_end = omega (arith, c.split-outcome.ensures.above, c.requires.2) in
    let held = held_below c.split-outcome.result.1 below in
    let small : c.split-finish.result.1 < 65_536 = omega (arith, c.split-finish.ensures.above, c.phase_of-sides.ensures.held, held) in
    search rules
