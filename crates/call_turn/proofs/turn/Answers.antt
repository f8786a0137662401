-- `turn` meets its contract: the gate, then the number that the search finds is served.
use mathlib.Core.Path.{sym, ap, ◌∙◌}
use lib.ListN.{length}
use Rattle.connection_check.proofs.Sessions.{waiting_fits_lem}
use Rattle.call_checks.specs.Gate.{gate_as}
use Rattle.call_turn.proofs.Ready.{found_next, found_none}
use Rattle.call_turn.proofs.Served.{gate_has}
use Rattle.call_turn.proofs.Whole.{next_number, turn_stopped, turn_none, turn_served}
use Rattle.call_turn.proofs.turn.Goals as goal

pub serve-requires : goal.serve-requires
serve-requires c =
    let a = c.args in
    let b = gate_has a.c (length a.queue.now) (length a.room.now) (sym (ap gate_as c.in_default.is) ∙ c.to_turn.ensures) in
    let next = found_next a.c (rw c.ready_flags.ensures at c.nearest_set.ensures) c.in-Some.is in
    (next_number a.c b.formed next, waiting_fits_lem a.c _ b.formed, b.whole, b.roomy)

pub returns-in-None : goal.returns-in-None
returns-in-None c =
    let a = c.args in
    let none = found_none a.c (rw c.ready_flags.ensures at c.nearest_set.ensures) c.in-None.is in
    turn_none a.c a.queue.now a.room.now (sym (ap gate_as c.in_default.is) ∙ c.to_turn.ensures) none c.refused-in-None.ensures

pub returns-in-Some : goal.returns-in-Some
returns-in-Some c =
    let a = c.args in
    let next = found_next a.c (rw c.ready_flags.ensures at c.nearest_set.ensures) c.in-Some.is in
    turn_served a.c a.queue.now a.room.now (sym (ap gate_as c.in_default.is) ∙ c.to_turn.ensures) next c.serve.ensures

pub returns-in-Err : goal.returns-in-Err
returns-in-Err c =
    let a = c.args in
    turn_stopped a.c a.queue.now a.room.now (sym (ap gate_as c.in-Err.is) ∙ c.to_turn.ensures) c.refused.ensures
