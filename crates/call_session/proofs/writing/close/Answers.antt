-- `close` meets its contract: the session's step, by the rule of the call.
use mathlib.Core.Path.{ap, ◌∙◌}
use lib.ListN.{length}
use Rattle.protocol.specs.Connection.{at, role_of}
use Rattle.protocol.specs.Ask.{close_ask}
use Rattle.protocol.specs.Call.{close_rule}
use Rattle.protocol.specs.Result.{in_room, close_call}
use Rattle.protocol.specs.Judge.{done, setting_session}
use Rattle.call_checks.specs.Stepped.{checks}
use Rattle.call_checks.proofs.Calls.{by_rule}
use Rattle.call_session.proofs.writing.close.Goals as goal

pub returns : goal.returns
unfolding close_call close_rule
returns c =
    let a = c.args in
    c.take_step_in.ensures
    ∙ ap (in_room a.c a.room.now)
    (by_rule (setting_session a.c a.n a.c.last done) (checks a.c a.n (length a.room.now)) (close_ask (role_of a.c.stage) (at a.c a.n)) (rw (c.session_at.ensures, c.role_of.ensures) at c.step_close-stepped.ensures))
