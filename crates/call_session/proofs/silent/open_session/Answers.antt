-- `open_session` meets its contract: the session's step, by the rule of the call.
use mathlib.Core.Path.{ap, ◌∙◌}
use mathlib.Core.List.{[]}
use Rattle.protocol.specs.Judge.{done, setting_session}
use Rattle.protocol.specs.Plan.{take}
use Rattle.protocol.specs.Connection.{at, role_of}
use Rattle.protocol.specs.Ask.{open_ask}
use Rattle.protocol.specs.Call.{up_and_running, number_in, open_rule}
use Rattle.protocol.specs.Result.{given, open_call}
use Rattle.call_checks.proofs.Calls.{by_rule}
use Rattle.call_checks.proofs.Steps.{open_quiet, quiet}
use Rattle.call_session.proofs.silent.open_session.Goals as goal

pub take_step-requires : goal.take_step-requires
take_step-requires c = quiet _ (open_quiet c.role_of.result c.session_at.result) c.step_open-stepped.ensures

pub returns : goal.returns
unfolding open_call open_rule
returns c =
    let a = c.args in
    c.take_step.ensures
    ∙ ap (given a.c [])
    (by_rule (setting_session a.c a.n a.c.last done) (up_and_running a.c (number_in a.n (take tt))) (open_ask (role_of a.c.stage) (at a.c a.n)) (rw (c.session_at.ensures, c.role_of.ensures) at c.step_open-stepped.ensures))
