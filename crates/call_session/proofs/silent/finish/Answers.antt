-- `finish` meets its contract: the session's step, by the rule of the call.
use mathlib.Core.Path.{refl, ap, ◌∙◌}
use mathlib.Core.List.{[]}
use Rattle.protocol.specs.Judge.{done, setting_session}
use Rattle.protocol.specs.Plan.{take}
use Rattle.protocol.specs.Connection.{at}
use Rattle.protocol.specs.Ask.{finish_ask}
use Rattle.protocol.specs.Call.{up_and_running, number_in, finish_rule}
use Rattle.protocol.specs.Result.{given, finish_call}
use Rattle.call_checks.proofs.Calls.{by_rule}
use Rattle.call_checks.proofs.Steps.{quiet}
use Rattle.call_session.proofs.silent.finish.Goals as goal

pub take_step-requires : goal.take_step-requires
unfolding finish_ask
take_step-requires c = quiet (finish_ask c.session_at.result) (λ _. refl) c.step_finish-stepped.ensures

pub returns : goal.returns
unfolding finish_call finish_rule
returns c =
    let a = c.args in
    c.take_step.ensures
    ∙ ap (given a.c [])
    (by_rule (setting_session a.c a.n a.c.last done) (up_and_running a.c (number_in a.n (take tt))) (finish_ask (at a.c a.n)) (rw c.session_at.ensures at c.step_finish-stepped.ensures))
