-- `put` meets its contract: the gate, then the session's step, then the slot.
use mathlib.Core.Path.{◌≡◌, refl, sym, ap, ◌∙◌}
use lib.ListN.{length}
use Rattle.protocol.specs.Plan.{take}
use Rattle.protocol.specs.Connection.{at}
use Rattle.protocol.specs.Ask.{put_ask}
use Rattle.protocol.specs.Judge.{done, setting_session}
use Rattle.protocol.specs.Call.{up_and_running, queue_of, number_in, asking, put_rule}
use Rattle.call_checks.specs.Gate.{gate_as}
use Rattle.call_checks.specs.Deciding.{decision}
use Rattle.call_checks.proofs.Calls.{step, passed, stopped}
use Rattle.call_put.specs.Put.{putting}
use Rattle.call_checks.proofs.Steps.{quiet}
use Rattle.call_put.proofs.Queued.{put_is, put_stopped}
use Rattle.call_put.proofs.put.Goals as goal

pub conclude_put-requires : goal.conclude_put-requires
unfolding put_ask
conclude_put-requires c = quiet (put_ask c.session_at-x.result _) (λ _ _. refl) c.step_put-stepped.ensures

pub returns-in-Ok : goal.returns-in-Ok
unfolding put_rule
returns-in-Ok c =
    let a = c.args in
    let same : c.session_at-x.result ≡ at a.c a.n = c.session_at-x.ensures in
    let effect = setting_session a.c a.n a.c.last done in
    let checks = up_and_running a.c (queue_of (length a.queue.now) (number_in a.n (take tt))) in
    rw same at c.conclude_put.ensures
    ∙ ap (putting a.c a.n (at a.c a.n).waiting a.src.now a.queue.now)
    (ap (decision effect) (rw same at c.step_put-stepped.ensures) ∙ step effect (put_ask (at a.c a.n) (length a.src.now))
    ∙ passed checks (asking a.c a.n (put_ask (at a.c a.n) (length a.src.now))) (sym (ap gate_as c.in-Ok.is) ∙ c.to_put.ensures))
    ∙ put_is a.c a.n a.src.now a.queue.now

pub returns-in-Err : goal.returns-in-Err
unfolding put_rule
returns-in-Err c =
    let a = c.args in
    let checks = up_and_running a.c (queue_of (length a.queue.now) (number_in a.n (take tt))) in
    put_stopped a.c a.n a.src.now a.queue.now c.refused.ensures
    (stopped checks (asking a.c a.n (put_ask (at a.c a.n) (length a.src.now))) (sym (ap gate_as c.in-Err.is) ∙ c.to_put.ensures))
