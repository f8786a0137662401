use Rattle.std.proofs.Common.{◌≡◌, ℕ, List, get_or, ap, ◌∙◌}
use Rattle.connection.specs.Cause.{cause_as}
use Rattle.words_access.specs.Access.{ended_status}
use Rattle.words_access.proofs.Columns.{up_to_more, up_to_at, up_to_all}
use Rattle.words_access.proofs.ending.end_statuses.Goals as goal

pub loop-status-preserved : goal.loop-status-preserved
loop-status-preserved c =
    let w = c.args.statuses.now in
    let i = c.loop-status.status-index in
    let f = ended_status (cause_as c.args.cause) in
    let e : c.ended_status.result ≡ ended_status (cause_as c.args.cause) (get_or w i 0) =
    c.ended_status.ensures ∙ ap f (ap (λ (l : List ℕ). get_or l i 0) c.loop-status.invariant ∙ up_to_at f i w) in
    rw (e, c.loop-status.invariant) (up_to_more f i w c.loop-status-test.true)

pub returns : goal.returns
returns c =
    c.loop-status.invariant ∙ up_to_all (ended_status (cause_as c.args.cause)) c.loop-status.status-index c.args.statuses.now c.loop-status-test.false
