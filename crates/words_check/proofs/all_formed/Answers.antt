-- `all_formed` meets its contract: the rations are in their ranges, and then the statuses.
use Rattle.words_check.proofs.Formed.{statuses_decide, rations_decide}
use Rattle.words_check.proofs.all_formed.Goals as goal

pub returns-then-are_below : goal.returns-then-are_below
returns-then-are_below c =
    let a = c.args in
    statuses_decide a.role a.up a.state.now c.told-state c.status_limit.result c.status_limit.ensures.0 c.are_below-then-are_below.result
    (c.are_below.ensures.0 c.if-are_below.true) c.are_below-then-are_below.ensures

pub returns-else-are_below : goal.returns-else-are_below
returns-else-are_below c =
    let a = c.args in
    rations_decide a.role a.up a.state.now c.told-state c.are_below.result c.are_below.ensures c.if-are_below.false
