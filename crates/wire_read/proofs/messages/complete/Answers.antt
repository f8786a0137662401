-- `complete` meets its contract: the test of the size picks the case.
use Rattle.wire_read.proofs.Order.{body_fits, body_short}
use Rattle.wire_read.proofs.messages.complete.Goals as goal

pub returns-then-size-have : goal.returns-then-size-have
returns-then-size-have c = body_fits _ _ _ c.args.parsed.right c.if-size-have.true

pub returns-else-size-have : goal.returns-else-size-have
returns-else-size-have c = body_short _ _ c.args.parsed.message c.args.parsed.right c.if-size-have.false
