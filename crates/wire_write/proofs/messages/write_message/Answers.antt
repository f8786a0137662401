-- `write_message` meets its contract: one law for each way through the checks.
use Rattle.std.proofs.Common.{arith}
use Rattle.laws.proofs.Pick.{via}
use Rattle.wire.proofs.Writing.{put_wrote, put_none, write_refused}
use Rattle.wire_write.proofs.messages.write_message.Goals as goal

pub returns-then-not-may_write : goal.returns-then-not-may_write
returns-then-not-may_write c = write_refused _ _ _ _ (via c.may_write.ensures c.if-not-may_write.true)

pub returns-in-0 : goal.returns-in-0
returns-in-0 c = put_none _ _ _ _ (via c.may_write.ensures c.if-not-may_write.false) c.put_message.ensures (omega arith)

pub returns-in_default : goal.returns-in_default
returns-in_default c = put_wrote _ _ _ _ (via c.may_write.ensures c.if-not-may_write.false) c.put_message.ensures (omega arith)
