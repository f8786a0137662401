-- `take_header` meets its contract: each arm is a case of `header_taken`.
use Rattle.call_receive.proofs.Rules.{header_taken_lem}
use Rattle.call_receive.proofs.readings.take_header.Goals as goal

pub returns-in-Ok : goal.returns-in-Ok
returns-in-Ok c =
    let a = c.args in
    header_taken_lem a.c a.role c.in-Ok.is c.with_stage.ensures c.answering.ensures
