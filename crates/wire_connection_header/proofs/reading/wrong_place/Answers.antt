-- `wrong_place` meets its contract: the first arm that fits is that of the first wrong byte.
use Rattle.std.proofs.Common.{arith}
use Rattle.wire_connection_header.proofs.Places.{at_0, at_1, at_2, at_3, at_4, at_7}
use Rattle.wire_connection_header.proofs.reading.wrong_place.Goals as goal

pub returns-in-74-2 : goal.returns-in-74-2
returns-in-74-2 c = at_7 c.args.bytes.now (λ i. (c.type_inv.bytes i).fits) (omega arith) (omega arith) (omega arith) (omega arith) (omega arith) (λ q. omega arith)

pub returns-in-74-3 : goal.returns-in-74-3
returns-in-74-3 c = at_4 c.args.bytes.now (λ i. (c.type_inv.bytes i).fits) (omega arith) (omega arith) (omega arith) (omega arith) (λ q. omega arith)

pub returns-in-74-3-2 : goal.returns-in-74-3-2
returns-in-74-3-2 c = at_4 c.args.bytes.now (λ i. (c.type_inv.bytes i).fits) (omega arith) (omega arith) (omega arith) (omega arith) (λ q. omega arith)

pub returns-in-74-4 : goal.returns-in-74-4
returns-in-74-4 c = at_3 c.args.bytes.now (λ i. (c.type_inv.bytes i).fits) (omega arith) (omega arith) (omega arith) (λ q. omega arith)

pub returns-in-74-4-3 : goal.returns-in-74-4-3
returns-in-74-4-3 c = at_3 c.args.bytes.now (λ i. (c.type_inv.bytes i).fits) (omega arith) (omega arith) (omega arith) (λ q. omega arith)

pub returns-in-74-5 : goal.returns-in-74-5
returns-in-74-5 c = at_2 c.args.bytes.now (λ i. (c.type_inv.bytes i).fits) (omega arith) (omega arith) (λ q. omega arith)

pub returns-in-74-5-4 : goal.returns-in-74-5-4
returns-in-74-5-4 c = at_2 c.args.bytes.now (λ i. (c.type_inv.bytes i).fits) (omega arith) (omega arith) (λ q. omega arith)

pub returns-in-74-6 : goal.returns-in-74-6
returns-in-74-6 c = at_1 c.args.bytes.now (λ i. (c.type_inv.bytes i).fits) (omega arith) (λ q. omega arith)

pub returns-in-74-6-5 : goal.returns-in-74-6-5
returns-in-74-6-5 c = at_1 c.args.bytes.now (λ i. (c.type_inv.bytes i).fits) (omega arith) (λ q. omega arith)

pub returns-in_default : goal.returns-in_default
returns-in_default c = at_0 c.args.bytes.now (λ i. (c.type_inv.bytes i).fits) (λ q. omega arith)

pub returns-in_default-6 : goal.returns-in_default-6
returns-in_default-6 c = at_0 c.args.bytes.now (λ i. (c.type_inv.bytes i).fits) (λ q. omega arith)
