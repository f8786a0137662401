-- `parse` meets its contract, by the ranges of the table of first bytes.
use Rattle.std.proofs.Common.{ap, ◌∙◌, arith}
use Rattle.laws.specs.Result.{violation}
use Rattle.wire.proofs.FirstBytes.{odd_unknown, increment_ranged, abort_ranged, data_ranged}
use Rattle.wire.proofs.Reading.{header_unknown}
use Rattle.wire_read.proofs.headers.Header.parse.Goals as goal

pub returns-then-self-eq1 : goal.returns-then-self-eq1
returns-then-self-eq1 c =
    let a = c.args in
    ap violation c.broken.ensures
    ∙ header_unknown a.from a.self.first a.self.second a.self.third a.self.fourth (odd_unknown _ (omega arith) c.if-self-eq1.true)

pub data-requires : goal.data-requires
data-requires c = data_ranged _ (omega arith) c.if-self-eq1.false c.if-self-eq4.true

pub increment_ration-requires : goal.increment_ration-requires
increment_ration-requires c = increment_ranged _ (omega arith) c.if-self-eq1.false c.if-self-eq1-2.true

pub abort-requires : goal.abort-requires
abort-requires c = abort_ranged _ (omega arith) c.if-self-eq1.false c.if-self-eq8.true
