-- `increment_ration` meets its contract: one law for each way through its checks.
use Rattle.std.proofs.Common.{◌≡◌, Err, rules, ap, refl, ◌∙◌, arith}
use Rattle.laws.specs.Result.{violation}
use Rattle.wire.specs.declared.Kind.TheVariants as kind
use Rattle.wire_read.proofs.Order.{arm_reserved, arm_taken, increment_items}
use Rattle.wire_read.proofs.headers.Header.increment_ration.Goals as goal

pub returns-in_err-session : goal.returns-in_err-session
returns-in_err-session c =
    let a = c.args in
    let told : c.from_residual.result ≡ Err c.in_err-session.field-0.0 = search rules in
    rw told
    (ap violation c.in_err-session.ensures.0
    ∙ arm_reserved a.from a.self.first a.self.second a.self.third a.self.fourth (omega arith) (omega arith) (omega arith) (omega arith) kind.IncrementRation c.requires _
    (λ t. increment_items a.self.first a.self.second a.self.third a.self.fourth (omega arith) (omega arith) (omega arith) (omega arith) t _ _ refl refl) c.in_err-session.ensures.1)

pub returns : goal.returns
returns c =
    let a = c.args in
    arm_taken a.from a.self.first a.self.second a.self.third a.self.fourth (omega arith) (omega arith) (omega arith) (omega arith) kind.IncrementRation c.requires _
    (λ t. increment_items a.self.first a.self.second a.self.third a.self.fourth (omega arith) (omega arith) (omega arith) (omega arith) t _ _ c.in_ok-session.ensures.0 c.number.ensures) c.in_ok-session.ensures.1 refl refl

pub invariant_of-result : goal.invariant_of-result
invariant_of-result c = record { right = refl }
