-- `bare` meets its contract: one law for each way through its checks.
use Rattle.std.proofs.Common.{◌≡◌, Err, rules, ap, ◌∙◌}
use Rattle.laws.specs.Result.{violation}
use Rattle.wire_read.proofs.Order.{bare_second, bare_third, bare_fourth, bare_clear_lem}
use Rattle.wire_read.proofs.headers.Header.bare.Goals as goal

pub returns-in_err-session : goal.returns-in_err-session
returns-in_err-session c =
    let a = c.args in
    let told : c.from_residual.result ≡ Err c.in_err-session.field-0.0 = search rules in
    rw told
    (ap violation c.in_err-session.ensures.0
    ∙ bare_second a.allowed a.self.second a.self.third a.self.fourth a.message c.in_err-session.ensures.1)

pub returns-then-self-ne0 : goal.returns-then-self-ne0
returns-then-self-ne0 c =
    let a = c.args in
    ap violation c.broken.ensures
    ∙ bare_third a.allowed a.self.second a.self.third a.self.fourth a.message c.in_ok-session.ensures.1 c.if-self-ne0.true

pub returns-then-self-ne0-2 : goal.returns-then-self-ne0-2
returns-then-self-ne0-2 c =
    let a = c.args in
    ap violation c.broken-then-self-ne0-2.ensures
    ∙ bare_fourth a.allowed a.self.second a.self.third a.self.fourth a.message c.in_ok-session.ensures.1 c.if-self-ne0.false c.if-self-ne0-2.true

pub returns : goal.returns
returns c =
    let a = c.args in
    c.if_sent.ensures
    ∙ bare_clear_lem a.allowed a.self.second a.self.third a.self.fourth a.message c.in_ok-session.ensures.1 c.if-self-ne0.false c.if-self-ne0-2.false
