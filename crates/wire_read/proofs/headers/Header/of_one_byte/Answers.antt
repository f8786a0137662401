-- `of_one_byte` meets its contract: each byte of the table is a type, and what is left names none.
use Rattle.std.proofs.Common.{ap, refl, ◌∙◌, arith}
use Rattle.laws.specs.Result.{violation}
use Rattle.laws.proofs.Tests.{and_first}
use Rattle.wire.specs.declared.Kind.TheVariants as kind
use Rattle.wire.proofs.FirstBytes.{rest_unknown}
use Rattle.wire.proofs.Reading.{header_unknown}
use Rattle.wire_read.proofs.Order.{in_order_lem, whole_items, close_items, acknowledgment_items, no_operation, shutdown, ping, ping_ack, error, close, acknowledgment}
use Rattle.wire_read.proofs.headers.Header.of_one_byte.Goals as goal

pub returns-in-0 : goal.returns-in-0
returns-in-0 c =
    let a = c.args in
    c.whole.ensures
    ∙ in_order_lem a.from a.self.first a.self.second a.self.third a.self.fourth (omega arith) (omega arith) (omega arith) (omega arith) kind.NoOperation (no_operation c.in-0.is) _
    (λ t. whole_items a.self.first a.self.second a.self.third a.self.fourth (omega arith) (omega arith) (omega arith) (omega arith) c.number-n.ensures kind.NoOperation) refl

pub returns-in-2 : goal.returns-in-2
returns-in-2 c =
    let a = c.args in
    c.whole-in-2.ensures
    ∙ in_order_lem a.from a.self.first a.self.second a.self.third a.self.fourth (omega arith) (omega arith) (omega arith) (omega arith) kind.Shutdown (shutdown c.in-2.is) _
    (λ t. whole_items a.self.first a.self.second a.self.third a.self.fourth (omega arith) (omega arith) (omega arith) (omega arith) c.number-n.ensures kind.Shutdown) c.is_server-server.ensures

pub returns-in-4 : goal.returns-in-4
returns-in-4 c =
    let a = c.args in
    c.whole-in-4.ensures
    ∙ in_order_lem a.from a.self.first a.self.second a.self.third a.self.fourth (omega arith) (omega arith) (omega arith) (omega arith) kind.Ping (ping c.in-4.is) _
    (λ t. whole_items a.self.first a.self.second a.self.third a.self.fourth (omega arith) (omega arith) (omega arith) (omega arith) c.number-n.ensures kind.Ping) refl

pub returns-in-6 : goal.returns-in-6
returns-in-6 c =
    let a = c.args in
    c.whole-in-6.ensures
    ∙ in_order_lem a.from a.self.first a.self.second a.self.third a.self.fourth (omega arith) (omega arith) (omega arith) (omega arith) kind.PingAck (ping_ack c.in-6.is) _
    (λ t. whole_items a.self.first a.self.second a.self.third a.self.fourth (omega arith) (omega arith) (omega arith) (omega arith) c.number-n.ensures kind.PingAck) refl

pub returns-in-8 : goal.returns-in-8
returns-in-8 c =
    let a = c.args in
    c.whole-in-8.ensures
    ∙ in_order_lem a.from a.self.first a.self.second a.self.third a.self.fourth (omega arith) (omega arith) (omega arith) (omega arith) kind.Error (error c.in-8.is) _
    (λ t. whole_items a.self.first a.self.second a.self.third a.self.fourth (omega arith) (omega arith) (omega arith) (omega arith) c.number-n.ensures kind.Error) refl

pub returns-in-48 : goal.returns-in-48
returns-in-48 c =
    let a = c.args in
    c.bare.ensures
    ∙ in_order_lem a.from a.self.first a.self.second a.self.third a.self.fourth (omega arith) (omega arith) (omega arith) (omega arith) kind.Close (close c.in-48.is) _
    (λ t. close_items a.self.first a.self.second a.self.third a.self.fourth (omega arith) (omega arith) (omega arith) (omega arith) (and_first _ _ (and_first _ _ t))) c.is_server-server.ensures

pub returns-in-64 : goal.returns-in-64
returns-in-64 c =
    let a = c.args in
    c.bare-in-64.ensures
    ∙ in_order_lem a.from a.self.first a.self.second a.self.third a.self.fourth (omega arith) (omega arith) (omega arith) (omega arith) kind.Acknowledgment (acknowledgment c.in-64.is) _
    (λ t. acknowledgment_items a.self.first a.self.second a.self.third a.self.fourth (omega arith) (omega arith) (omega arith) (omega arith) (and_first _ _ (and_first _ _ t))) c.is_client-client.ensures

pub returns-in_default : goal.returns-in_default
returns-in_default c =
    let a = c.args in
    let r = c.in_default.in_default-own.rest in
    ap violation c.broken.ensures
    ∙ header_unknown a.from a.self.first a.self.second a.self.third a.self.fourth
    (rest_unknown _ (omega arith) c.requires
    (r.0.0.0.0.0.0.1, (r.0.0.0.0.0.1, (r.0.0.0.0.1, (r.0.0.0.1, (r.0.0.1, (r.0.1, (r.1, tt))))))))
