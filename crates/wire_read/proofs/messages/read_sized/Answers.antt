-- `read_sized` meets its contract, by the laws of short and long inputs.
use Rattle.std.proofs.Common.{◌≡◌, Err, rules, ap, ◌∙◌}
use Rattle.refusal.specs.declared.ReadError.TheVariants.{Violated}
use Rattle.wire.proofs.Reading.{message_short}
use Rattle.wire_read.specs.Answer.{with_size}
use Rattle.wire_read.proofs.Long.{long}
use Rattle.wire_read.proofs.messages.read_sized.Goals as goal

pub returns-in_default : goal.returns-in_default
returns-in_default c = ap with_size (message_short _ _ c.in_default.ensures.cases)

pub returns-in_err-parsed : goal.returns-in_err-parsed
returns-in_err-parsed c =
    let told : c.from_residual.result ≡ Err (Violated c.in_err-parsed.field-0.0) = search rules in
    rw told (ap with_size (long c.args.from c.in-Some.ensures.cases c.in_err-parsed.ensures))

pub returns : goal.returns
returns c = c.complete.ensures ∙ ap with_size (long c.args.from c.in-Some.ensures.cases c.in_ok-parsed.ensures)
