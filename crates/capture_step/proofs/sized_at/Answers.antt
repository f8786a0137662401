-- `sized_at` meets its contract, by the laws of a step.
use Rattle.std.proofs.Common.{◌≡◌, Err, rules, refl, ap, ◌∙◌}
use Rattle.laws.specs.Result.{Result}
use Rattle.wire.specs.declared.Message.{Message}
use Rattle.refusal.specs.Failure.{failure_of}
use Rattle.wire_read.specs.Answer.{with_size}
use Rattle.capture_rules.proofs.Steps.{past_end, in_slice}
use Rattle.capture_step.proofs.Sizes.{same_failure}
use Rattle.capture_step.proofs.sized_at.Goals as goal

pub returns-then-capture-place : goal.returns-then-capture-place
returns-then-capture-place c = ap with_size (past_end _ _ _ c.if-capture-place.true)

pub returns-in_err-read_sized : goal.returns-in_err-read_sized
returns-in_err-read_sized c =
    let e = c.in_err-read_sized.field-0.0 in
    let told : c.from_residual.result ≡ Err (failure_of c.in_err-read_sized.field-0.0) = search rules in
    rw told
    (ap (λ (r : Result Message). (r, 0)) (same_failure e)
    ∙ c.in_err-read_sized.ensures ∙ ap with_size (in_slice _ _ _ c.if-capture-place.false refl))

pub returns : goal.returns
returns c = c.in_ok-read_sized.ensures ∙ ap with_size (in_slice _ _ _ c.if-capture-place.false refl)
