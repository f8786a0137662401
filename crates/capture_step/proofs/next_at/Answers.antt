-- `next_at` meets its contract, by the place after what was read.
use Rattle.std.proofs.Common.{ℕ, ◌≤◌, ◌<◌, ◌^◌, ap, rules, arith}
use Rattle.laws.specs.Result.{Result}
use Rattle.wire.specs.declared.Message.{Message}
use Rattle.capture_step.proofs.Sizes.{ends_within, sized_step, not_past}
use Rattle.capture_step.proofs.next_at.Goals as goal

below : {m n : ℕ} → m ≤ n → n < 2 ^ 64 → m < 2 ^ 64
below p q = omega arith

pub overflow_add-result : goal.overflow_add-result
overflow_add-result c =
    let a = c.args in
    let here = not_past a.from a.capture.now a.place (ap (λ (p : Result Message × ℕ). p.0) c.in-Ok.ensures) in
    record { fits = below (ends_within a.from a.capture.now a.place here c.in-Ok.ensures) (search rules) }

pub returns-in-Ok : goal.returns-in-Ok
returns-in-Ok c = sized_step _ _ _ c.in-Ok.ensures
