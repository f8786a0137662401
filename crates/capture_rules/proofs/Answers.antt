-- A result leaves one answer, from the numbers and places, no two of which are the same; and a step says its answer and its place.
use Rattle.std.specs.Prelude.{Result, Ok, Err}
use mathlib.Core.Path.{◌≡◌, refl, sym, ap}
use Rattle.laws.specs.Result.{violation}
use Rattle.refusal.specs.declared.Fault.{Fault}
use Rattle.refusal.specs.Number.{violation_number}
use Rattle.laws.proofs.Results.{ok_same, refused_same, violation_same, refused_not_ok, violation_not_ok, violation_not_refused}
use Rattle.refusal.proofs.Distinct.{same_refusal, same_fault}
use Rattle.refusal.specs.declared.Failure.{Failure}
use Rattle.refusal.specs.declared.Failure.TheVariants.{Refused, Violated}
use Rattle.wire.specs.declared.Message.{Message}
use Rattle.capture_rules.specs.declared.Step.{Step}
use Rattle.capture_rules.specs.Place.{next_as, step_as}

pub same_next : (a b : Result Message Failure) → next_as a ≡ next_as b → a ≡ b
same_next (Ok m) (Ok l) e = ap Ok (ok_same e)
same_next (Ok m) (Err (Refused r)) e = absurd (refused_not_ok (sym e))
same_next (Ok m) (Err (Violated v)) e = absurd (violation_not_ok (sym e))
same_next (Err (Refused r)) (Ok m) e = absurd (refused_not_ok e)
same_next (Err (Refused r)) (Err (Refused q)) e = ap (λ x. Err (Refused x)) (same_refusal r q (refused_same e))
same_next (Err (Refused r)) (Err (Violated v)) e = absurd (violation_not_refused (sym e))
same_next (Err (Violated v)) (Ok m) e = absurd (violation_not_ok e)
same_next (Err (Violated v)) (Err (Refused r)) e = absurd (violation_not_refused e)
same_next (Err (Violated v)) (Err (Violated w)) e = ap (λ x. Err (Violated x)) (same_fault v w (violation_same e))

-- a violation is handed on with the number and the place that its fault holds
pub next_says : (f : Fault) → next_as (Err (Violated f)) ≡ violation (record { number = violation_number f.violation; place = f.offset })
next_says f = refl

pub step_says : (s : Step) → step_as s ≡ (next_as s.next, s.place)
step_says s = refl
