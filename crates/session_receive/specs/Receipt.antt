-- What each answer to a received message means, and the result of a receipt's rule; a violation has the place of its number.
use Rattle.std.specs.Prelude as prelude
use Rattle.std.specs.Prelude.{Ok, Err}
use Rattle.laws.specs.Result.{Result, ok, violation}
use Rattle.refusal.specs.declared.Violation.{Violation}
use Rattle.refusal.specs.Number.{violation_number}
use Rattle.protocol.specs.Plan.{Plan, settle}
use Rattle.protocol.specs.Receipt as rule
use Rattle.protocol.specs.Judge.{fault_of}
use Rattle.session.specs.declared.Taken.{Taken}
use Rattle.session.specs.Step.{taken_as}

abbrev pub receipt_as : prelude.Result Taken Violation → Result rule.Taken
receipt_as (Ok t) = ok (taken_as t)
receipt_as (Err v) = violation (fault_of (violation_number v))

-- the result of a receipt's rule: it takes, or finds a violation
abbrev pub to_receipt : Plan rule.Taken → Result rule.Taken
to_receipt p = settle (λ n. violation (fault_of n)) ok p
