-- `fault_of` meets its contract: only 25 has the place of the session number.
use mathlib.Core.Path.{◌≡◌, refl, ap}
use Rattle.laws.specs.Pick.{pick}
use Rattle.laws.specs.Result.{fault}
use Rattle.refusal.specs.declared.Violation.{Violation}
use Rattle.refusal.specs.declared.Violation.TheVariants as violation
use Rattle.refusal.specs.Number.{violation_number}
use Rattle.protocol.specs.Judge.{place_of}
use Rattle.connection_judge.proofs.verdicts.fault_of.Goals as goal

elsewhere : (v : Violation) → (v ≡ violation.WrongState → ⊥) → 2 ≡ place_of (violation_number v)
unfolding pick
elsewhere violation.WrongState h = absurd (h refl)
elsewhere violation.UnknownType h = refl
elsewhere violation.ReservedBit h = refl
elsewhere violation.BadHeader h = refl
elsewhere violation.WrongSender h = refl
elsewhere violation.WrongFlags h = refl
elsewhere violation.AboveRation h = refl
elsewhere violation.PastLargest h = refl
elsewhere violation.UnaskedPingAck h = refl

pub returns-in-WrongState : goal.returns-in-WrongState
unfolding pick
returns-in-WrongState c = simp c.in-WrongState.is

pub returns-in_default : goal.returns-in_default
returns-in_default c = ap (fault _) (elsewhere _ c.in_default.not-WrongState)
