-- No two refusals and no two violations have the same number, and no two faults say the same: from a table that gives each back.
use mathlib.Core.Path.{◌≡◌, refl, sym, ap, ◌∙◌}
use mathlib.Core.List.{List, [], ◌∷◌}
use Prim.Native.Nat.{ℕ, ◌-◌}
use lib.ListN.{get_or}
use Rattle.refusal.specs.declared.Refusal.{Refusal}
use Rattle.refusal.specs.declared.Refusal.TheVariants as refusal
use Rattle.refusal.specs.declared.Violation.{Violation}
use Rattle.refusal.specs.declared.Violation.TheVariants as violation
use Rattle.laws.specs.Result as laws
use Rattle.refusal.specs.declared.Fault.{Fault}
use Rattle.refusal.specs.Number.{refusal_number, violation_number, fault_as}

-- the refusal of each number from 0 on; a number that no refusal has stands for the first
refusals : List Refusal
refusals =
    refusal.NotExchanged
    ∷ refusal.NotExchanged
    ∷ refusal.Over
    ∷ refusal.NoSuchSession
    ∷ refusal.WrongRole
    ∷ refusal.WrongState
    ∷ refusal.SlotFull
    ∷ refusal.GrantTooLarge
    ∷ refusal.WrongRoom
    ∷ refusal.NothingReady
    ∷ refusal.Incomplete
    ∷ refusal.NotExchanged
    ∷ refusal.BadValue
    ∷ refusal.PingOutstanding
    ∷ refusal.IllFormed
    ∷ refusal.NotExchanged
    ∷ refusal.RegionFull
    ∷ []

given_back : (r : Refusal) → get_or refusals (refusal_number r) refusal.NotExchanged ≡ r
unfolding refusals
given_back refusal.NotExchanged = refl
given_back refusal.Over = refl
given_back refusal.NoSuchSession = refl
given_back refusal.WrongRole = refl
given_back refusal.WrongState = refl
given_back refusal.SlotFull = refl
given_back refusal.GrantTooLarge = refl
given_back refusal.WrongRoom = refl
given_back refusal.NothingReady = refl
given_back refusal.Incomplete = refl
given_back refusal.BadValue = refl
given_back refusal.PingOutstanding = refl
given_back refusal.IllFormed = refl
given_back refusal.RegionFull = refl

-- the refusal that a number stands for
pub refusal_of : ℕ → Refusal
refusal_of n = get_or refusals n refusal.NotExchanged

pub refusal_back : (r : Refusal) → refusal_of (refusal_number r) ≡ r
unfolding refusal_of
refusal_back r = given_back r

pub same_refusal : (a b : Refusal) → refusal_number a ≡ refusal_number b → a ≡ b
same_refusal a b e = sym (refusal_back a) ∙ ap refusal_of e ∙ refusal_back b

-- the violation of each number from 20 on
violations : List Violation
violations =
    violation.UnknownType
    ∷ violation.ReservedBit
    ∷ violation.BadHeader
    ∷ violation.WrongSender
    ∷ violation.WrongFlags
    ∷ violation.WrongState
    ∷ violation.AboveRation
    ∷ violation.PastLargest
    ∷ violation.UnaskedPingAck
    ∷ []

-- the violation that a number stands for
pub violation_of : ℕ → Violation
violation_of n = get_or violations (n - 20) violation.UnknownType

pub violation_back : (v : Violation) → violation_of (violation_number v) ≡ v
unfolding violations violation_of
violation_back violation.UnknownType = refl
violation_back violation.ReservedBit = refl
violation_back violation.BadHeader = refl
violation_back violation.WrongSender = refl
violation_back violation.WrongFlags = refl
violation_back violation.WrongState = refl
violation_back violation.AboveRation = refl
violation_back violation.PastLargest = refl
violation_back violation.UnaskedPingAck = refl

pub same_violation : (a b : Violation) → violation_number a ≡ violation_number b → a ≡ b
same_violation a b e = sym (violation_back a) ∙ ap violation_of e ∙ violation_back b

-- the fault of the code that says a number and a place
pub fault_for : laws.Fault → Fault
fault_for f = record { violation = violation_of f.number; offset = f.place }

pub fault_back : (f : Fault) → fault_for (fault_as f) ≡ f
unfolding fault_for
fault_back f = ap (λ (v : Violation). record { violation = v; offset = f.offset }) (violation_back f.violation)

pub same_fault : (a b : Fault) → fault_as a ≡ fault_as b → a ≡ b
same_fault a b e = sym (fault_back a) ∙ ap fault_for e ∙ fault_back b

-- a fault of the code says its violation's number and, as its place, its offset
pub fault_says : (v : Violation) (at : ℕ)
    → ((fault_as (record { violation = v; offset = at })).number ≡ violation_number v) × ((fault_as (record { violation = v; offset = at })).place ≡ at)
fault_says v at = (refl, refl)
