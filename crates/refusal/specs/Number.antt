-- The number of each refusal and each violation, and what a fault says (docs/PROTOCOL.md, "Refusals" and "Violations").
use Rattle.std.specs.Prelude.{ℕ}
use Rattle.laws.specs.Result.{Fault, fault}
use Rattle.refusal.specs.declared.Refusal.{Refusal}
use Rattle.refusal.specs.declared.Refusal.TheVariants as refusal
use Rattle.refusal.specs.declared.Violation.{Violation}
use Rattle.refusal.specs.declared.Violation.TheVariants as violation
use Rattle.refusal.specs.declared.Fault as declared

abbrev pub refusal_number : Refusal → ℕ
refusal_number refusal.NotExchanged = 1
refusal_number refusal.Over = 2
refusal_number refusal.NoSuchSession = 3
refusal_number refusal.WrongRole = 4
refusal_number refusal.WrongState = 5
refusal_number refusal.SlotFull = 6
refusal_number refusal.GrantTooLarge = 7
refusal_number refusal.WrongRoom = 8
refusal_number refusal.NothingReady = 9
refusal_number refusal.Incomplete = 10
refusal_number refusal.BadValue = 12
refusal_number refusal.PingOutstanding = 13
refusal_number refusal.IllFormed = 14
refusal_number refusal.RegionFull = 16

abbrev pub violation_number : Violation → ℕ
violation_number violation.UnknownType = 20
violation_number violation.ReservedBit = 21
violation_number violation.BadHeader = 22
violation_number violation.WrongSender = 23
violation_number violation.WrongFlags = 24
violation_number violation.WrongState = 25
violation_number violation.AboveRation = 26
violation_number violation.PastLargest = 27
violation_number violation.UnaskedPingAck = 28

abbrev pub fault_as : declared.Fault → Fault
fault_as f = fault (violation_number f.violation) f.offset
