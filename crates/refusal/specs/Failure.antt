-- What a result of the code stands for: an answer, a refusal by its number, or a violation by its number and place.
use Rattle.std.specs.Prelude.{Result, Ok, Err}
use Rattle.laws.specs.Result as answer
use Rattle.refusal.specs.declared.Refusal.{Refusal}
use Rattle.refusal.specs.declared.Refusal.TheVariants.{Incomplete}
use Rattle.refusal.specs.declared.ReadError.{ReadError}
use Rattle.refusal.specs.declared.ReadError.TheVariants as read
use Rattle.refusal.specs.declared.Failure.{Failure}
use Rattle.refusal.specs.declared.Failure.TheVariants as failure
use Rattle.refusal.specs.Number.{refusal_number, fault_as}

-- an answer, or a refusal
abbrev pub or_refused : {A B : Type 0} → (A → B) → Result A Refusal → answer.Result B
or_refused f (Ok x) = answer.ok (f x)
or_refused f (Err r) = answer.refused (refusal_number r)

-- an answer, or a refusal or violation
abbrev pub or_failed : {A B : Type 0} → (A → B) → Result A Failure → answer.Result B
or_failed f (Ok x) = answer.ok (f x)
or_failed f (Err (failure.Refused r)) = answer.refused (refusal_number r)
or_failed f (Err (failure.Violated v)) = answer.violation (fault_as v)

-- a reader that gives nothing refuses as incomplete, or finds a violation
abbrev pub failure_of : ReadError → Failure
failure_of read.Incomplete = failure.Refused Incomplete
failure_of (read.Violated f) = failure.Violated f

-- what was read, or why nothing was
abbrev pub or_unread : {A B : Type 0} → (A → B) → Result A ReadError → answer.Result B
or_unread f (Ok x) = answer.ok (f x)
or_unread f (Err e) = or_failed f (Err (failure_of e))
