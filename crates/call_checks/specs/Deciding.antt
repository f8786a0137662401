-- What a call decides from the result of its session's step.
use Rattle.std.specs.Prelude.{◌≡◌, []}
use Rattle.laws.specs.Result.{Result, ok, refused, violation}
use Rattle.protocol.specs.Receipt.{Taken}
use Rattle.protocol.specs.Plan.{Plan}
use Rattle.protocol.specs.Judge.{Effect, Decision, refuse, accept}
use Rattle.call_checks.specs.Gate.{to_gate, behind}

-- if the step is taken, the call is taken, with the effect of the step
abbrev pub decision : (Taken → Effect) → Result Taken → Decision
decision effect (ok t) = accept (effect t)
decision effect (refused k) = refuse k
decision effect (violation f) = refuse f.number

-- the step counts if the checks before it pass
abbrev pub after_checks : Plan Unit → (Taken → Effect) → Result Taken → Decision
after_checks p effect r = behind (to_gate p) refuse (decision effect r)

-- a step sends nothing if it is taken
abbrev pub Quiet : Result Taken → Type 0
Quiet (ok t) = t.sent ≡ []
Quiet (refused k) = Unit {0}
Quiet (violation f) = Unit {0}
