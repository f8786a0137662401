-- The result of the checks before a call's own, and of a rule behind them.
use Rattle.std.specs.Prelude as prelude
use Rattle.std.specs.Prelude.{ℕ}
use Rattle.laws.specs.Result.{Result, ok, refused, violation}
use Rattle.refusal.specs.declared.Refusal.{Refusal}
use Rattle.refusal.specs.Failure.{or_refused}
use Rattle.protocol.specs.Plan.{Plan, settle}

abbrev pub gate_as : prelude.Result Unit Refusal → Result Unit
gate_as g = or_refused (λ u. u) g

abbrev pub to_gate : Plan Unit → Result Unit
to_gate p = settle refused ok p

-- the result of a rule behind a gate
abbrev pub behind : {B : Type 0} → Result Unit → (ℕ → B) → B → B
behind (ok u) bad rest = rest
behind (refused n) bad rest = bad n
behind (violation f) bad rest = bad f.number
