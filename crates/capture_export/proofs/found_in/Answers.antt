-- `found_in` meets its contract: each arm is a case of what the step found.
use mathlib.Core.Path.{ap}
use mathlib.Core.List.{List, ◌∷◌}
use Prim.Native.Nat.{ℕ}
use Rattle.capture_export.proofs.found_in.Goals as goal

pub returns-in-Ok : goal.returns-in-Ok
returns-in-Ok c = rw c.in-Ok.is (ap (λ (l : List ℕ). 0 ∷ 0 ∷ c.args.step.place ∷ l) c.items_of.ensures.0)
