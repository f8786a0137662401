-- refuses-14: a call is refused with 14 exactly if the state is not well formed, since no other check has that number; no call of a
-- run is, since every state of a run is well formed.
use mathlib.Core.Path.{◌≡◌, refl, sym, ap, ◌∙◌}
use mathlib.Core.Bool.{Bool, true, false, false≢true}
use Rattle.laws.specs.Result.{refused}
use Rattle.laws.proofs.Tests.{true_false}
use Rattle.laws.proofs.Results.{refused_same, refused_not_ok, violation_not_refused}
use Rattle.state.specs.declared.Setup.{Setup}
use Rattle.protocol.specs.Connection.{well_formed}
use Rattle.protocol.specs.Judge.{Decision, refuse, violate, accept}
use Rattle.protocol.proofs.Numbers.{is_low}
use Rattle.history.specs.Log.{Call, State, out}
use Rattle.history.proofs.Decisions.{decide, out_by, out_is}
use Rattle.history.specs.Claims.{Refuses14}
use Rattle.history.proofs.Good.{Ok}
use Rattle.history.proofs.Simulation.{ok_formed}
use Rattle.history.proofs.Rulings.{Ruled, decide_ruled, decide_ill}

never : (s : State) (k : Call) (d : Decision) → Ruled s k d → (out_by s k d).answer ≡ refused 14 → ⊥
never s k (refuse n) f e = false≢true (sym (ap is_low (refused_same e)) ∙ f)
never s k (violate b) f e = violation_not_refused e
never s k (accept x) f e = refused_not_ok (sym e)

-- for every state
pub refuses_14 : (s : State) (k : Call) → Refuses14 s k
refuses_14 s k = (
  λ e. go (well_formed s.connection) refl (rw out_is at e),
  λ ill. rw out_is (ap (λ (d : Decision). (out_by s k d).answer) (decide_ill s ill k)),
)
  where
    go : (b : Bool) → well_formed s.connection ≡ b → (out_by s k (decide s.connection s.queue k)).answer ≡ refused 14 → well_formed s.connection ≡ false
    go true formed e = absurd (never s k (decide s.connection s.queue k) (decide_ruled s formed k) e)
    go false ill e = ill

pub never_14 : (setup : Setup) (s : State) (k : Call) → Ok setup s → (out s k).answer ≡ refused 14 → ⊥
never_14 setup s k o e = true_false (ok_formed setup s o) ((refuses_14 s k).0 e)
