-- Checks one after another: the result of a rule behind a gate, from the result of the gate.
use mathlib.Core.Path.{◌≡◌, refl, ap, ◌∙◌}
use mathlib.Core.Bool.{true, false}
use Prim.Native.Nat.{ℕ}
use Rattle.std.specs.Prelude as prelude
use Rattle.std.specs.Prelude.{Ok, Err}
use Rattle.std.specs.Result.{result_and}
use Rattle.laws.specs.Result.{Result, ok, refused}
use Rattle.refusal.specs.declared.Refusal.{Refusal}
use Rattle.protocol.specs.Plan.{Plan, stop, check, take, settle}
use Rattle.call_checks.specs.Gate.{gate_as, to_gate, behind}

-- the checks of a first rule, then a second rule
abbrev pub followed_by : {A : Type 0} → Plan Unit → Plan A → Plan A
followed_by (stop n) rest = stop n
followed_by (check b n p) rest = check b n (followed_by p rest)
followed_by (take u) rest = rest

-- the rule behind a gate
pub gated : {A B : Type 0} (bad : ℕ → B) (good : A → B) (p : Plan Unit) (rest : Plan A)
    → behind (to_gate p) bad (settle bad good rest) ≡ settle bad good (followed_by p rest)
unfolding settle
gated bad good (stop n) rest = refl
gated bad good (check true n p) rest = refl
gated bad good (check false n p) rest = gated bad good p rest
gated bad good (take u) rest = refl

-- more checks, after those that passed and after one that did not
module _ (p q : Plan Unit) where
  pub go_on : {r : Result Unit} → ok tt ≡ to_gate p → r ≡ to_gate q → r ≡ to_gate (followed_by p q)
  go_on e h = h ∙ ap (λ (x : Result Unit). behind x refused (to_gate q)) e ∙ gated refused ok p q

  pub stop_here : {n : ℕ} → ◌≡◌ {A = Result Unit} (refused n) (to_gate p) → ◌≡◌ {A = Result Unit} (refused n) (to_gate (followed_by p q))
  stop_here e = ap (λ (x : Result Unit). behind x refused (to_gate q)) e ∙ gated refused ok p q

-- two checks, of which the first refuses first
module _ (p q : Plan Unit) (g h : prelude.Result Unit Refusal) {r : prelude.Result Unit Refusal} where
  pub one_more : r ≡ result_and g h → gate_as g ≡ to_gate p → gate_as h ≡ to_gate q → gate_as r ≡ to_gate (followed_by p q)
  one_more e k l =
      ap gate_as e ∙ is g ∙ ap (λ (x : Result Unit). behind x refused (gate_as h)) k ∙ ap (behind (to_gate p) refused) l ∙ gated refused ok p q
    where
      is : (g : prelude.Result Unit Refusal) → gate_as (result_and g h) ≡ behind (gate_as g) refused (gate_as h)
      is (Ok u) = refl
      is (Err k) = refl
