-- A rule with one more check, just before it takes: what it takes then, with which numbers it refuses, and exactly when.
use mathlib.Core.Path.{◌≡◌, refl, sym, ap, ◌∙◌}
use mathlib.Core.Bool.{Bool, false, not, ◌&&◌}
use Prim.Native.Nat.{ℕ}
use Rattle.laws.specs.Pick.{pick}
use Rattle.protocol.specs.Plan.{Plan, stop, check, take, and_then}
use Rattle.protocol.proofs.Plans.{Takes, Exactly, Stops}

-- one more check, after all the others
abbrev pub lastly : {A : Type 0} → Bool → ℕ → Plan A → Plan A
lastly b n (stop k) = stop k
lastly b n (check c k p) = check c k (lastly b n p)
lastly b n (take a) = check b n (take a)

pub takes_lastly : {A : Type 0} (P : A → Type 0) (b : Bool) (n : ℕ) (p : Plan A) → (b ≡ false → Takes P p) → Takes P (lastly b n p)
takes_lastly P b n (stop k) h = tt
takes_lastly P b n (check c k p) h = λ e. takes_lastly P b n p (λ z. h z e)
takes_lastly P b n (take a) h = λ e. h e

pub stops_lastly : {A : Type 0} (P : ℕ → Type 0) (b : Bool) (n : ℕ) (p : Plan A) → P n → Stops P p → Stops P (lastly b n p)
stops_lastly P b n (stop k) q h = h
stops_lastly P b n (check c k p) q h = (h.0, stops_lastly P b n p q h.1)
stops_lastly P b n (take a) q h = (q, tt)

pub then_lastly : {A B : Type 0} (f : A → B) (b : Bool) (n : ℕ) (p : Plan A) → and_then f (lastly b n p) ≡ lastly b n (and_then f p)
then_lastly f b n (stop k) = refl
then_lastly f b n (check c k p) = ap (check c k) (then_lastly f b n p)
then_lastly f b n (take a) = refl

-- if the rule takes exactly by t and else refuses with w: with the last check it takes by t and not b, and refuses with n if t holds
pub exact_lastly : {A : Type 0} (b : Bool) (n : ℕ) (t : Bool) (w : ℕ) (p : Plan A) → Exactly t w p → Exactly (t && not b) (pick t n w) (lastly b n p)
unfolding pick
exact_lastly b n t w (stop k) h = (ap (λ (z : Bool). z && not b) h.0, h.1 ∙ sym (ap (λ (z : Bool). pick z n w) h.0))
exact_lastly b n t w (check c k p) h =
    ((λ e. let q = h.0 e in (ap (λ (z : Bool). z && not b) q.0, q.1 ∙ sym (ap (λ (z : Bool). pick z n w) q.0))), λ e. exact_lastly b n t w p (h.1 e))
exact_lastly b n t w (take a) h =
    ((λ e. (ap (λ (z : Bool). z && not b) h ∙ ap not e, sym (ap (λ (z : Bool). pick z n w) h))), λ e. ap (λ (z : Bool). z && not b) h ∙ ap not e)
