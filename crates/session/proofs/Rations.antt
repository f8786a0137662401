-- A ration that does not grow would pass the largest: the laws of growing that the steps cite, from its definition.
use mathlib.Core.Path.{◌≡◌, refl, sym, ap, ◌∙◌}
use mathlib.Core.Bool.{Bool, true, false}
use Prim.Native.Nat.{ℕ, ◌+◌}
use native.Mathlib.Omega.{arith}
use Rattle.std.specs.Prelude.{Some, None}
use Rattle.laws.specs.Pick.{pick}
use Rattle.ration.specs.declared.Ration.{Ration}
use Rattle.ration.specs.declared.Ration.TheVariants.{Finite}
use Rattle.ration.specs.Ration.{in_range, plus, grow, grantable}
use Rattle.ration.proofs.Laws.{grow_to}

pub grow_past : (r : Ration) (n : ℕ) → grow r n ≡ None → in_range (plus r n) ≡ false
unfolding grow pick
grow_past r n q = go (in_range (plus r n)) refl q
  where
    go : (b : Bool) → in_range (plus r n) ≡ b → pick b (Some (plus r n)) None ≡ None → in_range (plus r n) ≡ false
    go true e p = let z : ◌≡◌ {A = ℕ} 0 1 = cc in absurd (omega arith)
    go false e p = e

-- a finite ration takes a grant exactly where it grows
pub grant_to : {r s : Ration} {k : ℕ} (n : ℕ) → r ≡ Finite k → grow r n ≡ Some s → (grantable r n ≡ true) × (s ≡ plus r n)
grant_to {r} {s} {k} n e q =
    let g = grow_to r s n q in
    let same : s ≡ Finite (k + n) = g.0 ∙ ap (λ (y : Ration). plus y n) e in
    (ap (λ (y : Ration). grantable y n) e ∙ sym (ap in_range same) ∙ g.1, g.0)

pub grant_past : {r : Ration} {k : ℕ} (n : ℕ) → r ≡ Finite k → grow r n ≡ None → grantable r n ≡ false
grant_past {r} {k} n e q = ap (λ (y : Ration). grantable y n) e ∙ sym (ap (λ (y : Ration). in_range (plus y n)) e) ∙ grow_past r n q
