-- A ration takes a grant exactly where it grows to a finite one.
use mathlib.Core.Path.{◌≡◌, refl, sym}
use mathlib.Core.Bool.{true, false}
use Prim.Native.Nat.{ℕ, ◌+◌}
use Rattle.std.specs.Prelude.{Some, None}
use Rattle.ration.specs.declared.Ration.{Ration}
use Rattle.ration.specs.declared.Ration.TheVariants.{Finite, Endless}
use Rattle.ration.specs.Ration.{plus, grow, grantable}
use Rattle.ration.proofs.Laws.{grow_to}
use Rattle.session.proofs.Rations.{grant_to, grant_past}

pub grows_finite : (r : Ration) (n k : ℕ) → grow r n ≡ Some (Finite k) → (grantable r n ≡ true) × (plus r n ≡ Finite k)
grows_finite (Finite j) n k q = let law = grant_to n refl q in (law.0, sym law.1)
grows_finite Endless n k q = let law : Finite k ≡ Endless = (grow_to Endless (Finite k) n q).0 in cc

pub grows_endless : (r : Ration) (n : ℕ) → grow r n ≡ Some Endless → grantable r n ≡ false
grows_endless (Finite j) n q = let law : Endless ≡ Finite (j + n) = (grow_to (Finite j) Endless n q).0 in cc
grows_endless Endless n q = refl

pub grows_not : (r : Ration) (n : ℕ) → grow r n ≡ None → grantable r n ≡ false
grows_not (Finite j) n q = grant_past n refl q
grows_not Endless n q = refl

pub ruleset grown = (grows_finite, grows_endless, grows_not)
