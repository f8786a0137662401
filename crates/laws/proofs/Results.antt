-- The three cases of a result differ, equal results hold equal values, and a fault holds what it is made of.
use mathlib.Core.Path.{◌≡◌, refl}
use Prim.Native.Nat.{ℕ}
use native.Mathlib.Omega.{arith}
use Rattle.laws.specs.Result.{Fault, fault, Result, ok, refused, violation}

pub ok_same : {A : Type 0} {a b : A} → ok a ≡ ok b → a ≡ b
ok_same e = cc

pub refused_not_ok : {A : Type 0} {a : A} {n : ℕ} → ◌≡◌ {A = Result A} (refused n) (ok a) → ⊥
refused_not_ok e = let z : ◌≡◌ {A = ℕ} 0 1 = cc in omega arith

pub violation_not_ok : {A : Type 0} {a : A} {f : Fault} → ◌≡◌ {A = Result A} (violation f) (ok a) → ⊥
violation_not_ok e = let z : ◌≡◌ {A = ℕ} 0 1 = cc in omega arith

pub refused_same : {A : Type 0} {n m : ℕ} → ◌≡◌ {A = Result A} (refused n) (refused m) → n ≡ m
refused_same e = cc

pub violation_not_refused : {A : Type 0} {f : Fault} {m : ℕ} → ◌≡◌ {A = Result A} (violation f) (refused m) → ⊥
violation_not_refused e = let z : ◌≡◌ {A = ℕ} 0 1 = cc in omega arith

pub violation_same : {A : Type 0} {f g : Fault} → ◌≡◌ {A = Result A} (violation f) (violation g) → f ≡ g
violation_same e = cc

pub fault_holds : (n place : ℕ) → ((fault n place).number ≡ n) × ((fault n place).place ≡ place)
fault_holds n place = (refl, refl)
