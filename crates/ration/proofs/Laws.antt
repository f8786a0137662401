-- What a ration is after it is spent or has grown, as sums, and that it stays in range; from the definitions.
use mathlib.Core.Path.{◌≡◌, refl, ap}
use mathlib.Core.Bool.{Bool, true, false}
use Prim.Native.Nat.{ℕ, ◌+◌, ◌-◌, ◌*◌, ◌≤◌}
use native.Mathlib.Omega.{arith}
use lib.Dec.{eqb}
use borrow.Author.Tests.{leb-true, le-leb}
use Rattle.std.specs.Prelude.{Some, None}
use Rattle.laws.specs.Pick.{pick}
use Rattle.laws.proofs.Pick.{yes, no}
use Rattle.ration.specs.declared.Ration.{Ration}
use Rattle.ration.specs.declared.Ration.TheVariants.{Finite, Endless}
use Rattle.ration.specs.Ration.{largest, from_header, in_range, allows, plus, minus, spend, grow}

pub minus_plus : (r : Ration) (n : ℕ) → allows r n ≡ true → plus (minus r n) n ≡ r
minus_plus (Finite left) n e = let h = leb-true n left e in ap Finite (omega arith)
minus_plus Endless n e = refl

pub spend_allowed : (r : Ration) (n : ℕ) → allows r n ≡ true → spend r n ≡ Some (minus r n)
unfolding spend
spend_allowed r n e = yes _ _ _ e

pub spend_refused : (r : Ration) (n : ℕ) → allows r n ≡ false → spend r n ≡ None
unfolding spend
spend_refused r n e = no _ _ _ e

-- after a spend, what is left and what was spent add up to the ration before
pub spend_left : (r s : Ration) (n : ℕ) → spend r n ≡ Some s → plus s n ≡ r
unfolding spend pick
spend_left r s n q = go (allows r n) refl q
  where
    go : (b : Bool) → allows r n ≡ b → pick b (Some (minus r n)) None ≡ Some s → plus s n ≡ r
    go true e p = let same : minus r n ≡ s = cc in rw (← same) (minus_plus r n e)
    go false e p = let z : ◌≡◌ {A = ℕ} 0 1 = cc in absurd (omega arith)

-- a spend that leaves something was allowed, and one that does not was not
pub spend_gives : (r s : Ration) (n : ℕ) → spend r n ≡ Some s → (allows r n ≡ true) × (s ≡ minus r n)
unfolding spend pick
spend_gives r s n q = go (allows r n) refl q
  where
    go : (b : Bool) → allows r n ≡ b → pick b (Some (minus r n)) None ≡ Some s → (allows r n ≡ true) × (s ≡ minus r n)
    go true e p = let same : s ≡ minus r n = cc in (e, same)
    go false e p = let z : ◌≡◌ {A = ℕ} 0 1 = cc in absurd (omega arith)

pub spend_none : (r : Ration) (n : ℕ) → spend r n ≡ None → allows r n ≡ false
unfolding spend pick
spend_none r n q = go (allows r n) refl q
  where
    go : (b : Bool) → allows r n ≡ b → pick b (Some (minus r n)) None ≡ None → allows r n ≡ false
    go true e p = let z : ◌≡◌ {A = ℕ} 0 1 = cc in absurd (omega arith)
    go false e p = e

pub spend_endless : (n : ℕ) → spend Endless n ≡ Some Endless
spend_endless n = spend_allowed Endless n refl

pub grow_in_range : (r : Ration) (n : ℕ) → in_range (plus r n) ≡ true → grow r n ≡ Some (plus r n)
unfolding grow
grow_in_range r n e = yes _ _ _ e

pub grow_refused : (r : Ration) (n : ℕ) → in_range (plus r n) ≡ false → grow r n ≡ None
unfolding grow
grow_refused r n e = no _ _ _ e

-- after growing, the ration is the one before plus what it grew by, and in range
pub grow_to : (r s : Ration) (n : ℕ) → grow r n ≡ Some s → (s ≡ plus r n) × (in_range s ≡ true)
unfolding grow pick
grow_to r s n q = go (in_range (plus r n)) refl q
  where
    go : (b : Bool) → in_range (plus r n) ≡ b → pick b (Some (plus r n)) None ≡ Some s → (s ≡ plus r n) × (in_range s ≡ true)
    go true e p = let same : s ≡ plus r n = cc in (same, rw same e)
    go false e p = let z : ◌≡◌ {A = ℕ} 0 1 = cc in absurd (omega arith)

pub grow_endless : (n : ℕ) → grow Endless n ≡ Some Endless
grow_endless n = grow_in_range Endless n refl

pub minus_in_range : (r : Ration) (n : ℕ) → in_range r ≡ true → in_range (minus r n) ≡ true
minus_in_range (Finite left) n e = let h = leb-true left largest e in le-leb (left - n) largest (omega arith)
minus_in_range Endless n e = refl

-- a ration in range stays in range when it is spent
pub spend_in_range : (r s : Ration) (n : ℕ) → in_range r ≡ true → spend r n ≡ Some s → in_range s ≡ true
spend_in_range r s n h q = smaller s r n h (spend_left r s n q)
  where
    smaller : (s r : Ration) (n : ℕ) → in_range r ≡ true → plus s n ≡ r → in_range s ≡ true
    smaller (Finite left) r n h e = let b = leb-true (left + n) largest (rw (← e) at h) in le-leb left largest (omega arith)
    smaller Endless r n h e = refl

-- every header number starts a ration in range
pub start_in_range : (n : ℕ) → n ≤ 65_535 → in_range (from_header n) ≡ true
unfolding from_header pick
start_in_range n h = go (eqb n 0)
  where
    go : (b : Bool) → in_range (pick b Endless (Finite (n * 256))) ≡ true
    go true = refl
    go false = le-leb (n * 256) largest (omega arith)
