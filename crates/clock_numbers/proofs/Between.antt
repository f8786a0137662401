-- What is held between a floor and a ceiling is between them, whatever it is, NaN too; from the definition of `held`.
use mathlib.Core.Path.{◌≡◌, refl, sym, ◌∙◌}
use mathlib.Core.Bool.{Bool, true, false, ◌||◌, false≢true}
use lib.Ieee.{Float, nan, inf, fin, lt, le, eq, ne}
use lib.Ieee.Compare.{differs_from_itself}
use Rattle.laws.specs.Pick.{pick}
use Rattle.clock_numbers.specs.Arithmetic.{larger, held, Between}

lt→le : (x y : Float) → lt x y ≡ true → le x y ≡ true
unfolding le
lt→le x y e = rw e

-- a value that is not NaN is at most itself
le_itself : (x : Float) → (x ≡ nan → ⊥) → le x x ≡ true
unfolding le ne
le_itself x number = go (lt x x) (eq x x) refl
  where
    go : (a b : Bool) → eq x x ≡ b → (a || b) ≡ true
    go true b e = refl
    go false true e = refl
    go false false e = absurd (number (differs_from_itself x (rw e tt)))

-- NaN is neither at most a value nor at least one
nan_le : (y : Float) → le nan y ≡ false
unfolding le lt eq
nan_le y = refl

le_nan : (x : Float) → le x nan ≡ false
unfolding le lt eq
le_nan nan = refl
le_nan (inf s) = refl
le_nan (fin s m e) = refl

module _ (floor ceiling : Float) (order : le floor ceiling ≡ true) where
  at_floor : le floor floor ≡ true
  at_floor = le_itself floor (λ e. false≢true (sym (nan_le ceiling) ∙ rw e at order))

  at_ceiling : le ceiling ceiling ≡ true
  at_ceiling = le_itself ceiling (λ e. false≢true (sym (le_nan floor) ∙ rw e at order))

  pub held_between : (x : Float) → Between floor ceiling (held floor ceiling x)
  unfolding pick
  held_between x = go (lt floor x) (lt (larger floor x) ceiling) refl refl
    where
      go : (a b : Bool) → lt floor x ≡ a → lt (pick a x floor) ceiling ≡ b → Between floor ceiling (pick b (pick a x floor) ceiling)
      go true true p q = (lt→le floor x p, lt→le x ceiling q)
      go false true p q = (at_floor, order)
      go a false p q = (order, at_ceiling)
