-- A table mapped: what the map of an array gives.
use Rattle.std.proofs.Common.{◌≡◌, ℕ, zero, suc, ◌+◌, ◌≤◌, List, ◌∷◌, length, drop, refl, sym, ap, ◌∙◌, arith, drop-cons}
use Rattle.std.specs.Prelude.{map}
use Rattle.std.specs.Fn.{Mut, Called}
use Rattle.std.specs.Array.{MapsFrom, IsMapOf}
use native.Mathlib.Numerals.{add-one}
use lib.ListN.{drop_of_length-le, get_or}

module _ {F A B : Type 0} (g : Mut F (A × Unit {0}) B) (h : A → B) (f : F)
    (is : (x : A) (y : B) (q : F) → Called g f (x, tt) y q → (q ≡ f) × (y ≡ h x)) where
  maps_from : (xs : List A) (ys : List B) (n i : ℕ) (p : F) → p ≡ f → length xs ≡ i + n → length ys ≡ i + n → MapsFrom g p xs ys i n
      → drop i ys ≡ map h (drop i xs)
  maps_from xs ys zero i p same k l m =
      let few : length xs ≤ i = omega arith in
      let few_given : length ys ≤ i = omega arith in
      rw (drop_of_length-le xs few, drop_of_length-le ys few_given)
  maps_from xs ys (suc n) i p same k l (q, x, y, ex, ey, called, rest) =
      let e = is x y q (rw same at called) in
      let more : drop (suc i) ys ≡ map h (drop (suc i) xs) = maps_from xs ys n (suc i) q e.0 (omega arith) (omega arith) (rw add-one at rest) in
      drop-cons ys i y (omega arith) ∙ ap (λ (r : List B). get_or ys i y ∷ r) more ∙ ap (λ (z : B). z ∷ map h (drop (suc i) xs)) (ey.0 ∙ e.1 ∙ ap h (sym ex.0)) ∙ ap (map h) (sym (drop-cons xs i x (omega arith)))

  pub map_of : (xs : List A) (ys : List B) (n : ℕ) → length xs ≡ n → IsMapOf g f xs ys n → ys ≡ map h xs
  map_of xs ys n k m = maps_from xs ys n 0 f refl (omega (arith, k)) (omega (arith, m.long)) m.each
