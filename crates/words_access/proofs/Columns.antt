-- What the loop over the statuses holds, and where these are among the words: the first statuses mapped, the others as they were.
use mathlib.Core.Path.{◌≡◌, refl, ap}
use mathlib.Core.List.{List, [], ◌∷◌, ◌++◌, map}
use Prim.Native.Nat.{ℕ, zero, suc, ◌+◌, ◌<◌, ◌≤◌}
use native.Mathlib.Nat.{not-suc-le-zero, le_of_suc-le-suc}
use native.Mathlib.Numerals.{add-one}
use lib.ListN.{length, get_or, set, take, drop}
use lib.Seq.{drop-drop}
use borrow.Rule.Slice.PartMut.{put_mid}
use Rattle.words.specs.State.{status_at, head_at}

module _ (f : ℕ → ℕ) where
  abbrev pub up_to : ℕ → List ℕ → List ℕ
  up_to n l = map f (take n l) ++ drop n l

  step : (n : ℕ) (l : List ℕ) → n < length l → set (up_to n l) n (f (get_or l n 0)) ≡ up_to (suc n) l
  step zero [] h = absurd (not-suc-le-zero h)
  step zero (x ∷ l) h = refl
  step (suc n) [] h = refl
  step (suc n) (x ∷ l) h = ap (λ (t : List ℕ). f x ∷ t) (step n l (le_of_suc-le-suc h))

  pub up_to_more : (n : ℕ) (l : List ℕ) → n < length l → set (up_to n l) n (f (get_or l n 0)) ≡ up_to (n + 1) l
  up_to_more n l h = rw add-one (step n l h)

  pub up_to_at : (n : ℕ) (l : List ℕ) → get_or (up_to n l) n 0 ≡ get_or l n 0
  up_to_at zero l = refl
  up_to_at (suc n) [] = refl
  up_to_at (suc n) (x ∷ l) = up_to_at n l

  pub up_to_all : (n : ℕ) (l : List ℕ) → length l ≤ n → up_to n l ≡ map f l
  up_to_all zero [] h = refl
  up_to_all zero (x ∷ l) h = absurd (not-suc-le-zero h)
  up_to_all (suc n) [] h = refl
  up_to_all (suc n) (x ∷ l) h = ap (λ (t : List ℕ). f x ∷ t) (up_to_all n l (le_of_suc-le-suc h))

  -- the column of statuses mapped, the other words as they were
  pub column : (w ys : List ℕ) → ys ≡ map f (take 128 (drop status_at w))
      → put_mid 256 128 w ys ≡ take status_at w ++ (map f (take 128 (drop status_at w)) ++ drop head_at w)
  column w ys e = rw (e, drop-drop 128 status_at w)
