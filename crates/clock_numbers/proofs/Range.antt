-- The bounds that the operations keep on numbers from 0 up; from the library's law that rounding keeps the order.
use mathlib.Core.Path.{◌≡◌, refl, sym, ap, ◌∙◌, subst}
use mathlib.Core.Bool.{Bool, true, false, not, ◌&&◌, beq, cond}
use Prim.Native.Nat.{ℕ, zero, suc, ◌+◌, ◌-◌, ◌*◌, ◌^◌, ◌≤◌, ◌<◌, zero-le}
use native.Mathlib.Nat.{le_trans, le_of_eq, mul_comm, mul_assoc, mul_left_comm, mul-one, mul-zero, zero-mul, mul-pos, zero-lt-suc}
use native.Mathlib.Nat.{add-mul, mul-le-mul_right}
use native.Mathlib.Omega.{arith}
use lib.IntN.{ℤ, pos}
use lib.Dec.{T, ltb, leb, ltb→lt, lt→ltb, leb→le, nltb→le, lit<}
use lib.Ieee.{Float, inf, nan, fin, binary64, prec, emax, low, up, down, unlike, odd, units, round, of_int}
use lib.Ieee.{below, sum, add, sub, neg, mul, div, lt, le}
use lib.Ieee.Fits.{round_is, down_pos}
use lib.Ieee.Exact.{HasValue}
use lib.Ieee.Order.{drop, kept, round_mono}
use lib.Ieee.Positive.{positive_of_value, values_of_le}
use lib.Ieee.Scale.{round_same}
use lib.Ieee.Back.{round_whole}
use Rattle.laws.specs.Pick.{pick}
use Rattle.laws.proofs.Tests.{T-first, T-second}
use Rattle.clock_numbers.specs.Arithmetic.{◌⊕◌, ◌⊗◌, ◌⊘◌, whole_number, distance}

-- x is a number from 0 to n; -0 is one
pub data UpTo (n : ℕ) : Float → Type 0 where
  up_to : {s : Bool} {m : ℕ} {e : ℤ} → (T s → m ≡ 0) → m * up e ≤ n * down e → UpTo n (fin s m e)

-- n is above 0, and binary64 holds every whole number up to it
abbrev pub Exact : ℕ → Type 0
Exact n = T (ltb 0 n && leb n (2 ^ 53))

-- ---- rounding
-- q * 2 ^ k of the format's smallest values, or an infinity where that is too large
abbrev value : ℕ → ℕ → Bool → Float
value k q small = cond small (odd (suc (prec binary64)) false q k (low binary64)) (inf false)

module _ (n : ℕ) (exact : Exact n) where
  pub whole_value : HasValue (whole_number n) false n 1
  unfolding whole_number of_int
  whole_value = round_whole binary64 false n (leb→le n (2 ^ 53) (T-second (ltb 0 n) (leb n (2 ^ 53)) exact))

  pub below_whole : (m : ℕ) (e : ℤ) → T (le (fin false m e) (whole_number n)) → m * up e ≤ n * down e
  below_whole zero e t = le_trans (le_of_eq (zero-mul (up e))) zero-le
  below_whole (suc m) e t =
      le_trans (le_of_eq (sym (mul-one (suc m * up e))))
      (values_of_le (fin false (suc m) e) (whole_number n) (suc m * up e) (down e) n 1 (lt→ltb 0 (suc m) (zero-lt-suc m))
      (positive_of_value (whole_number n) n 1 whole_value (ltb→lt 0 n (T-first (ltb 0 n) (leb n (2 ^ 53)) exact)))
      (refl, refl) whole_value t)

  -- no infinity is at most n
  infinity : T (le (inf false) (whole_number n)) → ⊥
  infinity t = go (whole_number n) whole_value t
    where
      go : (y : Float) → HasValue y false n 1 → T (le (inf false) y) → ⊥
      go nan v t = v
      go (inf s) v t = v
      go (fin s m e) v t = unfold le lt in t

  units_up_to : (q k : ℕ) → T (le (units binary64 false q k) (whole_number n)) → UpTo n (units binary64 false q k)
  unfolding units odd
  units_up_to q k = go q (ltb (q * 2 ^ k) (2 ^ (low binary64 + suc (emax binary64))))
    where
      go : (q : ℕ) (small : Bool) → T (le (value k q small) (whole_number n)) → UpTo n (value k q small)
      go zero true t = up_to (λ u. absurd u) (below_whole 0 (pos 0) t)
      go (suc q) true t = up_to (λ u. absurd u) (below_whole _ _ t)
      go zero false t = absurd (infinity t)
      go (suc q) false t = absurd (infinity t)

  -- ±a / c, where it is not below 0
  pub round_up_to : (s : Bool) (a c : ℕ) → 0 < c → (T s → a ≡ 0) → a ≤ n * c → UpTo n (round binary64 s a c)
  unfolding whole_number of_int
  round_up_to true a c C z h =
      subst (UpTo n) (sym (round_same binary64 true a c 0 1 C (lit< tt) (mul-one a ∙ z tt ∙ sym (zero-mul c))))
      (unfold round in up_to (λ u. refl) zero-le)
  round_up_to false a c C z h =
      let t = round_mono binary64 a c n 1 C (lit< tt) (le_trans (le_of_eq (mul-one a)) h) in
      let same = round_is binary64 false a c in
      let units_of = a * 2 ^ low binary64 in
      subst (UpTo n) (sym same)
      (units_up_to (kept 53 units_of c) (drop 53 units_of c) (subst (λ (x : Float). T (le x (whole_number n))) same t))

-- ---- the operations
-- a choice by `cond`, as the library makes it in a sum
either_up_to : (n : ℕ) (w : Bool) {x y : Float} → (T w → UpTo n x) → (T (not w) → UpTo n y) → UpTo n (cond w x y)
either_up_to n true f g = f tt
either_up_to n false f g = g tt

-- a choice by `pick`, as in the distance
picked_up_to : (n : ℕ) (w : Bool) {x y : Float} → (T w → UpTo n x) → (T (not w) → UpTo n y) → UpTo n (pick w x y)
unfolding pick
picked_up_to n true f g = f tt
picked_up_to n false f g = g tt

pub whole_up_to : (n : ℕ) → Exact n → (r : ℕ) → r ≤ n → UpTo n (whole_number r)
unfolding whole_number of_int
whole_up_to n exact r h = round_up_to n exact false r 1 (lit< tt) (λ u. absurd u) (le_trans h (le_of_eq (sym (mul-one n))))

-- p * 2 ^ d times a number up to n, which is at most k
pub product_up_to : (n k : ℕ) → Exact k → (p : ℕ) (d : ℤ) → ((X Y : ℕ) → X ≤ n * Y → p * up d * X ≤ k * (down d * Y))
    → {x : Float} → UpTo n x → UpTo k (fin false p d ⊗ x)
unfolding mul
product_up_to n k exact p d part (up_to {s} {m} {e} f h) =
    round_up_to k exact (unlike false s) (p * up d * (m * up e)) (down d * down e) (mul-pos (down_pos d) (down_pos e))
    (λ t. zero (f (sign s t))) (part (m * up e) (down e) h)
  where
    sign : (s : Bool) → T (unlike false s) → T s
    sign true t = t
    sign false t = t

    zero : m ≡ 0 → p * up d * (m * up e) ≡ 0
    zero z = ap (λ (y : ℕ). p * up d * (y * up e)) z ∙ ap (λ (y : ℕ). p * up d * y) (zero-mul (up e)) ∙ mul-zero (p * up d)

pub half_up_to : (n : ℕ) → Exact n → {x : Float} → UpTo n x → UpTo n (x ⊘ whole_number 2)
unfolding whole_number div of_int
half_up_to n exact (up_to {s} {m} {e} f h) =
    round_up_to n exact (unlike s false) (m * up e * 1) (2 * down e) (mul-pos (lit< tt) (down_pos e))
    (λ t. mul-one (m * up e) ∙ ap (λ (y : ℕ). y * up e) (f (sign s t)) ∙ zero-mul (up e)) (twice (m * up e) (down e) h)
  where
    sign : (s : Bool) → T (unlike s false) → T s
    sign true t = t
    sign false t = t

    twice : (x y : ℕ) → x ≤ n * y → x * 1 ≤ n * (2 * y)
    twice x y h = let p = mul_left_comm n 2 y in omega arith

-- ---- sums and differences, over a common denominator c
module _ (n : ℕ) (exact : Exact n) (s t : Bool) (a b c : ℕ) (C : 0 < c) (f : T s → a ≡ 0) (g : T t → b ≡ 0) where
  -- ±a / c + ±b / c, where neither is below 0
  total_up_to : a + b ≤ n * c → UpTo n (sum binary64 s a t b c)
  unfolding sum
  total_up_to h =
      either_up_to n (beq s t)
      (λ e. round_up_to n exact s (a + b) c C (λ u. let p = f u in let q = g (alike s t e u) in omega arith) h)
      (λ _. either_up_to n (ltb a b)
      (λ _. round_up_to n exact t (b - a) c C (λ u. let q = g u in omega arith) (omega arith))
      (λ _. round_up_to n exact (s && ltb b a) (a - b) c C (λ u. let p = f (T-first s (ltb b a) u) in omega arith) (omega arith)))
    where
      alike : (s t : Bool) → T (beq s t) → T s → T t
      alike true true e u = tt
      alike true false e u = e
      alike false t e u = absurd u

  -- ±a / c - ±b / c, where neither is below 0 and a is at least b
  difference_up_to : b ≤ a → a ≤ n * c → UpTo n (sum binary64 s a (not t) b c)
  unfolding sum
  difference_up_to o h =
      either_up_to n (beq s (not t))
      (λ e. let z = subtrahend s t e f g in round_up_to n exact s (a + b) c C (λ u. let p = f u in omega arith) (omega arith))
      (λ _. either_up_to n (ltb a b)
      (λ _. round_up_to n exact (not t) (b - a) c C (λ u. omega arith) (omega arith))
      (λ _. round_up_to n exact (s && ltb b a) (a - b) c C (λ u. let p = f (T-first s (ltb b a) u) in omega arith) (omega arith)))
    where
      -- signs that the sum meets as equal leave no b to subtract
      subtrahend : (s t : Bool) → T (beq s (not t)) → (T s → a ≡ 0) → (T t → b ≡ 0) → b ≡ 0
      subtrahend true t e f g = let p = f tt in omega arith
      subtrahend false true e f g = g tt
      subtrahend false false e f g = absurd e

-- a size x / d over the denominators d * e and e * d
over : (n x d e : ℕ) → x ≤ n * d → x * e ≤ n * (d * e)
over n x d e h = le_trans (mul-le-mul_right e h) (le_of_eq (mul_assoc n d e))

over_other : (n x d e : ℕ) → x ≤ n * d → x * e ≤ n * (e * d)
over_other n x d e h = le_trans (over n x d e h) (le_of_eq (ap (λ (y : ℕ). n * y) (mul_comm d e)))

zero_over : (s : Bool) (m u d : ℕ) → (T s → m ≡ 0) → T s → m * u * d ≡ 0
zero_over s m u d f t = ap (λ (y : ℕ). y * u * d) (f t) ∙ ap (λ (y : ℕ). y * d) (zero-mul u) ∙ zero-mul d

pub sum_up_to : (n k : ℕ) → Exact (n + k) → {x y : Float} → UpTo n x → UpTo k y → UpTo (n + k) (x ⊕ y)
unfolding add
sum_up_to n k exact (up_to {s} {m} {e} f h) (up_to {s = t} {m = l} {e = d} g i) =
    total_up_to (n + k) exact s t (m * up e * down d) (l * up d * down e) (down e * down d) (mul-pos (down_pos e) (down_pos d))
    (zero_over s m (up e) (down d) f) (zero_over t l (up d) (down e) g)
    (omega (arith, over n (m * up e) (down e) (down d) h, over_other k (l * up d) (down d) (down e) i, add-mul n k (down e * down d)))

-- ---- the distance
-- the test ±a < ±b, where neither is below 0
below_le : (s t : Bool) (a b : ℕ) → (T s → a ≡ 0) → (T t → b ≡ 0) → T (below s a t b) → a ≤ b
below_le false false a b f g w = let q = ltb→lt a b w in omega arith
below_le false true a b f g w = absurd w
below_le true t a b f g w = let p = f tt in omega arith

not_below_le : (s t : Bool) (a b : ℕ) → (T s → a ≡ 0) → (T t → b ≡ 0) → T (not (below s a t b)) → b ≤ a
not_below_le false false a b f g w = nltb→le a b w
not_below_le s true a b f g w = let q = g tt in omega arith
not_below_le true false a b f g w = let q = nltb→le 0 (a + b) w in omega arith

pub distance_up_to : (n : ℕ) → Exact n → {x y : Float} → UpTo n x → UpTo n y → UpTo n (distance x y)
unfolding lt sub neg add
distance_up_to n exact (up_to {s} {m} {e} f h) (up_to {s = t} {m = l} {e = d} g i) =
    let a = m * up e * down d in
    let b = l * up d * down e in
    let p = zero_over s m (up e) (down d) f in
    let q = zero_over t l (up d) (down e) g in
    picked_up_to n (below t b s a)
    (λ w. difference_up_to n exact s t a b (down e * down d) (mul-pos (down_pos e) (down_pos d)) p q
    (below_le t s b a q p w) (over n (m * up e) (down e) (down d) h))
    (λ w. difference_up_to n exact t s b a (down d * down e) (mul-pos (down_pos d) (down_pos e)) q p
    (not_below_le t s b a q p w) (over n (l * up d) (down d) (down e) i))
