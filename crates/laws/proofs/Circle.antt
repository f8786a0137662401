-- The circle of 128 numbers: the steps between two of them, and that the search finds the nearest; from the definitions.
use mathlib.Core.Path.{◌≡◌, refl, sym, ap, ◌∙◌}
use Prim.Native.Nat.{ℕ, zero, suc, ◌+◌, ◌-◌, ◌≤◌, ◌<◌}
use mathlib.Core.Bool.{Bool, true, false, true≢false}
use mathlib.Core.Logic.{◌⊎◌, inl, inr}
use native.Mathlib.Decide.{dec_lt}
use native.Mathlib.Omega.{arith}
use Rattle.laws.specs.Pick.{pick}
use Rattle.laws.specs.Circle.{following, gap, first_after, nearest}

pub gap_pos : (i n : ℕ) → 1 ≤ gap i n
unfolding gap
gap_pos i n = omega arith

pub gap_le : (i n : ℕ) → gap i n ≤ 128
unfolding gap
gap_le i n = omega arith

pub gap_self : (i : ℕ) → i < 128 → gap i i ≡ 128
unfolding gap
gap_self i h = omega arith

gap_following : (i : ℕ) → i < 128 → gap i (following i) ≡ 1
unfolding gap following
gap_following i h = omega arith

gap_one : (i n : ℕ) → i < 128 → n < 128 → gap i n ≡ 1 → n ≡ following i
unfolding gap following
gap_one i n hi hn h = omega arith

gap_step : (i n : ℕ) → i < 128 → n < 128 → 2 ≤ gap i n → suc (gap (following i) n) ≡ gap i n
unfolding gap following
gap_step i n hi hn h = omega arith

below : (i n : ℕ) → n < 128 → i < n → gap i n ≡ n - i
unfolding gap
below i n hn h = omega arith

above : (i n : ℕ) → i < 128 → n ≤ i → gap i n ≡ n + 128 - i
unfolding gap
above i n hi h = omega arith

-- a gap is a difference, or a difference going round
Ahead : ℕ → ℕ → Type 0
Ahead i n = (i < n × (gap i n ≡ n - i)) ⊎ (n ≤ i × (gap i n ≡ n + 128 - i))

ahead : (i n : ℕ) → i < 128 → n < 128 → Ahead i n
unfolding Ahead
ahead i n hi hn = elim (dec_lt i n) [ yes h ↦ inl (h, below i n hn h) | no h ↦ inr (omega arith, above i n hi (omega arith)) ]

-- the way by k is the way itself, or once round more
way : (i k n : ℕ) → i < 128 → k < 128 → n < 128 → (gap i k + gap k n ≡ gap i n) ⊎ (gap i k + gap k n ≡ gap i n + 128)
unfolding Ahead
way i k n hi hk hn = go (ahead i k hi hk) (ahead i n hi hn) (ahead k n hk hn)
  where
    go : Ahead i k → Ahead i n → Ahead k n → (gap i k + gap k n ≡ gap i n) ⊎ (gap i k + gap k n ≡ gap i n + 128)
    go (inl a) (inl b) (inl c) = inl (omega arith)
    go (inl a) (inl b) (inr c) = inr (omega arith)
    go (inl a) (inr b) (inl c) = inl (omega arith)
    go (inl a) (inr b) (inr c) = inl (omega arith)
    go (inr a) (inl b) (inl c) = inr (omega arith)
    go (inr a) (inl b) (inr c) = inl (omega arith)
    go (inr a) (inr b) (inl c) = inl (omega arith)
    go (inr a) (inr b) (inr c) = inr (omega arith)

-- a number passed on the way to n leaves the rest of the way
pub gap_sub : (i k n : ℕ) → i < 128 → k < 128 → n < 128 → gap i k < gap i n → gap i k + gap k n ≡ gap i n
gap_sub i k n hi hk hn h = elim (way i k n hi hk hn) [ inl e ↦ e | inr e ↦ omega (arith, gap_le k n) ]

pub gap_tri : (i k m : ℕ) → i < 128 → k < 128 → m < 128 → gap i m ≤ gap i k + gap k m
gap_tri i k m hi hk hm = elim (way i k m hi hk hm) [ inl e ↦ omega arith | inr e ↦ omega arith ]

pub gap_inj : (i k n : ℕ) → i < 128 → k < 128 → n < 128 → gap i k ≡ gap i n → k ≡ n
unfolding Ahead
gap_inj i k n hi hk hn e = go (ahead i k hi hk) (ahead i n hi hn) e
  where
    go : Ahead i k → Ahead i n → gap i k ≡ gap i n → k ≡ n
    go (inl a) (inl b) e' = omega arith
    go (inl a) (inr b) e' = omega arith
    go (inr a) (inl b) e' = omega arith
    go (inr a) (inr b) e' = omega arith

pub following_lt : (i : ℕ) → following i < 128
unfolding following
following_lt i = omega arith

first_lt : (test : ℕ → Bool) (i k : ℕ) → i < 128 → first_after test i k < 128
unfolding first_after pick
first_lt test i zero h = h
first_lt test i (suc k) h = go (first_lt test (following i) k (following_lt i)) (test (following i))
  where
    go : first_after test (following i) k < 128 → (b : Bool) → pick b (following i) (first_after test (following i) k) < 128
    go rest true = following_lt i
    go rest false = rest

-- r passes, and is not farther than n
pub record Nearest (test : ℕ → Bool) (i n r : ℕ) : Type 0 where
  pub passes : test r ≡ true
  pub near : gap i r ≤ gap i n

first_nearest : (test : ℕ → Bool) (i k n : ℕ) → i < 128 → n < 128 → test n ≡ true → gap i n ≤ k → Nearest test i n (first_after test i k)
unfolding first_after pick
first_nearest test i zero n hi hn e h = absurd (omega (arith, gap_pos i n))
first_nearest test i (suc k) n hi hn e h = go (first_nearest test (following i) k n (following_lt i) hn e) (test (following i)) refl
  where
    rest : (gap (following i) n ≤ k → Nearest test (following i) n (first_after test (following i) k)) → 2 ≤ gap i n → Nearest test i n (first_after test (following i) k)
    rest ih far =
        let s : suc (gap (following i) n) ≡ gap i n = gap_step i n hi hn far in
        let f : Nearest test (following i) n (first_after test (following i) k) = ih (omega arith) in
        let r = first_after test (following i) k in
        let t : gap i (first_after test (following i) k) ≤ gap i (following i) + gap (following i) (first_after test (following i) k) =
        gap_tri i (following i) r hi (following_lt i) (first_lt test (following i) k (following_lt i)) in
        record { passes = f.passes; near = omega (arith, gap_following i hi) }

    far : test (following i) ≡ false → 2 ≤ gap i n
    far q = elim (dec_lt (gap i n) 2) [
      | no d ↦ omega arith
      | yes d ↦ absurd (true≢false (sym e ∙ ap test (gap_one i n hi hn (omega (arith, gap_pos i n))) ∙ q))
    ]

    go : (gap (following i) n ≤ k → Nearest test (following i) n (first_after test (following i) k)) → (b : Bool) → test (following i) ≡ b
        → Nearest test i n (pick b (following i) (first_after test (following i) k))
    go ih true q = record { passes = q; near = omega (arith, gap_following i hi, gap_pos i n) }
    go ih false q = rest ih (far q)

pub nearest_lt : (test : ℕ → Bool) (i : ℕ) → i < 128 → nearest test i < 128
unfolding nearest
nearest_lt test i h = first_lt test i 128 h

-- if some number passes, the search finds one that passes and is nearest
pub nearest_found_lem : (test : ℕ → Bool) (i n : ℕ) → i < 128 → n < 128 → test n ≡ true → Nearest test i n (nearest test i)
unfolding nearest
nearest_found_lem test i n hi hn e = first_nearest test i 128 n hi hn e (gap_le i n)

-- any search that finds the nearest number that passes finds this one
pub nearest_unique : (test : ℕ → Bool) (i r : ℕ) → i < 128 → r < 128 → test r ≡ true → ((n : ℕ) → n < 128 → test n ≡ true → gap i r ≤ gap i n) → r ≡ nearest test i
nearest_unique test i r hi hr e h =
    let f : Nearest test i r (nearest test i) = nearest_found_lem test i r hi hr e in
    gap_inj i r (nearest test i) hi hr (nearest_lt test i hi) (omega (arith, f.near, h (nearest test i) (nearest_lt test i hi) f.passes))

-- tests that agree on the circle have the same nearest number
first_same : (f g : ℕ → Bool) → ((n : ℕ) → n < 128 → f n ≡ g n) → (i k : ℕ) → first_after f i k ≡ first_after g i k
unfolding first_after pick
first_same f g h i zero = refl
first_same f g h i (suc k) = rw (h (following i) (following_lt i), first_same f g h (following i) k)

pub nearest_same : (f g : ℕ → Bool) → ((n : ℕ) → n < 128 → f n ≡ g n) → (i : ℕ) → nearest f i ≡ nearest g i
unfolding nearest
nearest_same f g h i = first_same f g h i 128
