-- The result of a rule: one law for each way through its checks, and what holds if it takes.
use mathlib.Core.Path.{◌≡◌, refl, ap}
use mathlib.Core.Bool.{Bool, true, false}
use Prim.Native.Nat.{ℕ}
use Rattle.laws.proofs.Tests.{true_false}
use Rattle.protocol.specs.Plan.{Plan, stop, check, take, settle, and_then}

module _ {A B : Type 0} (bad : ℕ → B) (good : A → B) where
  pub stops : {b : Bool} (n : ℕ) (p : Plan A) → b ≡ true → settle bad good (check b n p) ≡ bad n
  unfolding settle
  stops n p e = rw e

  pub passes : {b : Bool} (n : ℕ) (p : Plan A) → b ≡ false → settle bad good (check b n p) ≡ settle bad good p
  unfolding settle
  passes n p e = rw e

-- what holds of everything that a rule can take
abbrev pub Takes : {A : Type 0} → (A → Type 0) → Plan A → Type 0
Takes P (stop n) = Unit {0}
Takes P (check b n p) = b ≡ false → Takes P p
Takes P (take a) = P a

pub takes_then : {A B : Type 0} (P : B → Type 0) (f : A → B) (p : Plan A) → Takes (λ a. P (f a)) p → Takes P (and_then f p)
takes_then P f (stop n) h = tt
takes_then P f (check b n p) h = λ e. takes_then P f p (h e)
takes_then P f (take a) h = h

-- a rule takes exactly if the test holds, and else refuses with the number w
abbrev pub Exactly : {A : Type 0} → Bool → ℕ → Plan A → Type 0
Exactly t w (stop n) = (t ≡ false) × (n ≡ w)
Exactly t w (check b n p) = (b ≡ true → (t ≡ false) × (n ≡ w)) × (b ≡ false → Exactly t w p)
Exactly t w (take a) = t ≡ true

pub takes_map : {A : Type 0} {P Q : A → Type 0} → ((a : A) → P a → Q a) → (p : Plan A) → Takes P p → Takes Q p
takes_map f (stop n) h = tt
takes_map f (check b n p) h = λ e. takes_map f p (h e)
takes_map f (take a) h = f a h

-- what holds of every number that a rule may refuse with
abbrev pub Stops : {A : Type 0} → (ℕ → Type 0) → Plan A → Type 0
Stops P (stop n) = P n
Stops P (check b n p) = P n × Stops P p
Stops P (take a) = Unit {0}

pub stops_then : {A B : Type 0} (P : ℕ → Type 0) (f : A → B) (p : Plan A) → Stops P p → Stops P (and_then f p)
stops_then P f (stop n) h = h
stops_then P f (check b n p) h = (h.0, stops_then P f p h.1)
stops_then P f (take a) h = tt

-- the result of a rule that takes exactly by the test
pub exact_takes : {A B : Type 0} (bad : ℕ → B) (good : A → B) (P : A → Type 0) (t : Bool) (w : ℕ) (p : Plan A) → Exactly t w p → Takes P p → t ≡ true
    → (a : A) × (settle bad good p ≡ good a) × P a
unfolding settle
exact_takes bad good P t w (stop n) h k e = absurd (true_false e h.0)
exact_takes bad good P t w (check true n p) h k e = absurd (true_false e (h.0 refl).0)
exact_takes bad good P t w (check false n p) h k e = exact_takes bad good P t w p (h.1 refl) (k refl) e
exact_takes bad good P t w (take a) h k e = (a, refl, k)

pub exact_stops : {A B : Type 0} (bad : ℕ → B) (good : A → B) (t : Bool) (w : ℕ) (p : Plan A) → Exactly t w p → t ≡ false → settle bad good p ≡ bad w
unfolding settle
exact_stops bad good t w (stop n) h e = ap bad h.1
exact_stops bad good t w (check true n p) h e = ap bad (h.0 refl).1
exact_stops bad good t w (check false n p) h e = exact_stops bad good t w p (h.1 refl) e
exact_stops bad good t w (take a) h e = absurd (true_false h e)

-- what holds of everything holds of all that a rule can take
pub takes_all : {A : Type 0} {P : A → Type 0} → ((a : A) → P a) → (p : Plan A) → Takes P p
takes_all f (stop n) = tt
takes_all f (check b n p) = λ e. takes_all f p
takes_all f (take a) = f a

pub takes_both : {A : Type 0} (P Q : A → Type 0) (p : Plan A) → Takes P p → Takes Q p → Takes (λ a. P a × Q a) p
takes_both P Q (stop n) h k = tt
takes_both P Q (check b n p) h k = λ e. takes_both P Q p (h e) (k e)
takes_both P Q (take a) h k = (h, k)

pub stops_all : {A : Type 0} {P : ℕ → Type 0} → ((n : ℕ) → P n) → (p : Plan A) → Stops P p
stops_all f (stop n) = f n
stops_all f (check b n p) = (f n, stops_all f p)
stops_all f (take a) = tt

pub stops_map : {A : Type 0} (P Q : ℕ → Type 0) → ((n : ℕ) → P n → Q n) → (p : Plan A) → Stops P p → Stops Q p
stops_map P Q f (stop n) h = f n h
stops_map P Q f (check b n p) h = (f n h.0, stops_map P Q f p h.1)
stops_map P Q f (take a) h = tt

-- what holds of all that a rule can refuse with and can take holds of its result
pub settled : {A B : Type 0} (P : B → Type 0) (bad : ℕ → B) (good : A → B) (p : Plan A) → Stops (λ n. P (bad n)) p → Takes (λ a. P (good a)) p
    → P (settle bad good p)
unfolding settle
settled P bad good (stop n) h k = h
settled P bad good (check true n p) h k = h.0
settled P bad good (check false n p) h k = settled P bad good p h.1 (k refl)
settled P bad good (take a) h k = k

-- if a rule that takes exactly by a test takes, the test holds
pub exact_true : {A : Type 0} (t : Bool) (w : ℕ) (p : Plan A) → Exactly t w p → Takes (λ a. t ≡ true) p
exact_true t w (stop n) h = tt
exact_true t w (check b n p) h = λ e. exact_true t w p (h.1 e)
exact_true t w (take a) h = h
