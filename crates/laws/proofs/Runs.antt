-- Runs split as their calls do, and the round-robin law of any machine that serves the nearest ready number after a mark.
use mathlib.Core.Path.{◌≡◌, refl, ap, ◌∙◌, subst}
use mathlib.Core.Bool.{Bool, true, false}
use mathlib.Core.Logic.{◌≢◌}
use mathlib.Core.List.{List, [], ◌∷◌, ◌++◌}
use Prim.Native.Nat.{ℕ, suc, ◌≤◌, ◌<◌}
use native.Mathlib.Omega.{arith}
use lib.ListN.{length}
use lib.Dec.{eqb}
use borrow.Author.Tests.{eqb-true}
use Rattle.laws.specs.Pick.{pick}
use Rattle.laws.specs.Circle.{gap}
use Rattle.laws.specs.Runs.{run, log_of, fold, Every, gather, times}
use Rattle.laws.proofs.Circle.{gap_pos, gap_le, gap_self, gap_sub, gap_tri, gap_inj}

module _ {S C E : Type 0} (next : S → C → S) (out : S → C → E) where
  pub run_append : (s : S) (a b : List C) → run next out s (a ++ b) ≡ run next out (run next out s a) b
  unfolding run
  run_append s [] b = refl
  run_append s (c ∷ a) b = run_append (next s c) a b

  pub log_append : (s : S) (a b : List C) → log_of next out s (a ++ b) ≡ log_of next out s a ++ log_of next out (run next out s a) b
  unfolding run log_of
  log_append s [] b = refl
  log_append s (c ∷ a) b = ap (λ (l : List E). out s c ∷ l) (log_append (next s c) a b)

  -- a log split in two is the log of the calls split in two
  pub record Split (s : S) (a b : List E) : Type 0 where
    pub early : List C
    pub later : List C
    pub first : log_of next out s early ≡ a
    pub second : log_of next out (run next out s early) later ≡ b

  pub log_split : (s : S) (cs : List C) (a b : List E) → log_of next out s cs ≡ a ++ b → Split s a b
  unfolding run log_of
  log_split s cs [] b h = record { early = []; later = cs; first = refl; second = h }
  log_split s [] (e ∷ a) b h = absurd (let z : ◌≡◌ {A = ℕ} 0 1 = cc in omega arith)
  log_split s (c ∷ cs) (e ∷ a) b h =
      let p : out s c ≡ e = cc in
      let q : log_of next out (next s c) cs ≡ a ++ b = cc in
      let r = log_split (next s c) cs a b q in
      record { early = c ∷ r.early; later = r.later; first = cc; second = r.second }

pub fold_append : {W E : Type 0} (f : W → E → W) (w : W) (a b : List E) → fold f w (a ++ b) ≡ fold f (fold f w a) b
unfolding fold
fold_append f w [] b = refl
fold_append f w (e ∷ a) b = fold_append f (f w e) a b

-- ---- round robin

-- a step serves nobody and leaves the mark, or serves one number, the nearest that is ready, and puts the mark there
pub data Move (ready : ℕ → Bool) (mark mark' : ℕ) (ks : List ℕ) : Type 0 where
  still : ks ≡ [] → mark' ≡ mark → Move ready mark mark' ks
  serves : (k : ℕ) → ks ≡ k ∷ [] → mark' ≡ k → k < 128 → ((n : ℕ) → n < 128 → ready n ≡ true → gap mark k ≤ gap mark n)
      → Move ready mark mark' ks

pub record Few (i m n t : ℕ) : Type 0 where
  pub once : t ≤ 1
  pub never : gap i n ≤ gap i m → t ≡ 0

few_step : (i k m n t : ℕ) → i < 128 → k < 128 → m < 128 → n < 128 → gap i k < gap i n → Few k m n t → (b : Bool) → eqb k m ≡ b
    → Few i m n (pick b (suc t) t)
unfolding pick
few_step i k m n t hi hk hm hn h f true e =
    let q : k ≡ m = eqb-true k m e in
    let z : t ≡ 0 = f.never (subst (λ (x : ℕ). gap k n ≤ gap k x) q (omega (arith, gap_self k hk, gap_le k n))) in
    record { once = omega arith; never = λ far. absurd (omega (arith, subst (λ (x : ℕ). gap i x < gap i n) q h)) }
few_step i k m n t hi hk hm hn h f false e =
    record { once = f.once; never = λ far. f.never (omega (arith, gap_sub i k n hi hk hn h, gap_tri i k m hi hk hm)) }

-- while n waits from the mark i: fewer numbers are served than lie on the way to n, and each at most once
pub record Waited (i n : ℕ) (ks : List ℕ) : Type 0 where
  pub total : length ks < gap i n
  pub each : (m : ℕ) → m < 128 → Few i m n (times m ks)

waited_none : (i n : ℕ) → Waited i n []
unfolding times
waited_none i n = record { total = gap_pos i n; each = λ m hm. record { once = omega arith; never = λ _. refl } }

waited_one : (i k n : ℕ) (ks : List ℕ) → i < 128 → k < 128 → n < 128 → gap i k < gap i n → Waited k n ks → Waited i n (k ∷ ks)
unfolding times
waited_one i k n ks hi hk hn h w =
    record {
      total = omega (arith, w.total, gap_sub i k n hi hk hn h, gap_pos i k);
      each = λ m hm. few_step i k m n (times m ks) hi hk hm hn h (w.each m hm) (eqb k m) refl;
    }

waited_step : (ready : ℕ → Bool) (i i' n : ℕ) (ks₀ ks : List ℕ) → i < 128 → n < 128 → ready n ≡ true → (ks₀ ≡ n ∷ [] → ⊥)
    → Move ready i i' ks₀ → Waited i' n ks → Waited i n (ks₀ ++ ks)
waited_step ready i i' n ks₀ ks hi hn r other (still e em) w = rw e (rw em at w)
waited_step ready i i' n ks₀ ks hi hn r other (serves k e em hk near) w =
    let ne : gap i k ≢ gap i n = λ q. other (e ∙ ap (λ (x : ℕ). x ∷ []) (gap_inj i k n hi hk hn q)) in
    rw e (waited_one i k n ks hi hk hn (omega (arith, near n hn r)) (rw em at w))

-- a machine that serves by the mark; an entry that passes `quiet n` neither serves n nor ends its wait
pub record Scheduler {S C E : Type 0} (next : S → C → S) (out : S → C → E) (served : E → List ℕ) (quiet : ℕ → E → Bool)
    (Ok : S → Type 0) (mark : S → ℕ) (ready : S → ℕ → Bool) : Type 0 where
  pub keeps : (s : S) (c : C) → Ok s → Ok (next s c)
  pub bound : (s : S) → Ok s → mark s < 128
  pub moves : (s : S) (c : C) → Ok s → Move (ready s) (mark s) (mark (next s c)) (served (out s c))
  pub stays : (s : S) (c : C) (n : ℕ) → Ok s → n < 128 → ready s n ≡ true → quiet n (out s c) ≡ true → ready (next s c) n ≡ true
  pub other : (e : E) (n : ℕ) → quiet n e ≡ true → served e ≡ n ∷ [] → ⊥

module _ {S C E : Type 0} (next : S → C → S) (out : S → C → E) (served : E → List ℕ) (quiet : ℕ → E → Bool)
    (Ok : S → Type 0) (mark : S → ℕ) (ready : S → ℕ → Bool) (m : Scheduler next out served quiet Ok mark ready) where
  pub ok_run : (s : S) (cs : List C) → Ok s → Ok (run next out s cs)
  unfolding run
  ok_run s [] ok = ok
  ok_run s (c ∷ cs) ok = ok_run (next s c) cs (m.keeps s c ok)

  pub stays_run : (s : S) (cs : List C) (n : ℕ) → Ok s → n < 128 → ready s n ≡ true → Every (quiet n) (log_of next out s cs)
      → ready (run next out s cs) n ≡ true
  unfolding run log_of Every
  stays_run s [] n ok hn r q = r
  stays_run s (c ∷ cs) n ok hn r q = stays_run (next s c) cs n (m.keeps s c ok) hn (m.stays s c n ok hn r q.0) q.1

  pub waited : (s : S) (cs : List C) (n : ℕ) → Ok s → n < 128 → ready s n ≡ true → Every (quiet n) (log_of next out s cs)
      → Waited (mark s) n (gather served (log_of next out s cs))
  unfolding run log_of Every gather
  waited s [] n ok hn r q = waited_none (mark s) n
  waited s (c ∷ cs) n ok hn r q =
      waited_step (ready s) (mark s) (mark (next s c)) n (served (out s c)) (gather served (log_of next out (next s c) cs)) (m.bound s ok) hn r
      (m.other (out s c) n q.0) (m.moves s c ok)
      (waited (next s c) cs n (m.keeps s c ok) hn (m.stays s c n ok hn r q.0) q.1)
