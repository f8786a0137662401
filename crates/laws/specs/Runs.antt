-- Runs of any machine over a list of calls, and their logs.
use Rattle.std.specs.Prelude.{Bool, true, ◌≡◌, List, [], ◌∷◌, ◌++◌, ℕ, suc, eqb}
use Rattle.laws.specs.Pick.{pick}

-- `next` gives the state after a call, `out` the entry that it adds to the log
module _ {S C E : Type 0} (next : S → C → S) (out : S → C → E) where
  -- the state after all calls, each given what the last one left
  unfoldable pub run : S → List C → S
  run s [] = s
  run s (c ∷ cs) = run (next s c) cs

  unfoldable pub log_of : S → List C → List E
  log_of s [] = []
  log_of s (c ∷ cs) = out s c ∷ log_of (next s c) cs

-- a list of entries, folded from the left
unfoldable pub fold : {W E : Type 0} → (W → E → W) → W → List E → W
fold f w [] = w
fold f w (e ∷ es) = fold f (f w e) es

-- each entry passes the test
unfoldable pub Every : {E : Type 0} → (E → Bool) → List E → Type 0
Every p [] = Unit {0}
Every p (e ∷ es) = (p e ≡ true) × Every p es

-- all that the entries give, in order
unfoldable pub gather : {E A : Type 0} → (E → List A) → List E → List A
gather f [] = []
gather f (e ∷ es) = f e ++ gather f es

-- how often m occurs in a list
unfoldable pub times : ℕ → List ℕ → ℕ
times m [] = 0
times m (k ∷ ks) = pick (eqb k m) (suc (times m ks)) (times m ks)
