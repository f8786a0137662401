-- Every entry of a log comes from a call, made after the calls before it: from the way logs split.
use mathlib.Core.Path.{◌≡◌, refl, subst}
use mathlib.Core.List.{List, [], ◌∷◌, ◌++◌}
use Prim.Native.Nat.{ℕ}
use native.Mathlib.Omega.{arith}
use Rattle.laws.specs.Runs.{log_of}
use Rattle.laws.proofs.Runs.{log_split, Split}
use Rattle.state.specs.declared.Setup.{Setup}
use Rattle.history.specs.Log.{Call, State, Entry, next, out, made}
use Rattle.history.specs.Log as log

module _ (setup : Setup) (queue : List ℕ) where
  -- an entry comes from a call, after those before it
  pub record At (a : List Entry) (e : Entry) : Type 0 where
    pub before : List Call
    pub call : Call
    pub log_before : log.log setup queue before ≡ a
    pub entry : out (log.run setup queue before) call ≡ e

  pub entry_at : (ks : List Call) (a c : List Entry) (e : Entry) → log.log setup queue ks ≡ a ++ (e ∷ c) → At a e
  unfolding log_of
  entry_at ks a c e h = go (log_split next out (made setup queue) ks a (e ∷ c) h)
    where
      first_of : (s : State) (l : List Call) → log_of next out s l ≡ e ∷ c → (k : Call) × (out s k ≡ e)
      first_of s [] z = absurd (let w : ◌≡◌ {A = ℕ} 0 1 = cc in omega arith)
      first_of s (k ∷ l) z = (k, cc)

      go : Split next out (made setup queue) a (e ∷ c) → At a e
      go x =
          let y = first_of (log.run setup queue x.early) x.later x.second in
          record { before = x.early; call = y.0; log_before = x.first; entry = y.1 }

  -- what holds of a call after any calls holds of every entry of a log
  pub of_entries : (P : List Entry → Entry → Type 0) → ((ks : List Call) (k : Call) → P (log.log setup queue ks) (out (log.run setup queue ks) k))
      → (ks : List Call) (a c : List Entry) (e : Entry) → log.log setup queue ks ≡ a ++ (e ∷ c) → P a e
  of_entries P f ks a c e h =
      let x = entry_at ks a c e h in
      subst (λ (l : List Entry). P l e) x.log_before (subst (P (log.log setup queue x.before)) x.entry (f x.before x.call))

-- an entry tells its call
pub call_told : (s : State) (k : Call) → (out s k).call ≡ k
unfolding out
call_told s k = refl
