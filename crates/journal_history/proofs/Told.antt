-- What one call tells of a number: its fate and whether its open is unsent, before the call and after it.
use mathlib.Core.Path.{◌≡◌, refl, sym, ap, subst, ◌∙◌}
use mathlib.Core.Bool.{Bool, true, false}
use mathlib.Core.List.{List, [], ◌∷◌, ◌++◌}
use Prim.Native.Nat.{ℕ, ◌≤◌, ◌<◌}
use lib.Seq.{take-nil}
use Rattle.laws.proofs.Tests.{true_false}
use Rattle.state.specs.declared.Session.{Session}
use Rattle.state.specs.declared.Setup.{Setup}
use Rattle.protocol.specs.Connection.{at}
use Rattle.protocol.specs.Observed.{Sending}
use Rattle.protocol.specs.Asked.{is_unsent}
use Rattle.protocol.specs.Fate.{Fate, fate_of}
use Rattle.history.specs.Log.{Call, open_session, State, Entry, called, next, out, Proper}
use Rattle.history.specs.Log as log
use Rattle.history.specs.Account.{far_of}
use Rattle.history.specs.Held.{account_of}
use Rattle.history.proofs.Outcomes.{outcome_at}
use Rattle.journal_history.specs.Sessions.{begins_session, is_known}
use Rattle.journal_history.proofs.Telling.{has_fate, fate_by, sent_stays, known_stays, fate_stays, Renewed, by_open, by_data, renewed}
use Rattle.journal_history.proofs.Openings.{run_snoc}
use Rattle.journal_history.proofs.Programs.{fate_is, sends_is}

module _ (n : ℕ) (n1 : 1 ≤ n) (n128 : n ≤ 128) (m : ℕ) (hm : m < 128) (setup : Setup) (hh : Proper setup) (queue : List ℕ) (ks : List Call) (k : Call) where
  abbrev st : State
  st = log.run setup queue ks

  abbrev en : Entry
  en = out st k

  abbrev f : Fate
  f = outcome_at st.connection m

  abbrev f' : Fate
  f' = outcome_at (log.run setup queue (ks ++ k ∷ [])).connection m

  abbrev v : Sending
  v = (account_of st m).seen.sends

  abbrev v' : Sending
  v' = (account_of (log.run setup queue (ks ++ k ∷ [])) m).seen.sends

  abbrev x' : Session
  x' = at (next st k).connection m

  silent_open : (i : ℕ) → en.call ≡ open_session i → en.wrote ≡ []
  unfolding out
  silent_open i q = subst (λ (c : Call). (out st c).wrote ≡ []) (sym q) (take-nil (called st (open_session i)).0.wrote)

  pub fate_at : fate_of x'.outcome ≡ f'
  fate_at = sym (ap (λ (s : State). outcome_at s.connection m) (run_snoc setup hh queue ks k))

  pub sends_at_lem : is_unsent (account_of (next st k) m).seen.sends ≡ is_unsent v'
  sends_at_lem = sym (ap (λ (s : State). is_unsent (account_of s m).seen.sends) (run_snoc setup hh queue ks k))

  pub renewed_so : begins_session m en ≡ true → Renewed f' v'
  renewed_so h =
      subst (λ (g : Fate). Renewed g v') (sym (fate_is n n1 n128 m hm setup hh queue ks k))
      (subst (λ (u : Sending). Renewed (fate_by m en.call en.answer (account_of st m).seen f) u) (sym (sends_is n n1 n128 m hm setup hh queue ks k))
      (renewed (far_of (account_of st m).line) setup.role m (account_of st m).seen f en.call en.answer en.wrote silent_open h))

  pub known_so : begins_session m en ≡ false → is_known f ≡ true → f' ≡ f
  known_so h q = fate_is n n1 n128 m hm setup hh queue ks k ∙ known_stays m en.call en.answer (account_of st m).seen f h q

  pub has_so : begins_session m en ≡ false → has_fate f ≡ true → has_fate f' ≡ true
  has_so h q = ap has_fate (fate_is n n1 n128 m hm setup hh queue ks k) ∙ fate_stays m en.call en.answer (account_of st m).seen f h q

  pub sent_so : begins_session m en ≡ false → is_unsent v ≡ false → is_unsent v' ≡ false
  sent_so h u =
      ap is_unsent (sends_is n n1 n128 m hm setup hh queue ks k)
      ∙ sent_stays (far_of (account_of st m).line) setup.role m en.call en.wrote en.answer v h u

  pub unsent_so : (is_unsent v ≡ true → has_fate f ≡ true) → is_unsent v' ≡ true → has_fate f' ≡ true
  unsent_so h u = go (begins_session m en) refl
    where
      new : Renewed f' v' → has_fate f' ≡ true
      new (by_open q w) = ap has_fate q
      new (by_data q w) = absurd (true_false u w)

      old : begins_session m en ≡ false → (b : Bool) → is_unsent v ≡ b → has_fate f' ≡ true
      old q true w = has_so q (h w)
      old q false w = absurd (true_false u (sent_so q w))

      go : (b : Bool) → begins_session m en ≡ b → has_fate f' ≡ true
      go true q = new (renewed_so q)
      go false q = old q (is_unsent v) refl
