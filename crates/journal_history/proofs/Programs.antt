-- What every step of a program keeps true of a number: the kinds in its journal are those of its sessions, and its flag is set exactly
-- while the session that it names waits for its fate.
use mathlib.Core.Path.{◌≡◌, refl, sym, ap, ◌∙◌}
use mathlib.Core.Bool.{Bool, true, false, not}
use mathlib.Core.List.{List, [], ◌∷◌, ◌++◌, append_assoc}
use Prim.Native.Nat.{ℕ, ◌≤◌, ◌<◌}
use lib.Dec.{eqb}
use Rattle.laws.specs.Pick.{pick}
use Rattle.laws.specs.Runs.{fold, gather}
use Rattle.laws.proofs.Tests.{true_false}
use Rattle.ration.specs.declared.Ration.{Ration}
use Rattle.ration.specs.Ration.{from_header}
use Rattle.state.specs.declared.Side.TheVariants as side
use Rattle.state.specs.declared.Sides.{Sides}
use Rattle.state.specs.declared.Sides.TheVariants as sides
use Rattle.state.specs.declared.Setup.{Setup}
use Rattle.protocol.specs.Observed.{Event, Sending, sends_after, Seen, observe}
use Rattle.protocol.specs.Held.{sends_of}
use Rattle.protocol.specs.Asked.{is_unsent}
use Rattle.protocol.specs.Fate.{Fate, no_fate, running, complete, may_be_retried, must_not_be_retried}
use Rattle.history.specs.Log.{Call, State, Entry, out, Proper}
use Rattle.history.specs.Log as log
use Rattle.history.specs.Account.{Account, account_after, events, far_of, events_by_answer}
use Rattle.history.specs.Held.{account_of}
use Rattle.history.specs.Fates.{fate_told}
use Rattle.history.proofs.Simulation.{next_account, run_made}
use Rattle.history.proofs.Outcomes.{outcome_at, fate_next, fates_told}
use Rattle.journal_history.specs.Due.{nothing_due, new_session, entry_due, fate_kind, due_running, due_fate}
use Rattle.journal_history.specs.Keep.{KeepEnding}
use Rattle.journal_history.specs.Sessions.{JournaledSession, journaled_session, is_known, journal_kinds, SessionList, all_sessions}
use Rattle.journal_history.proofs.Keeps.{Stands}
use Rattle.journal_history.proofs.Telling.{has_fate, fate_by}
use Rattle.journal_history.proofs.Openings.{log_snoc, run_snoc}

-- ---- small laws

pub gather_append : (a b : List JournaledSession) → gather journal_kinds (a ++ b) ≡ gather journal_kinds a ++ gather journal_kinds b
unfolding gather
gather_append [] b = refl
gather_append (t ∷ a) b = ap (λ (l : List ℕ). journal_kinds t ++ l) (gather_append a b) ∙ sym (append_assoc (journal_kinds t) (gather journal_kinds a) (gather journal_kinds b))

sends_fold : (own far : Ration) (v : Seen) (xs : List Event) → (fold (observe own far) v xs).sends ≡ fold (sends_after far) v.sends xs
unfolding fold
sends_fold own far v [] = refl
sends_fold own far v (x ∷ xs) = sends_fold own far (observe own far v x) xs

-- an open is unsent exactly where the sides are opening
pub opening_sides : (far : Ration) (s : Sides) (w : List ℕ) (r : Ration) (f : Bool) → is_unsent (sends_of far s w r f) ≡ true → due_running s ≡ new_session
opening_sides far sides.Idle w r f h = absurd (true_false h refl)
opening_sides far (sides.Opening b) w r f h = refl
opening_sides far (sides.Live side.Open t) w r f h = absurd (true_false h refl)
opening_sides far (sides.Live side.Finished t) w r f h = absurd (true_false h refl)
opening_sides far (sides.Live side.Ended t) w r f h = absurd (true_false h refl)

pub live_sides : (far : Ration) (s : Sides) (w : List ℕ) (r : Ration) (f : Bool) → is_unsent (sends_of far s w r f) ≡ false → due_running s ≡ nothing_due
live_sides far sides.Idle w r f h = refl
live_sides far (sides.Opening b) w r f h = absurd (true_false refl h)
live_sides far (sides.Live o t) w r f h = refl

pub not_fate : {A : Type 0} (g h : Fate) → has_fate g ≡ false → has_fate h ≡ true → g ≡ h → A
not_fate g h p r z = absurd (true_false r (ap has_fate (sym z) ∙ p))

-- ---- what is due, by the fate

pub data ByFate (flag : Bool) (f : Fate) (s : Sides) : Type 0 where
  without : f ≡ no_fate → due_fate flag f s ≡ new_session → ByFate flag f s
  still : f ≡ running → due_fate flag f s ≡ due_running s → ByFate flag f s
  known : (kind : ℕ) → is_known f ≡ true → fate_kind f ≡ kind ∷ [] → eqb kind 0 ≡ false → due_fate flag f s ≡ pick flag (entry_due kind) nothing_due
      → ByFate flag f s

pub by_fate : (flag : Bool) (f : Fate) (s : Sides) → ByFate flag f s
by_fate flag no_fate s = without refl refl
by_fate flag running s = still refl refl
by_fate flag complete s = known 1 refl refl refl refl
by_fate flag may_be_retried s = known 2 refl refl refl refl
by_fate flag must_not_be_retried s = known 3 refl refl refl refl

-- ---- the session that a number names now

-- no start of it is stored; or one is, and the flag is set until its fate is stored too
pub data Now (flag : Bool) (f : Fate) (v : Sending) : List JournaledSession → Type 0 where
  nobody : flag ≡ false → Now flag f v []
  somebody : (b : Bool) → flag ≡ not b → (b ≡ true → is_known f ≡ true) → has_fate f ≡ true → is_unsent v ≡ false → Now flag f v (journaled_session f b ∷ [])

pub group_same : (f g : Fate) (b : Bool) → (b ≡ true → g ≡ f) → journal_kinds (journaled_session f b) ≡ journal_kinds (journaled_session g b)
unfolding pick
group_same f g true h = ap (λ (x : Fate). 0 ∷ fate_kind x) (sym (h refl))
group_same f g false h = refl

module _ (n : ℕ) (n1 : 1 ≤ n) (n128 : n ≤ 128) (m : ℕ) (hm : m < 128) (setup : Setup) (hh : Proper setup) (queue : List ℕ) where
  module _ (ks : List Call) where
    abbrev pub state_of : State
    state_of = log.run setup queue ks

    abbrev pub fate_now : Fate
    fate_now = outcome_at state_of.connection m

    abbrev pub sends_now : Sending
    sends_now = (account_of state_of m).seen.sends

    -- what is kept true after these calls
    pub record Inner (starts : List Bool) (region : List ℕ) (b : SessionList) : Type 0 where
      pub flag : Bool
      pub stands : (ending : KeepEnding) (left : ℕ)
          → Stands n n1 n128 m hm (gather journal_kinds (all_sessions b)) flag (record { region = region; starts = starts; left = left; ending = ending })
      pub now : Now flag fate_now sends_now b.current
      pub unsent : is_unsent sends_now ≡ true → has_fate fate_now ≡ true

  -- ---- what a call tells

  module _ (ks : List Call) (k : Call) where
    abbrev en : Entry
    en = out (state_of ks) k

    abbrev acc : Account
    acc = account_of (state_of ks) m

    -- the fate and the sending after the call
    pub fate_is : fate_now (ks ++ k ∷ []) ≡ fate_by m en.call en.answer acc.seen (fate_now ks)
    fate_is =
        ap (λ (s : State). outcome_at s.connection m) (run_snoc setup hh queue ks k)
        ∙ fate_next setup m hm (state_of ks) k (run_made setup hh queue ks)

    pub sends_is : sends_now (ks ++ k ∷ []) ≡ fold (sends_after (far_of acc.line)) (sends_now ks) (events_by_answer setup.role m en.call en.wrote en.answer)
    unfolding account_after
    sends_is =
        ap (λ (s : State). (account_of s m).seen.sends) (run_snoc setup hh queue ks k)
        ∙ ap (λ (a : Account). a.seen.sends) (next_account setup (state_of ks) k (run_made setup hh queue ks) m hm)
        ∙ sends_fold (from_header setup.header) (far_of acc.line) acc.seen (events setup.role m en)

    pub told_is : fate_told setup m (log.log setup queue ks ++ en ∷ []) ≡ fate_now (ks ++ k ∷ [])
    told_is = ap (fate_told setup m) (sym (log_snoc setup hh queue ks k)) ∙ sym (fates_told setup m hm hh queue (ks ++ k ∷ []))
