-- fates-told: the outcome of every session number is the fate that the log tells, from what each call's step makes of it.
use mathlib.Core.Path.{◌≡◌, refl, sym, ap, ◌∙◌}
use mathlib.Core.List.{List, [], ◌∷◌, ◌++◌}
use Prim.Native.Nat.{ℕ, ◌<◌}
use native.Mathlib.Omega.{arith}
use Rattle.laws.specs.Result.{ok}
use Rattle.laws.specs.Runs.{run, log_of, fold}
use Rattle.state.specs.declared.Session.{Session}
use Rattle.state.specs.declared.Setup.{Setup}
use Rattle.state.specs.declared.Connection.{Connection}
use Rattle.protocol.specs.Queue.{slot}
use Rattle.protocol.specs.Connection.{Cause, at, far_start, ending}
use Rattle.protocol.specs.Judge.{Ending, goes_on, ends, Effect, Decision, refuse, violate, accept, continued}
use Rattle.protocol.specs.Observed.{Event}
use Rattle.protocol.specs.Asked.{is_unsent}
use Rattle.protocol.specs.Fate.{Fate, no_fate, fate_of, fate_after, Ended, fate_ended}
use Rattle.protocol.proofs.Fates.{ending_fate}
use Rattle.history.specs.Log.{Call, State, next, out, made, Proper}
use Rattle.history.proofs.Decisions.{decide, next_by, out_by, next_is, out_is}
use Rattle.history.specs.Account.{Account, reported, blank_account, account_after}
use Rattle.history.specs.Fates.{end_told, fate_by_entry, Fated, fated_after, fate_told}
use Rattle.history.specs.Claims.{FatesTold}
use Rattle.history.proofs.Good.{Ok, base, Good, own_at, other_at, setup_of, holds, account_of, ended_as}
use Rattle.history.proofs.Receives.{GoodBy}
use Rattle.history.proofs.Simulation.{decide_good, ended_at, by_number, own_ok, next_ok, next_account, made_ok, made_account, fresh_at}

append_first : (a b : List Event) → a ++ b ≡ [] → a ≡ []
append_first [] b e = refl
append_first (x ∷ a) b e = absurd (let z : ◌≡◌ {A = ℕ} 0 1 = cc in omega arith)

abbrev pub outcome_at : Connection → ℕ → Fate
outcome_at c n = fate_of (at c n).outcome

module _ (s : State) (o : Ok (setup_of s.connection) s) (k : Call) where
  module _ (e : Effect) (g : Good (setup_of s.connection) s k e) where
    -- what the report tells of a number, and what its session then holds
    abbrev Told : ℕ → Type 0
    Told n = outcome_at (base s.connection e) n ≡ fold (fate_after (is_unsent (holds s n).sends)) (outcome_at s.connection n) (reported n k e.report)

    told_at : (n : ℕ) → n < 128 → Told n
    unfolding fold
    told_at =
        by_number s o k e g Told (ap (λ (x : Session). fate_of x.outcome) (own_at s o k e g) ∙ g.fated)
        (λ n h d. ap (λ (x : Session). fate_of x.outcome) (other_at s o k e g n d)
        ∙ sym (ap (λ (es : List Event). fold (fate_after (is_unsent (holds s n).sends)) (outcome_at s.connection n) es) (append_first (reported n k e.report) _ (g.others n d))))

    -- if the connection ends, no session is told anything
    untold_at : (cause : Cause) → e.ending ≡ ends cause → (n : ℕ) → n < 128 → (at (base s.connection e) n ≡ at s.connection n) × (reported n k e.report ≡ [])
    untold_at cause z =
        by_number s o k e g (λ n. (at (base s.connection e) n ≡ at s.connection n) × (reported n k e.report ≡ []))
        (let w = g.end_alone cause z in (own_at s o k e g ∙ w.0, w.1))
        (λ n h d. (other_at s o k e g n d, append_first (reported n k e.report) _ (g.others n d)))

    fate_taken : (n : ℕ) → n < 128 → (en : Ending) → e.ending ≡ en
        → outcome_at (continued en (base s.connection e)) n ≡ fate_by_entry n (account_of s n) (outcome_at s.connection n) (out_by s k (accept e))
    unfolding fold
    fate_taken n h goes_on z =
        told_at n h
        ∙ sym (ap (λ (w : Ended). fate_ended (holds s n) w (fold (fate_after (is_unsent (holds s n).sends)) (outcome_at s.connection n) (reported n k e.report))) (g.ends_so ∙ ap ended_as z))
    fate_taken n h (ends cause) z =
        let w = untold_at cause z n h in
        ap (λ (x : Session). fate_of x.outcome) (ended_at cause (base s.connection e) n ∙ ap (ending cause) w.0)
        ∙ ending_fate (far_start s.connection) (at s.connection n) (slot n s.queue) cause
        ∙ sym (ap (λ (v : Ended). fate_ended (holds s n) v (outcome_at s.connection n)) (g.ends_so ∙ ap ended_as z))
        ∙ sym (ap (λ (es : List Event). fate_ended (holds s n) (end_told k (ok e.report)) (fold (fate_after (is_unsent (holds s n).sends)) (outcome_at s.connection n) es)) w.1)

  fate_by_lem : (d : Decision) → GoodBy s k d → (n : ℕ) → n < 128
      → outcome_at (next_by s k d).connection n ≡ fate_by_entry n (account_of s n) (outcome_at s.connection n) (out_by s k d)
  unfolding fold
  fate_by_lem (refuse j) g n h = refl
  fate_by_lem (violate b) g n h =
      ap (λ (x : Session). fate_of x.outcome) (ended_at b.cause s.connection n)
      ∙ ending_fate (far_start s.connection) (at s.connection n) (slot n s.queue) b.cause
      ∙ ap (λ (w : Ended). fate_ended (holds s n) w (outcome_at s.connection n)) g.told.ends_so
  fate_by_lem (accept e) g n h = fate_taken e g n h e.ending refl

module _ (setup : Setup) (n : ℕ) (h : n < 128) where
  pub fate_next : (s : State) (k : Call) → Ok setup s → outcome_at (next s k).connection n ≡ fate_by_entry n (account_of s n) (outcome_at s.connection n) (out s k)
  fate_next s k o = rw (next_is, out_is) (fate_by_lem s (own_ok setup s o) k (decide s.connection s.queue k) (decide_good s (own_ok setup s o) k) n h)

  fate_run : (s : State) (ks : List Call) → Ok setup s → (z : Fated) → z.account ≡ account_of s n → z.fate ≡ outcome_at s.connection n
      → outcome_at (run next out s ks).connection n ≡ (fold (fated_after setup n) z (log_of next out s ks)).fate
  unfolding run log_of fold fated_after
  fate_run s [] o z p q = sym q
  fate_run s (k ∷ ks) o z p q =
      fate_run (next s k) ks (next_ok setup s k o) (fated_after setup n z (out s k))
      (ap (λ (a : Account). account_after setup n a (out s k)) p ∙ sym (next_account setup s k o n h))
      (ap (λ (a : Account). fate_by_entry n a z.fate (out s k)) p ∙ ap (λ (f : Fate). fate_by_entry n (account_of s n) f (out s k)) q ∙ sym (fate_next s k o))

  -- for every role, header number, queue and list of calls
  pub fates_told : Proper setup → (queue : List ℕ) (calls : List Call) → FatesTold setup queue calls n
  unfolding fate_told
  fates_told hh queue calls =
      fate_run (made setup queue) calls (made_ok setup hh queue) (record { account = blank_account setup; fate = no_fate }) (sym (made_account setup queue n h))
      (sym (ap (λ (x : Session). fate_of x.outcome) (fresh_at setup n h)))
