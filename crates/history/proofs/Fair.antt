-- Nobody waits for ever: the engine serves the nearest ready number after its mark, so the round-robin law holds of its runs.
use mathlib.Core.Path.{◌≡◌, refl, sym, ap, ◌∙◌, subst}
use mathlib.Core.Bool.{Bool, true, false, not}
use mathlib.Core.List.{List, [], ◌∷◌, ◌++◌}
use Prim.Native.Nat.{ℕ, ◌≤◌, ◌<◌}
use native.Mathlib.Omega.{arith}
use lib.ListN.{length}
use lib.Dec.{eqb}
use Rattle.laws.specs.Runs.{run, log_of, fold, Every, gather}
use Rattle.laws.proofs.Circle.{gap_le}
use Rattle.laws.proofs.Runs.{Move, still, Scheduler, stays_run, waited, run_append, log_append, log_split}
use Rattle.laws.proofs.Tests.{and_first, and_second, and_both, not_true, or_first, or_second, true_false}
use Rattle.wire.specs.declared.Role.{Role}
use Rattle.state.specs.declared.Setup.{Setup}
use Rattle.protocol.specs.Queue.{slot}
use Rattle.protocol.specs.Connection.{at, far_start, ended}
use Rattle.protocol.specs.Judge.{Ending, goes_on, ends, Effect, Decision, refuse, violate, accept, continued}
use Rattle.protocol.specs.Observed.{is_ready, any_lapse, Seen, observe}
use Rattle.protocol.proofs.Views.{look}
use Rattle.history.specs.Log.{Call, State, Entry, next, out, made, Proper}
use Rattle.history.specs.Log as log
use Rattle.history.proofs.Decisions.{decide, next_by, out_by, next_is, out_is}
use Rattle.history.specs.Written.{written_up_to, all_written}
use Rattle.history.specs.Account.{Account, events}
use Rattle.history.specs.Claims.{ready, data_number, data_written, has, is_over, lapse, waits_on, Waits}
use Rattle.history.proofs.Good.{Ok, base, setup_of, own_of, holds, ready_at}
use Rattle.history.proofs.Sessions.{own_has}
use Rattle.history.proofs.Violations.{broken_no_data}
use Rattle.history.proofs.Receives.{GoodBy}
use Rattle.history.proofs.Simulation.{decide_good, queue_refused, queue_violated, ended_holds, taken, taken_holds, accepted_holds, by_number, same_setup, own_ok, next_ok, observed_is, run_made}

-- ---- what is written by a call that is refused

pub nothing_data : (r : Role) → gather data_number (all_written r []) ≡ []
unfolding gather written_up_to
nothing_data r = refl

-- ---- what an entry that is waited on tells

quiet_data : (s : Setup) (n : ℕ) (e : Entry) → waits_on s n e ≡ true → has n (data_written s e) ≡ false
quiet_data s n e h = not_true (has n (data_written s e)) (and_first (not (has n (data_written s e))) (not (lapse s n e)) h)

quiet_lapse : (s : Setup) (n : ℕ) (e : Entry) → waits_on s n e ≡ true → any_lapse (events s.role n e) ≡ false
quiet_lapse s n e h =
    or_first (any_lapse (events s.role n e)) (is_over s e)
    (not_true (lapse s n e) (and_second (not (has n (data_written s e))) (not (lapse s n e)) h))

-- ---- the engine is such a scheduler

module _ (s : State) (o : Ok (setup_of s.connection) s) (k : Call) where
  marked : (en : Ending) (e : Effect) → (continued en (base s.connection e)).last ≡ e.last
  marked goes_on e = refl
  marked (ends cause) e = refl

  moves_by : (d : Decision) → GoodBy s k d
      → Move (ready_at s) s.connection.last (next_by s k d).connection.last (data_written (setup_of s.connection) (out_by s k d))
  moves_by (refuse n) g = still (nothing_data (setup_of s.connection).role) refl
  moves_by (violate b) g = still (broken_no_data s k b g.told) refl
  moves_by (accept e) g =
      subst (λ (m : ℕ). Move (ready_at s) s.connection.last m (data_written (setup_of s.connection) (out_by s k (accept e)))) (sym (marked e.ending e)) g.moves

  stays_by : (d : Decision) → GoodBy s k d → (n : ℕ) → n < 128 → ready_at s n ≡ true → waits_on (setup_of s.connection) n (out_by s k d) ≡ true
      → ready_at (next_by s k d) n ≡ true
  unfolding fold
  stays_by (refuse j) g n h r q =
      ap (λ (l : List ℕ). is_ready (look (far_start s.connection) (at s.connection n) (slot n l)).sends) (queue_refused s.connection s.queue k j) ∙ r
  stays_by (violate b) g n h r q =
      ap (λ (l : List ℕ). is_ready (look (far_start s.connection) (at (ended b.cause s.connection) n) (slot n l)).sends) (queue_violated s.connection s.queue k b)
      ∙ ap (λ (v : Seen). is_ready v.sends) (ended_holds s b.cause n) ∙ r
  stays_by (accept e) g n h r q =
      ap (λ (v : Seen). is_ready v.sends) (accepted_holds s o k e g e.ending n)
      ∙ by_number s o k e g (λ i. ready_at s i ≡ true → waits_on (setup_of s.connection) i (out_by s k (accept e)) ≡ true → is_ready (holds (taken s o k e g) i).sends ≡ true)
      own other n h r q
    where
      own : ready_at s e.number ≡ true → waits_on (setup_of s.connection) e.number (out_by s k (accept e)) ≡ true → is_ready (holds (taken s o k e g) e.number).sends ≡ true
      own r' q' =
          let w = quiet_lapse (setup_of s.connection) e.number (out_by s k (accept e)) q' in
          let z = quiet_data (setup_of s.connection) e.number (out_by s k (accept e)) q' in
          ap (λ (v : Seen). is_ready v.sends) (taken_holds s o k e g e.number g.inside ∙ sym g.seen) ∙ g.lasts r' w z

      other : (i : ℕ) → i < 128 → (e.number ≡ i → ⊥) → ready_at s i ≡ true → waits_on (setup_of s.connection) i (out_by s k (accept e)) ≡ true → is_ready (holds (taken s o k e g) i).sends ≡ true
      other i hi d r' q' =
          ap (λ (v : Seen). is_ready v.sends)
          (taken_holds s o k e g i hi ∙ ap (fold (observe (own_of (setup_of s.connection)) (far_start s.connection)) (holds s i)) (g.others i d)) ∙ r'

quiet_other : (s : Setup) (e : Entry) (n : ℕ) → waits_on s n e ≡ true → data_written s e ≡ n ∷ [] → ⊥
quiet_other s e n q p = true_false (own_has n) (sym (ap (has n) p) ∙ quiet_data s n e q)

module _ (setup : Setup) where
  pub scheduler : Scheduler next out (data_written setup) (waits_on setup) (Ok setup) (λ s. s.connection.last) ready_at
  scheduler =
      record {
        keeps = next_ok setup;
        bound = λ s o. o.last;
        moves =
            λ s k o. rw (next_is, out_is) (subst (λ (z : Setup). Move (ready_at s) s.connection.last (next_by s k (decide s.connection s.queue k)).connection.last (data_written z (out_by s k (decide s.connection s.queue k))))
            (same_setup setup s o) (moves_by s (own_ok setup s o) k (decide s.connection s.queue k) (decide_good s (own_ok setup s o) k)));
        stays =
            λ s k n o h r q. rw next_is (stays_by s (own_ok setup s o) k (decide s.connection s.queue k) (decide_good s (own_ok setup s o) k) n h r
            (subst (λ (z : Setup). waits_on z n (out_by s k (decide s.connection s.queue k)) ≡ true) (sym (same_setup setup s o)) (rw out_is at q)));
        other = quiet_other setup;
      }

-- ---- waits, for a log

module _ (setup : Setup) (hh : Proper setup) (queue : List ℕ) where
  pub ready_is : (ks : List Call) (n : ℕ) → n < 128 → ready setup n (log.log setup queue ks) ≡ ready_at (log.run setup queue ks) n
  ready_is ks n h = ap (λ (a : Account). is_ready a.seen.sends) (observed_is setup hh queue ks n h)

  waits_calls : (p q : List Call) (n : ℕ) → n < 128 → ready setup n (log.log setup queue p) ≡ true → Every (waits_on setup n) (log_of next out (log.run setup queue p) q)
      → Waits setup n (log.log setup queue p) (log_of next out (log.run setup queue p) q)
  waits_calls p q n h r quiet =
      let s = log.run setup queue p in
      let o = run_made setup hh queue p in
      let rs : ready_at (log.run setup queue p) n ≡ true = sym (ready_is p n h) ∙ r in
      let w = waited next out (data_written setup) (waits_on setup) (Ok setup) (λ z. z.connection.last) ready_at (scheduler setup) s q n o h rs quiet in
      let st = stays_run next out (data_written setup) (waits_on setup) (Ok setup) (λ z. z.connection.last) ready_at (scheduler setup) s q n o h rs quiet in
      record {
        still_ready =
            ap (λ (l : List Entry). ready setup n l) (sym (log_append next out (made setup queue) p q)) ∙ ready_is (p ++ q) n h
            ∙ ap (λ (z : State). ready_at z n) (run_append next out (made setup queue) p q) ∙ st;
        each_once = λ m hm. (w.each m hm).once;
        at_most_127 = omega (arith, w.total, gap_le s.connection.last n);
      }

  pub waits_log : (ks : List Call) (a b c : List Entry) → log.log setup queue ks ≡ a ++ (b ++ c) → (n : ℕ) → n < 128 → ready setup n a ≡ true → Every (waits_on setup n) b → Waits setup n a b
  waits_log ks a b c e n h r quiet =
      let x = log_split next out (made setup queue) ks a (b ++ c) e in
      let y = log_split next out (run next out (made setup queue) x.early) x.later b c x.second in
      subst (λ (l : List Entry). Waits setup n l b) x.first
      (subst (λ (l : List Entry). Waits setup n (log.log setup queue x.early) l) y.first
      (waits_calls x.early y.early n h (ap (ready setup n) x.first ∙ r) (subst (λ (l : List Entry). Every (waits_on setup n) l) (sym y.first) quiet)))

  -- either n's own data message is among those written, or every entry is one that n waits on
  none_of : (n : ℕ) (b : List Entry) → Every (λ e. not (lapse setup n e)) b → has n (gather (data_written setup) b) ≡ false → Every (waits_on setup n) b
  unfolding Every gather
  none_of n [] q z = tt
  none_of n (e ∷ b) q z =
      let f = has_append n (data_written setup e) (gather (data_written setup) b) z in
      (and_both (ap not f.0) q.0, none_of n b q.1 f.1)
    where
      has_append : (n : ℕ) (a b : List ℕ) → has n (a ++ b) ≡ false → (has n a ≡ false) × (has n b ≡ false)
      has_append n [] b z = (refl, z)
      has_append n (k ∷ a) b z =
          let first = or_first (eqb k n) (has n (a ++ b)) z in
          let rest = has_append n a b (or_second (eqb k n) (has n (a ++ b)) z) in
          (rw (first, rest.0), rest.1)

  pub own_log : (ks : List Call) (a b c : List Entry) → log.log setup queue ks ≡ a ++ (b ++ c) → (n : ℕ) → n < 128 → ready setup n a ≡ true
      → Every (λ e. not (lapse setup n e)) b → 128 ≤ length (gather (data_written setup) b) → has n (gather (data_written setup) b) ≡ true
  own_log ks a b c e n h r quiet many = go (has n (gather (data_written setup) b)) refl
    where
      go : (f : Bool) → has n (gather (data_written setup) b) ≡ f → f ≡ true
      go true z = refl
      go false z = let w = (waits_log ks a b c e n h r (none_of n b quiet z)).at_most_127 in absurd (omega arith)
