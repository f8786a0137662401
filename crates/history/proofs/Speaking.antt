-- reads-back and sends-allowed: what a call writes is read back as what it means, and may be sent then. From each call's step.
use mathlib.Core.Path.{refl, sym, subst}
use mathlib.Core.List.{List}
use Prim.Native.Nat.{ℕ, ◌<◌}
use native.Mathlib.Omega.{arith}
use Rattle.laws.specs.Runs.{Every}
use Rattle.state.specs.declared.Setup.{Setup}
use Rattle.protocol.specs.Connection.{role_of}
use Rattle.protocol.specs.Judge.{Output, Decision, refuse, violate, accept}
use Rattle.history.specs.Log.{Call, State, Entry, out, Proper}
use Rattle.history.specs.Log as log
use Rattle.history.proofs.Decisions.{decide, out_by, out_is}
use Rattle.history.specs.Account.{Account, concerned}
use Rattle.history.specs.Meant.{meant_by, ReadInOrder, may_go}
use Rattle.history.specs.Claims.{account_before, ReadsBack, SendsAllowed}
use Rattle.history.proofs.InOrder.{CookieFits, reads_fitting}
use Rattle.history.proofs.Good.{Ok, setup_of, account_of}
use Rattle.history.proofs.Violations.{broken_reads, found_goes}
use Rattle.history.proofs.Receives.{GoodBy}
use Rattle.history.proofs.Simulation.{decide_good, same_setup, own_ok, observed_is, run_made}
use Rattle.history.proofs.Entries.{of_entries}

-- what an entry writes, by what is told of the number that it concerns
pub record Speaks (s : Setup) (a : Account) (e : Entry) : Type 0 where
  pub reads : CookieFits e.call → ReadInOrder s.role e.wrote (meant_by s a e.call e.answer)
  pub allowed : Every (may_go s a e) (meant_by s a e.call e.answer)

-- ---- every decision

module _ (s : State) (o : Ok (setup_of s.connection) s) (k : Call) where
  number_in : (d : Decision) → GoodBy s k d → concerned k (out_by s k d).answer < 128
  number_in (refuse n) g = omega arith
  number_in (violate b) g = omega arith
  number_in (accept e) g = subst (λ (n : ℕ). n < 128) (sym g.concerns) g.inside

  speaks_by : (d : Decision) → GoodBy s k d → Speaks (setup_of s.connection) (account_of s (concerned k (out_by s k d).answer)) (out_by s k d)
  unfolding ReadInOrder Every
  speaks_by (refuse n) g = record { reads = λ _. refl; allowed = tt }
  speaks_by (violate b) g = record { reads = λ _. broken_reads s k b g.told o.proper; allowed = found_goes s k b g }
  speaks_by (accept e) g =
      subst (λ (n : ℕ). Speaks (setup_of s.connection) (account_of s n) (out_by s k (accept e))) (sym g.concerns)
      (record {
        reads =
            λ fits. subst (λ (os : List Output). ReadInOrder (role_of s.connection.stage) (out_by s k (accept e)).wrote os) g.means
            (reads_fitting (role_of s.connection.stage) k (out_by s k (accept e)).wrote e.outs g.reads fits);
        allowed = subst (λ (os : List Output). Every (may_go (setup_of s.connection) (account_of s e.number) (out_by s k (accept e))) os) g.means g.allowed;
      })

-- ---- for a log

module _ (setup : Setup) (hh : Proper setup) (queue : List ℕ) where
  speaks_calls : (ks : List Call) (k : Call)
      → Speaks setup (account_before setup (log.log setup queue ks) (out (log.run setup queue ks) k)) (out (log.run setup queue ks) k)
  speaks_calls ks k =
      let s = log.run setup queue ks in
      let o = run_made setup hh queue ks in
      let own = own_ok setup s o in
      let d = decide s.connection s.queue k in
      let g = decide_good s own k in
      rw out_is
      (subst (λ (a : Account). Speaks setup a (out_by s k d)) (sym (observed_is setup hh queue ks (concerned k (out_by s k d).answer) (number_in s own k d g)))
      (subst (λ (z : Setup). Speaks z (account_of s (concerned k (out_by s k d).answer)) (out_by s k d)) (same_setup setup s o) (speaks_by s own k d g)))

  -- for every role, header number, queue and list of calls
  pub reads_back : (calls : List Call) → ReadsBack setup (log.log setup queue calls)
  reads_back calls a c e z fits = (of_entries setup queue (λ l x. Speaks setup (account_before setup l x) x) speaks_calls calls a c e z).reads fits

  pub sends_allowed : (calls : List Call) → SendsAllowed setup (log.log setup queue calls)
  sends_allowed calls a c e z = (of_entries setup queue (λ l x. Speaks setup (account_before setup l x) x) speaks_calls calls a c e z).allowed
