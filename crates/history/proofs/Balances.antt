-- ration-ledger and put-stream: the totals of every log balance with the state, from what each call's step lets happen.
use mathlib.Core.Path.{◌≡◌, refl, sym, ap, ◌∙◌, subst}
use mathlib.Core.Logic.{◌⊎◌, inl, inr}
use mathlib.Core.Bool.{Bool, true, false, false≢true, and-false}
use mathlib.Core.List.{List, [], ◌∷◌}
use Prim.Native.Nat.{ℕ, ◌<◌}
use lib.ListN.{take, drop}
use Rattle.laws.specs.Runs.{run, log_of, fold}
use Rattle.ration.specs.declared.Ration.{Ration}
use Rattle.wire.specs.declared.Role.{Role}
use Rattle.wire.specs.Message.{is_client}
use Rattle.state.specs.declared.Sides.{Sides}
use Rattle.state.specs.declared.Sides.TheVariants as sides
use Rattle.state.specs.declared.Session.{Session}
use Rattle.state.specs.declared.Stage.{Stage}
use Rattle.state.specs.declared.Setup.{Setup}
use Rattle.protocol.specs.Queue.{slot}
use Rattle.protocol.specs.Connection.{at, role_of, exchanged, far_start, placed}
use Rattle.protocol.specs.Judge.{Ending, goes_on, ends, Effect, Decision, refuse, violate, accept, continued}
use Rattle.protocol.specs.Observed.{Event, Sending, silent, Ends, unused, Seen, observe}
use Rattle.protocol.specs.Totals.{Totals, add_up}
use Rattle.protocol.proofs.Views.{start_told_lem, ends_of, sends_of, Formed}
use Rattle.protocol.proofs.Legal.{AllLegal}
use Rattle.protocol.proofs.Ledgers.{OutFair, InFair}
use Rattle.protocol.proofs.Streams.{Flows, Fair, fair_all, seen_all}
use Rattle.history.specs.Log.{Call, State, next, out, made, Proper}
use Rattle.history.specs.Log as log
use Rattle.history.proofs.Decisions.{decide, next_by, out_by, next_is, out_is}
use Rattle.history.specs.Meaning.{Line}
use Rattle.history.specs.Account.{line_after, Account, events, account_after, far_of}
use Rattle.history.specs.Sums.{Sum, blank_sum, sum_after, summed}
use Rattle.history.proofs.Good.{Ok, base, Good, setup_of, line_of, holds, own_of, far_by}
use Rattle.history.proofs.Receives.{GoodBy}
use Rattle.history.proofs.Simulation.{decide_good, by_number, same_setup, own_ok, next_ok, next_account, made_ok, made_account}

-- ---- a session number that is idle balances whatever the start

idle_fair : (own far : Ration) (t : Totals) → t.seen.standing ≡ unused → t.seen.sends ≡ silent → Fair own far t
idle_fair own far t e f =
    record {
      out = subst (λ (v : Sending). OutFair far t.seen.standing v t.sending) (sym f) tt;
      into = subst (λ (v : Ends). InFair own v t.seen.inbound t.receiving) (sym e) tt;
      flows = subst (λ (v : Sending). Flows v t.put t.payloads) (sym f) tt;
    }

idle_sides : {r : Role} (x : Session) → Formed r false x → x.sides ≡ sides.Idle
idle_sides {r} x f = go x.sides f.place
  where
    go : (z : Sides) → placed r false z ≡ true → z ≡ sides.Idle
    go sides.Idle e = refl
    go (sides.Opening b) e = absurd (false≢true (sym (and-false (is_client r)) ∙ e))
    go (sides.Live o t) e = absurd (false≢true e)

-- ---- one call

-- what a sum has of a state: its connection, what it holds of the number, and totals that balance
pub record Tracks (setup : Setup) (n : ℕ) (s : State) (z : Sum) : Type 0 where
  pub line : z.line ≡ line_of s.connection
  pub seen : z.totals.seen ≡ holds s n
  pub fair : Fair (own_of setup) (far_start s.connection) z.totals

module _ (s : State) (o : Ok (setup_of s.connection) s) (k : Call) (n : ℕ) (h : n < 128) where
  -- before the headers are exchanged no number is used
  unused_yet : exchanged s.connection.stage ≡ false → (t : Totals) → t.seen ≡ holds s n → (own far : Ration) → Fair own far t
  unused_yet up t e own far =
      let idle = idle_sides (at s.connection n) (subst (λ (b : Bool). Formed (role_of s.connection.stage) b (at s.connection n)) up (o.formed n h)) in
      idle_fair own far t (ap (λ (v : Seen). v.standing) e ∙ ap ends_of idle)
      (ap (λ (v : Seen). v.sends) e
      ∙ ap (λ (z : Sides). sends_of (far_start s.connection) z (take (at s.connection n).waiting (slot n s.queue)) (at s.connection n).outbound (at s.connection n).finish) idle)

  module _ (e : Effect) (g : Good (setup_of s.connection) s k e) (t : Totals) (q : t.seen ≡ holds s n) (f : Fair (own_of (setup_of s.connection)) (far_start s.connection) t) where
    abbrev added : List Event → Totals
    added es = fold (add_up (own_of (setup_of s.connection)) (far_start s.connection) (drop 4 (out_by s k (accept e)).wrote)) t es

    legal_at : AllLegal (role_of s.connection.stage) (own_of (setup_of s.connection)) (far_start s.connection) (drop 4 (out_by s k (accept e)).wrote) (holds s n)
        (events (role_of s.connection.stage) n (out_by s k (accept e)))
    legal_at =
        by_number s o k e g
        (λ i. AllLegal (role_of s.connection.stage) (own_of (setup_of s.connection)) (far_start s.connection) (drop 4 (out_by s k (accept e)).wrote) (holds s i)
        (events (role_of s.connection.stage) i (out_by s k (accept e))))
        g.legal
        (λ i _ d. subst (λ (es : List Event). AllLegal (role_of s.connection.stage) (own_of (setup_of s.connection)) (far_start s.connection) (drop 4 (out_by s k (accept e)).wrote) (holds s i) es)
        (sym (g.others i d)) tt) n h

    none_at : exchanged s.connection.stage ≡ false → events (role_of s.connection.stage) n (out_by s k (accept e)) ≡ []
    none_at up =
        by_number s o k e g (λ i. events (role_of s.connection.stage) i (out_by s k (accept e)) ≡ []) (g.unmoved up) (λ i _ d. g.others i d) n h

    fair_taken : Fair (own_of (setup_of s.connection)) (far_by e.stage) (added (events (role_of s.connection.stage) n (out_by s k (accept e))))
    unfolding fold
    fair_taken = go g.stages
      where
        go : (e.stage ≡ s.connection.stage) ⊎ (exchanged s.connection.stage ≡ false)
            → Fair (own_of (setup_of s.connection)) (far_by e.stage) (added (events (role_of s.connection.stage) n (out_by s k (accept e))))
        go (inl z) =
            subst (λ (st : Stage). Fair (own_of (setup_of s.connection)) (far_by st) (added (events (role_of s.connection.stage) n (out_by s k (accept e))))) (sym z)
            (fair_all (role_of s.connection.stage) (own_of (setup_of s.connection)) (far_start s.connection) (drop 4 (out_by s k (accept e)).wrote)
            (events (role_of s.connection.stage) n (out_by s k (accept e))) t
            (subst (λ (v : Seen). AllLegal (role_of s.connection.stage) (own_of (setup_of s.connection)) (far_start s.connection) (drop 4 (out_by s k (accept e)).wrote) v
            (events (role_of s.connection.stage) n (out_by s k (accept e)))) (sym q) legal_at) f)
        go (inr z) =
            subst (λ (es : List Event). Fair (own_of (setup_of s.connection)) (far_by e.stage) (added es)) (sym (none_at z))
            (unused_yet z t q (own_of (setup_of s.connection)) (far_by e.stage))

  far_after : (en : Ending) (e : Effect) → far_start (continued en (base s.connection e)) ≡ far_by e.stage
  far_after goes_on e = refl
  far_after (ends cause) e = refl

  fair_by : (d : Decision) → GoodBy s k d → (t : Totals) → t.seen ≡ holds s n → Fair (own_of (setup_of s.connection)) (far_start s.connection) t
      → Fair (own_of (setup_of s.connection)) (far_start (next_by s k d).connection)
      (fold (add_up (own_of (setup_of s.connection)) (far_start s.connection) (drop 4 (out_by s k d).wrote)) t (events (role_of s.connection.stage) n (out_by s k d)))
  unfolding fold
  fair_by (refuse j) g t q f = f
  fair_by (violate b) g t q f = f
  fair_by (accept e) g t q f =
      subst (λ (far : Ration). Fair (own_of (setup_of s.connection)) far (fold (add_up (own_of (setup_of s.connection)) (far_start s.connection) (drop 4 (out_by s k (accept e)).wrote)) t (events (role_of s.connection.stage) n (out_by s k (accept e)))))
      (sym (far_after e.ending e)) (fair_taken e g t q f)

module _ (setup : Setup) (n : ℕ) (h : n < 128) where
  fair_next : (s : State) (k : Call) → Ok setup s → (t : Totals) → t.seen ≡ holds s n → Fair (own_of setup) (far_start s.connection) t
      → Fair (own_of setup) (far_start (next s k).connection)
      (fold (add_up (own_of setup) (far_start s.connection) (drop 4 (out s k).wrote)) t (events setup.role n (out s k)))
  fair_next s k o t q f =
      let d = decide s.connection s.queue k in
      rw (next_is, out_is)
      (subst (λ (z : Setup). Fair (own_of z) (far_start (next_by s k d).connection) (fold (add_up (own_of z) (far_start s.connection) (drop 4 (out_by s k d).wrote)) t (events z.role n (out_by s k d))))
      (same_setup setup s o)
      (fair_by s (own_ok setup s o) k n h d (decide_good s (own_ok setup s o) k) t q
      (subst (λ (z : Setup). Fair (own_of z) (far_start s.connection) t) (sym (same_setup setup s o)) f)))

  tracks_next : (s : State) (k : Call) (z : Sum) → Ok setup s → Tracks setup n s z → Tracks setup n (next s k) (sum_after setup n z (out s k))
  unfolding sum_after account_after
  tracks_next s k z o w =
      let e = out s k in
      let told = next_account setup s k o n h in
      let far : far_of z.line ≡ far_start s.connection = ap far_of w.line ∙ start_told_lem s.connection.stage in
      record {
        line = ap (λ (l : Line). line_after l e) w.line ∙ sym (ap (λ (a : Account). a.line) told);
        seen =
            seen_all (own_of setup) (far_of z.line) (drop 4 e.wrote) (events setup.role n e) z.totals
            ∙ ap (λ (q : Ration). fold (observe (own_of setup) q) z.totals.seen (events setup.role n e)) far
            ∙ ap (λ (v : Seen). fold (observe (own_of setup) (far_start s.connection)) v (events setup.role n e)) w.seen
            ∙ sym (ap (λ (q : Ration). fold (observe (own_of setup) q) (holds s n) (events setup.role n e)) (start_told_lem s.connection.stage))
            ∙ sym (ap (λ (a : Account). a.seen) told);
        fair =
            subst (λ (q : Ration). Fair (own_of setup) (far_start (next s k).connection) (fold (add_up (own_of setup) q (drop 4 e.wrote)) z.totals (events setup.role n e)))
            (sym far) (fair_next s k o z.totals w.seen w.fair);
      }

  tracks_run : (s : State) (ks : List Call) (z : Sum) → Ok setup s → Tracks setup n s z → Tracks setup n (run next out s ks) (fold (sum_after setup n) z (log_of next out s ks))
  unfolding run log_of fold
  tracks_run s [] z o w = w
  tracks_run s (k ∷ ks) z o w = tracks_run (next s k) ks (sum_after setup n z (out s k)) (next_ok setup s k o) (tracks_next s k z o w)

  tracks_made : (q : List ℕ) → Tracks setup n (made setup q) (blank_sum setup)
  tracks_made q =
      let told = made_account setup q n h in
      record {
        line = refl;
        seen = sym (ap (λ (a : Account). a.seen) told);
        fair = idle_fair (own_of setup) (far_start (made setup q).connection) (blank_sum setup).totals refl refl;
      }

  -- the sums of every log track the state
  pub tracks : Proper setup → (q : List ℕ) (ks : List Call) → Tracks setup n (log.run setup q ks) (summed setup n (log.log setup q ks))
  unfolding summed
  tracks hh q ks = tracks_run (made setup q) ks (blank_sum setup) (made_ok setup hh q) (tracks_made q)
