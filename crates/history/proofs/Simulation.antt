-- Over every list of calls, what the log tells is what the state holds; and every state of a run is well formed.
use mathlib.Core.Path.{◌≡◌, refl, sym, ap, ◌∙◌, subst}
use mathlib.Core.Bool.{Bool, true, false}
use mathlib.Core.List.{List, [], ◌∷◌, map}
use Prim.Native.Nat.{ℕ, suc, ◌≤◌, ◌<◌}
use native.Mathlib.Omega.{arith}
use lib.ListN.{length, get_or, length-set, length-map, length-replicate, get_or-replicate, get_or-map}
use lib.Dec.{eqb}
use borrow.Author.Tests.{eqb-true, eqb-false, lt-ltb}
use Rattle.laws.specs.Runs.{run, log_of, fold}
use Rattle.laws.proofs.Tests.{and_both}
use Rattle.ration.specs.declared.Ration.{Ration}
use Rattle.wire.specs.declared.Role.{Role}
use Rattle.state.specs.declared.Session.{Session}
use Rattle.state.specs.declared.Setup.{Setup}
use Rattle.state.specs.declared.Connection.{Connection}
use Rattle.protocol.specs.Queue.{slot}
use Rattle.state.specs.New.{blank, fresh}
use Rattle.protocol.specs.Connection.{Cause, shutdown_received, error_received, own_shutdown, line_lost, at, role_of, exchanged, far_start, all_formed, well_formed, ending, ended}
use Rattle.protocol.specs.Judge.{Ending, goes_on, ends, Effect, Breach, Decision, refuse, violate, accept, continued}
use Rattle.protocol.specs.Observed.{observe}
use Rattle.protocol.proofs.Views.{start_told_lem, look, Formed, formed_is}
use Rattle.history.specs.Log.{Call, start, open_session, put, finish, turn, grant, abort, close, shutdown, lost, receive, State, next, out, made, Proper}
use Rattle.history.specs.Log as log
use Rattle.history.proofs.Decisions.{decide, queue_after, next_by, out_by, next_is, out_is}
use Rattle.history.specs.Account.{Account, blank_account, account_after, observed, events}
use Rattle.history.proofs.Good.{Ok, base, Good, own_at, other_at, setup_of, holds, account_of, own_of, far_by}
use Rattle.history.proofs.Steps.{open_good, finish_good, grant_good, abort_good, close_good}
use Rattle.history.proofs.Moves.{put_good, turn_good}
use Rattle.history.proofs.Lines.{start_good, ping_good, shutdown_good, lost_good, stage_formed, stage_look}
use Rattle.history.proofs.Receives.{GoodBy, settled, receive_good}

-- ---- every call

pub decide_good : (s : State) → Ok (setup_of s.connection) s → (k : Call) → GoodBy s k (decide s.connection s.queue k)
decide_good s o (start room) = settled s (start room) accept _ (start_good s o room)
decide_good s o (open_session n) = settled s (open_session n) accept _ (open_good s o n)
decide_good s o (put n bytes) = settled s (put n bytes) accept _ (put_good s o n bytes)
decide_good s o (finish n) = settled s (finish n) accept _ (finish_good s o n)
decide_good s o (turn room) = settled s (turn room) accept _ (turn_good s o room)
decide_good s o (grant n amount room) = settled s (grant n amount room) accept _ (grant_good s o n amount room)
decide_good s o (abort n partial room) = settled s (abort n partial room) accept _ (abort_good s o n partial room)
decide_good s o (close n room) = settled s (close n room) accept _ (close_good s o n room)
decide_good s o (log.ping cookie room) = settled s (log.ping cookie room) accept _ (ping_good s o cookie room)
decide_good s o (shutdown room) = settled s (shutdown room) accept _ (shutdown_good s o room)
decide_good s o lost = settled s lost accept _ (lost_good s o)
decide_good s o (receive input room) = receive_good s o input room

-- a call that is not taken leaves the queue
pub queue_refused : (c : Connection) (q : List ℕ) (k : Call) (n : ℕ) → queue_after c q k (refuse n) ≡ q
queue_refused c q (start room) n = refl
queue_refused c q (open_session i) n = refl
queue_refused c q (put i bytes) n = refl
queue_refused c q (finish i) n = refl
queue_refused c q (turn room) n = refl
queue_refused c q (grant i amount room) n = refl
queue_refused c q (abort i partial room) n = refl
queue_refused c q (close i room) n = refl
queue_refused c q (log.ping cookie room) n = refl
queue_refused c q (shutdown room) n = refl
queue_refused c q lost n = refl
queue_refused c q (receive input room) n = refl

pub queue_violated : (c : Connection) (q : List ℕ) (k : Call) (b : Breach) → queue_after c q k (violate b) ≡ q
queue_violated c q (start room) b = refl
queue_violated c q (open_session i) b = refl
queue_violated c q (put i bytes) b = refl
queue_violated c q (finish i) b = refl
queue_violated c q (turn room) b = refl
queue_violated c q (grant i amount room) b = refl
queue_violated c q (abort i partial room) b = refl
queue_violated c q (close i room) b = refl
queue_violated c q (log.ping cookie room) b = refl
queue_violated c q (shutdown room) b = refl
queue_violated c q lost b = refl
queue_violated c q (receive input room) b = refl

-- ---- the end of a connection touches outcomes alone

ending_blank : (cause : Cause) → ending cause blank ≡ blank
ending_blank shutdown_received = refl
ending_blank error_received = refl
ending_blank own_shutdown = refl
ending_blank line_lost = refl

ending_look : (cause : Cause) (far : Ration) (x : Session) (sl : List ℕ) → look far (ending cause x) sl ≡ look far x sl
ending_look shutdown_received far x sl = refl
ending_look error_received far x sl = refl
ending_look own_shutdown far x sl = refl
ending_look line_lost far x sl = refl

ending_formed : (cause : Cause) {r : Role} {up : Bool} {x : Session} → Formed r up x → Formed r up (ending cause x)
ending_formed shutdown_received f = record { outbound = f.outbound; inbound = f.inbound; waiting = f.waiting; none = f.none; finish = f.finish; place = f.place; pair = f.pair }
ending_formed error_received f = record { outbound = f.outbound; inbound = f.inbound; waiting = f.waiting; none = f.none; finish = f.finish; place = f.place; pair = f.pair }
ending_formed own_shutdown f = f
ending_formed line_lost f = record { outbound = f.outbound; inbound = f.inbound; waiting = f.waiting; none = f.none; finish = f.finish; place = f.place; pair = f.pair }

ending_waiting : (cause : Cause) (x : Session) → (ending cause x).waiting ≡ x.waiting
ending_waiting shutdown_received x = refl
ending_waiting error_received x = refl
ending_waiting own_shutdown x = refl
ending_waiting line_lost x = refl

pub ended_at : (cause : Cause) (c : Connection) (n : ℕ) → at (ended cause c) n ≡ ending cause (at c n)
ended_at cause c n =
    ap (get_or (map (ending cause) c.sessions) n) (sym (ending_blank cause)) ∙ get_or-map (ending cause) c.sessions n blank

-- ---- a state and its account

pub account_path : {a b : Account} → a.line ≡ b.line → a.seen ≡ b.seen → a ≡ b
account_path p q i = record { line = p i; seen = q i }

ended_ok : {setup : Setup} (s : State) → Ok setup s → (cause : Cause) → Ok setup (record { connection = ended cause s.connection; queue = s.queue })
ended_ok {setup} s o cause =
    record {
      size = length-map s.connection.sessions (ending cause) ∙ o.size;
      last = o.last;
      role = o.role;
      own = o.own;
      proper = o.proper;
      far = o.far;
      formed =
          λ n h. subst (λ (x : Session). Formed setup.role (exchanged s.connection.stage) x) (sym (ended_at cause s.connection n))
          (ending_formed cause (o.formed n h));
      fits =
          λ n h. subst (λ (w : ℕ). w ≤ length (slot n s.queue))
          (sym (ap (λ (x : Session). x.waiting) (ended_at cause s.connection n) ∙ ending_waiting cause (at s.connection n))) (o.fits n h);
    }

pub ended_holds : (s : State) (cause : Cause) (n : ℕ) → holds (record { connection = ended cause s.connection; queue = s.queue }) n ≡ holds s n
ended_holds s cause n =
    ap (λ (x : Session). look (far_start s.connection) x (slot n s.queue)) (ended_at cause s.connection n)
    ∙ ending_look cause (far_start s.connection) (at s.connection n) (slot n s.queue)

-- ---- a call that is taken

module _ (s : State) (o : Ok (setup_of s.connection) s) (k : Call) (e : Effect) (g : Good (setup_of s.connection) s k e) where
  pub q' : List ℕ
  q' = queue_after s.connection s.queue k (accept e)

  pub taken : State
  taken = record { connection = base s.connection e; queue = q' }

  -- by cases: the number that the call concerns, or another
  pub by_number : (P : ℕ → Type 0) → P e.number → ((n : ℕ) → n < 128 → (e.number ≡ n → ⊥) → P n) → (n : ℕ) → n < 128 → P n
  by_number P own other n h = go (eqb e.number n) refl
    where
      go : (b : Bool) → eqb e.number n ≡ b → P n
      go true z = subst P (eqb-true e.number n z) own
      go false z = other n h (eqb-false e.number n z)

  taken_ok : Ok (setup_of s.connection) taken
  unfolding taken q'
  taken_ok =
      record {
        size = length-set s.connection.sessions e.number e.session ∙ o.size;
        last = g.last;
        role = g.role;
        own = refl;
        proper = o.proper;
        far = g.far;
        formed =
            by_number (λ n. Formed (role_of s.connection.stage) (exchanged e.stage) (at (base s.connection e) n))
            (subst (λ (x : Session). Formed (role_of s.connection.stage) (exchanged e.stage) x) (sym (own_at s o k e g)) g.formed)
            (λ n h d. subst (λ (x : Session). Formed (role_of s.connection.stage) (exchanged e.stage) x) (sym (other_at s o k e g n d)) (stage_formed s o e.stage g.stages n h));
        fits =
            by_number (λ n. (at (base s.connection e) n).waiting ≤ length (slot n (queue_after s.connection s.queue k (accept e))))
            (subst (λ (x : Session). x.waiting ≤ length (slot e.number (queue_after s.connection s.queue k (accept e)))) (sym (own_at s o k e g)) g.fits)
            (λ n h d. rw (other_at s o k e g n d, g.frame n h d) (o.fits n h));
      }

  pub taken_holds : (n : ℕ) → n < 128
      → holds taken n ≡ fold (observe (own_of (setup_of s.connection)) (far_start s.connection)) (holds s n) (events (role_of s.connection.stage) n (out_by s k (accept e)))
  unfolding taken q' fold
  taken_holds =
      by_number
      (λ n. holds taken n ≡ fold (observe (own_of (setup_of s.connection)) (far_start s.connection)) (holds s n) (events (role_of s.connection.stage) n (out_by s k (accept e))))
      (ap (λ (x : Session). look (far_by e.stage) x (slot e.number (queue_after s.connection s.queue k (accept e)))) (own_at s o k e g) ∙ g.seen)
      (λ n h d. ap (λ (x : Session). look (far_by e.stage) x (slot n (queue_after s.connection s.queue k (accept e)))) (other_at s o k e g n d)
      ∙ ap (look (far_by e.stage) (at s.connection n)) (g.frame n h d) ∙ stage_look s o e.stage g.stages n h (slot n s.queue)
      ∙ ap (fold (observe (own_of (setup_of s.connection)) (far_start s.connection)) (holds s n)) (sym (g.others n d)))

  accepted_ok : (en : Ending) → Ok (setup_of s.connection) (record { connection = continued en (base s.connection e); queue = queue_after s.connection s.queue k (accept e) })
  unfolding taken q'
  accepted_ok goes_on = taken_ok
  accepted_ok (ends cause) = ended_ok taken taken_ok cause

  pub accepted_holds : (en : Ending) (n : ℕ) → holds (record { connection = continued en (base s.connection e); queue = queue_after s.connection s.queue k (accept e) }) n ≡ holds taken n
  unfolding taken q'
  accepted_holds goes_on n = refl
  accepted_holds (ends cause) n = ended_holds taken cause n

-- ---- every decision

module _ (s : State) (o : Ok (setup_of s.connection) s) (k : Call) where
  by_ok : (d : Decision) → GoodBy s k d → Ok (setup_of s.connection) (next_by s k d)
  by_ok (refuse n) g = subst (λ (q : List ℕ). Ok (setup_of s.connection) (record { connection = s.connection; queue = q })) (sym (queue_refused s.connection s.queue k n)) o
  by_ok (violate b) g =
      subst (λ (q : List ℕ). Ok (setup_of s.connection) (record { connection = ended b.cause s.connection; queue = q })) (sym (queue_violated s.connection s.queue k b)) (ended_ok s o b.cause)
  by_ok (accept e) g = accepted_ok s o k e g e.ending

  by_account : (d : Decision) → GoodBy s k d → (n : ℕ) → n < 128
      → account_of (next_by s k d) n ≡ account_after (setup_of s.connection) n (account_of s n) (out_by s k d)
  unfolding account_after fold
  by_account (refuse j) g n h =
      account_path refl (ap (λ (q : List ℕ). look (far_start s.connection) (at s.connection n) (slot n q)) (queue_refused s.connection s.queue k j))
  by_account (violate b) g n h =
      account_path refl
      (ap (λ (q : List ℕ). look (far_start s.connection) (at (ended b.cause s.connection) n) (slot n q)) (queue_violated s.connection s.queue k b)
      ∙ ended_holds s b.cause n)
  by_account (accept e) g n h =
      account_path (sym g.line)
      (accepted_holds s o k e g e.ending n ∙ taken_holds s o k e g n h
      ∙ sym (ap (λ (far : Ration). fold (observe (own_of (setup_of s.connection)) far) (holds s n) (events (role_of s.connection.stage) n (out_by s k (accept e)))) (start_told_lem s.connection.stage)))

-- ---- one call

module _ (setup : Setup) where
  pub same_setup : (s : State) → Ok setup s → setup_of s.connection ≡ setup
  same_setup s o i = record { role = o.role i; header = o.own i }

  pub own_ok : (s : State) → Ok setup s → Ok (setup_of s.connection) s
  own_ok s o = subst (λ (z : Setup). Ok z s) (sym (same_setup s o)) o

  pub next_ok : (s : State) (k : Call) → Ok setup s → Ok setup (next s k)
  next_ok s k o =
      rw next_is
      (subst (λ (z : Setup). Ok z (next_by s k (decide s.connection s.queue k))) (same_setup s o)
      (by_ok s (own_ok s o) k (decide s.connection s.queue k) (decide_good s (own_ok s o) k)))

  pub next_account : (s : State) (k : Call) → Ok setup s → (n : ℕ) → n < 128 → account_of (next s k) n ≡ account_after setup n (account_of s n) (out s k)
  next_account s k o n h =
      ap (λ (z : State). account_of z n) (next_is s k)
      ∙ by_account s (own_ok s o) k (decide s.connection s.queue k) (decide_good s (own_ok s o) k) n h
      ∙ ap (λ (z : Setup). account_after z n (account_of s n) (out_by s k (decide s.connection s.queue k))) (same_setup s o)
      ∙ ap (account_after setup n (account_of s n)) (sym (out_is s k))

  -- ---- every list of calls

  pub run_ok : (s : State) (ks : List Call) → Ok setup s → Ok setup (run next out s ks)
  unfolding run
  run_ok s [] o = o
  run_ok s (k ∷ ks) o = run_ok (next s k) ks (next_ok s k o)

  pub run_account : (s : State) (ks : List Call) → Ok setup s → (n : ℕ) → n < 128
      → account_of (run next out s ks) n ≡ fold (account_after setup n) (account_of s n) (log_of next out s ks)
  unfolding run log_of fold
  run_account s [] o n h = refl
  run_account s (k ∷ ks) o n h =
      run_account (next s k) ks (next_ok s k o) n h
      ∙ ap (λ (a : Account). fold (account_after setup n) a (log_of next out (next s k) ks)) (next_account s k o n h)

  -- ---- from a connection just made

  blank_formed : (r : Role) → Formed r false blank
  blank_formed r = record { outbound = refl; inbound = refl; waiting = omega arith; none = refl; finish = refl; place = refl; pair = refl }

  pub fresh_at : (n : ℕ) → n < 128 → at (fresh setup) n ≡ blank
  fresh_at n h = get_or-replicate 128 n blank blank h

  pub made_ok : Proper setup → (q : List ℕ) → Ok setup (made setup q)
  made_ok hh q =
      record {
        size = length-replicate 128 blank;
        last = omega arith;
        role = refl;
        own = refl;
        proper = hh;
        far = omega arith;
        formed = λ n h. subst (λ (x : Session). Formed setup.role false x) (sym (fresh_at n h)) (blank_formed setup.role);
        fits = λ n h. subst (λ (x : Session). x.waiting ≤ length (slot n q)) (sym (fresh_at n h)) (omega arith);
      }

  pub made_account : (q : List ℕ) (n : ℕ) → n < 128 → account_of (made setup q) n ≡ blank_account setup
  made_account q n h = account_path refl (ap (λ (x : Session). look (far_start (fresh setup)) x (slot n q)) (fresh_at n h))

  -- what the log tells is what the state holds
  pub observed_is : Proper setup → (q : List ℕ) (ks : List Call) (n : ℕ) → n < 128
      → observed setup n (log.log setup q ks) ≡ account_of (log.run setup q ks) n
  unfolding observed
  observed_is hh q ks n h =
      ap (λ (a : Account). fold (account_after setup n) a (log.log setup q ks)) (sym (made_account q n h))
      ∙ sym (run_account (made setup q) ks (made_ok hh q) n h)

  pub run_made : Proper setup → (q : List ℕ) (ks : List Call) → Ok setup (log.run setup q ks)
  run_made hh q ks = run_ok (made setup q) ks (made_ok hh q)

-- ---- no state of a run is refused with 14

all_formed_lem : (r : Role) (up : Bool) (l : List Session) → ((n : ℕ) → n < length l → Formed r up (get_or l n blank)) → all_formed r up l ≡ true
unfolding all_formed
all_formed_lem r up [] h = refl
all_formed_lem r up (x ∷ l) h = and_both (formed_is r up x (h 0 (omega arith))) (all_formed_lem r up l (λ n hn. h (suc n) (omega arith)))

pub ok_formed : (setup : Setup) (s : State) → Ok setup s → well_formed s.connection ≡ true
unfolding well_formed
ok_formed setup s o =
    and_both (lt-ltb s.connection.last 128 o.last)
    (ap (λ (r : Role). all_formed r (exchanged s.connection.stage) s.connection.sessions) o.role
    ∙ all_formed_lem setup.role (exchanged s.connection.stage) s.connection.sessions (λ n h. o.formed n (let z = o.size in omega arith)))
