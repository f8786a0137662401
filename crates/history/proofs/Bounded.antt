-- The third demand, whole: bounded-waiting, from the round-robin law and the ways of a turn.
use mathlib.Core.Path.{◌≡◌, refl, sym, ap, ◌∙◌, subst}
use mathlib.Core.Bool.{Bool, true, false}
use mathlib.Core.List.{List, [], ◌∷◌, ◌++◌}
use Prim.Native.Nat.{ℕ, ◌<◌}
use native.Mathlib.Omega.{arith}
use lib.ListN.{length, take}
use Rattle.laws.specs.Circle.{nearest}
use Rattle.laws.specs.Runs.{run}
use Rattle.laws.specs.Result.{ok, refused}
use Rattle.laws.proofs.Circle.{nearest_lt, nearest_found_lem, nearest_same}
use Rattle.laws.proofs.Results.{ok_same, refused_same, refused_not_ok}
use Rattle.laws.proofs.Tests.{true_false}
use Rattle.wire.specs.Message as wire
use Rattle.state.specs.declared.Setup.{Setup}
use Rattle.protocol.specs.Queue.{slot}
use Rattle.protocol.specs.Message.{numbered}
use Rattle.protocol.specs.Receipt.{Taken}
use Rattle.protocol.specs.Ask as ask
use Rattle.protocol.specs.Connection.{at, far_start}
use Rattle.protocol.specs.Judge.{Report, served, Decision, refuse, violate, accept, setting_session}
use Rattle.protocol.specs.Call.{next_ready}
use Rattle.protocol.specs.Observed.{greeted, Sending, is_ready, due_by}
use Rattle.protocol.proofs.Views.{greeted_is, ready_look}
use Rattle.history.specs.Log.{Call, start, open_session, put, finish, turn, grant, abort, close, shutdown, lost, receive, State, Entry, next, out, made, Proper}
use Rattle.history.specs.Log as log
use Rattle.history.proofs.Decisions.{decide, next_by, out_by, next_is, out_is}
use Rattle.history.specs.Meaning.{Line}
use Rattle.history.specs.Account.{Account, observed}
use Rattle.history.specs.Claims.{ready, data_written, last_served, waiting_bytes, Serves, MayTurn, NothingReady, Turns, BoundedWaiting}
use Rattle.history.proofs.Good.{is_turn, Ok, setup_of, line_of, holds, one}
use Rattle.history.proofs.Violations.{broken_no_data}
use Rattle.history.proofs.Receives.{GoodBy}
use Rattle.history.proofs.Simulation.{observed_is, run_made, made_ok, own_ok, same_setup, decide_good, next_ok, queue_refused, queue_violated}
use Rattle.history.proofs.Fair.{nothing_data, ready_is, waits_log, own_log}
use Rattle.history.proofs.Entries.{At, entry_at, call_told}
use Rattle.history.proofs.Never.{never_14}
use Rattle.history.proofs.Turning.{Clear, Way, early, none, taken, way, due_bytes, waiting_look, turn_bytes, last_run}

not_turn : (k : Call) → ((room : List ℕ) → k ≡ turn room → ⊥) → is_turn k ≡ false
not_turn (start room) h = refl
not_turn (open_session n) h = refl
not_turn (put n bytes) h = refl
not_turn (finish n) h = refl
not_turn (turn room) h = absurd (h room refl)
not_turn (grant n amount room) h = refl
not_turn (abort n partial room) h = refl
not_turn (close n room) h = refl
not_turn (log.ping cookie room) h = refl
not_turn (shutdown room) h = refl
not_turn lost h = refl
not_turn (receive input room) h = refl

-- ---- about one decision

module _ (s : State) (k : Call) where
  quiet_by : (d : Decision) → GoodBy s k d → is_turn k ≡ false → data_written (setup_of s.connection) (out_by s k d) ≡ []
  quiet_by (refuse n) g h = nothing_data (setup_of s.connection).role
  quiet_by (violate b) g h = broken_no_data s k b g.told
  quiet_by (accept e) g h = g.by_turn ∙ ap (λ (b : Bool). one b e.number) h

  long_by : (d : Decision) → GoodBy s k d → length (next_by s k d).queue ≡ length s.queue
  long_by (refuse n) g = ap length (queue_refused s.connection s.queue k n)
  long_by (violate b) g = ap length (queue_violated s.connection s.queue k b)
  long_by (accept e) g = g.long

module _ (setup : Setup) where
  -- only a turn writes a data message
  quiet_out : (s : State) (k : Call) → Ok setup s → is_turn k ≡ false → data_written setup (out s k) ≡ []
  quiet_out s k o h =
      rw out_is
      (subst (λ (z : Setup). data_written z (out_by s k (decide s.connection s.queue k)) ≡ []) (same_setup setup s o)
      (quiet_by s k (decide s.connection s.queue k) (decide_good s (own_ok setup s o) k) h))

  -- a turn that is taken writes the data message of the number served
  turn_out : (s : State) (room : List ℕ) → Ok setup s → (n : ℕ) (t : Taken)
      → decide s.connection s.queue (turn room) ≡ accept (setting_session s.connection n n (served n) t) → data_written setup (out s (turn room)) ≡ n ∷ []
  turn_out s room o n t e =
      let g : GoodBy s (turn room) (accept (setting_session s.connection n n (served n) t)) =
      subst (λ (d : Decision). GoodBy s (turn room) d) e (decide_good s (own_ok setup s o) (turn room)) in
      ap (data_written setup) (out_is s (turn room)) ∙ ap (λ (d : Decision). data_written setup (out_by s (turn room) d)) e
      ∙ ap (λ (z : Setup). data_written z (out_by s (turn room) (accept (setting_session s.connection n n (served n) t)))) (sym (same_setup setup s o)) ∙ g.by_turn

  -- the queue keeps its length
  pub run_long : (s : State) (ks : List Call) → Ok setup s → length (run next out s ks).queue ≡ length s.queue
  unfolding run
  run_long s [] o = refl
  run_long s (k ∷ ks) o =
      run_long (next s k) ks (next_ok setup s k o) ∙ ap (λ (z : State). length z.queue) (next_is s k) ∙ long_by s k (decide s.connection s.queue k) (decide_good s (own_ok setup s o) k)

-- ---- about one turn, after any calls

module _ (setup : Setup) (hh : Proper setup) (queue : List ℕ) (ks : List Call) (room : List ℕ) where
  o : Ok setup (log.run setup queue ks)
  o = run_made setup hh queue ks

  -- the state's ready numbers are the log's
  told : (n : ℕ) → n < 128 → ask.ready_session (at (log.run setup queue ks).connection n) ≡ ready setup n (log.log setup queue ks)
  told n h =
      let st = log.run setup queue ks in
      ready_look (far_start st.connection) (at st.connection n) (slot n st.queue) (o.fits n h) ∙ sym (ready_is setup hh queue ks n h)

  last_told : last_served setup (log.log setup queue ks) ≡ (log.run setup queue ks).connection.last
  last_told = last_run setup (made setup queue) ks (made_ok setup hh queue)

  first : next_ready (log.run setup queue ks).connection ≡ nearest (λ n. ready setup n (log.log setup queue ks)) (last_served setup (log.log setup queue ks))
  first =
      nearest_same (λ n. ask.ready_session (at (log.run setup queue ks).connection n)) (λ n. ready setup n (log.log setup queue ks)) told (log.run setup queue ks).connection.last
      ∙ ap (nearest (λ n. ready setup n (log.log setup queue ks))) (sym last_told)

  inside : next_ready (log.run setup queue ks).connection < 128
  inside = nearest_lt (λ n. ask.ready_session (at (log.run setup queue ks).connection n)) (log.run setup queue ks).connection.last o.last

  account : (n : ℕ) → n < 128 → (observed setup n (log.log setup queue ks)).seen.sends ≡ (holds (log.run setup queue ks) n).sends
  account n h = ap (λ (a : Account). a.seen.sends) (observed_is setup hh queue ks n h)

  abbrev Here : Type 0
  Here = Way (log.run setup queue ks) (length room) (decide (log.run setup queue ks).connection (log.run setup queue ks).queue (turn room))

  here : Here
  here = way setup (log.run setup queue ks) o room

  answers : (d : Decision) → decide (log.run setup queue ks).connection (log.run setup queue ks).queue (turn room) ≡ d
      → (out (log.run setup queue ks) (turn room)).answer ≡ (out_by (log.run setup queue ks) (turn room) d).answer
  answers d e =
      ap (λ (x : Entry). x.answer) (out_is (log.run setup queue ks) (turn room))
      ∙ ap (λ (z : Decision). (out_by (log.run setup queue ks) (turn room) z).answer) e

  written : (d : Decision) → decide (log.run setup queue ks).connection (log.run setup queue ks).queue (turn room) ≡ d
      → (out (log.run setup queue ks) (turn room)).wrote ≡ (out_by (log.run setup queue ks) (turn room) d).wrote
  written d e =
      ap (λ (x : Entry). x.wrote) (out_is (log.run setup queue ks) (turn room))
      ∙ ap (λ (z : Decision). (out_by (log.run setup queue ks) (turn room) z).wrote) e

  serves_first : ask.ready_session (at (log.run setup queue ks).connection (next_ready (log.run setup queue ks).connection)) ≡ true → (t : Taken)
      → t.sent ≡ due_by (holds (log.run setup queue ks) (next_ready (log.run setup queue ks).connection)).sends ∷ []
      → decide (log.run setup queue ks).connection (log.run setup queue ks).queue (turn room)
      ≡ accept (setting_session (log.run setup queue ks).connection (next_ready (log.run setup queue ks).connection) (next_ready (log.run setup queue ks).connection) (served (next_ready (log.run setup queue ks).connection)) t)
      → Serves setup (log.log setup queue ks) (out (log.run setup queue ks) (turn room)) (next_ready (log.run setup queue ks).connection)
  serves_first r t q e =
      let st = log.run setup queue ks in
      let n = next_ready st.connection in
      let v = (holds st n).sends in
      let rv : is_ready (holds (log.run setup queue ks) (next_ready (log.run setup queue ks).connection)).sends ≡ true =
      sym (ready_look (far_start st.connection) (at st.connection n) (slot n st.queue) (o.fits n inside)) ∙ r in
      record {
        first_ready = first;
        is_ready_now = sym (told n inside) ∙ r;
        message =
            written (accept (setting_session st.connection n n (served n) t)) e ∙ turn_bytes st n n t v q
            ∙ ap (λ (b : List ℕ). wire.header (numbered n (due_by v)) ++ b)
            (due_bytes n (at st.connection n).waiting (slot n st.queue) v rv (waiting_look (far_start st.connection) (at st.connection n) (slot n st.queue) rv) (o.fits n inside))
            ∙ ap (λ (w : Sending). wire.header (numbered n (due_by w)) ++ take (wire.body_length (numbered n (due_by w))) (waiting_bytes w)) (sym (account n inside));
      }

  served_one : Here → (r : Report) → (out (log.run setup queue ks) (turn room)).answer ≡ ok r
      → (k : ℕ) × (r ≡ served k) × (data_written setup (out (log.run setup queue ks) (turn room)) ≡ k ∷ []) × Serves setup (log.log setup queue ks) (out (log.run setup queue ks) (turn room)) k
  served_one (early j h1 h2 e) r a = absurd (refused_not_ok (sym (answers (refuse j) e) ∙ a))
  served_one (none cl h e) r a = absurd (refused_not_ok (sym (answers (refuse 9) e) ∙ a))
  served_one (taken cl h t q e) r a =
      let st = log.run setup queue ks in
      let n = next_ready st.connection in
      (n, ok_same (sym a ∙ answers _ e), turn_out setup st room o n t e, serves_first h t q e)

  -- if a turn is refused with 9, nothing is ready
  nothing_ready : Here → (out (log.run setup queue ks) (turn room)).answer ≡ refused 9 → NothingReady setup (length queue) (log.log setup queue ks) (length room)
  nothing_ready (early j h1 h2 e) a = absurd (h1 (refused_same (sym (answers (refuse j) e) ∙ a)))
  nothing_ready (taken cl h t q e) a = absurd (refused_not_ok (sym a ∙ answers _ e))
  nothing_ready (none cl h e) a =
      let st = log.run setup queue ks in
      let line : (observed setup 0 (log.log setup queue ks)).line ≡ line_of (log.run setup queue ks).connection = ap (λ (z : Account). z.line) (observed_is setup hh queue ks 0 (omega arith)) in
      record {
        may =
            record {
              not_over = ap (λ (l : Line). l.over) line ∙ cl.not_over;
              up = ap (λ (l : Line). greeted l.greeting) line ∙ greeted_is (log.run setup queue ks).connection.stage ∙ cl.up;
              roomy = cl.roomy;
              whole_queue = sym (run_long setup (made setup queue) ks (made_ok setup hh queue)) ∙ cl.whole_queue;
            };
        none = λ n hn. sym (told n hn) ∙ not_ready n hn (ask.ready_session (at st.connection n)) refl;
      }
    where
      not_ready : (n : ℕ) → n < 128 → (b : Bool) → ask.ready_session (at (log.run setup queue ks).connection n) ≡ b → ask.ready_session (at (log.run setup queue ks).connection n) ≡ false
      not_ready n hn false e = e
      not_ready n hn true e =
          absurd (true_false (nearest_found_lem (λ i. ask.ready_session (at (log.run setup queue ks).connection i)) (log.run setup queue ks).connection.last n o.last hn e).passes h)

  -- and if nothing is ready, a turn is refused with 9
  clear : MayTurn setup (length queue) (log.log setup queue ks) (length room) → Clear (log.run setup queue ks) (length room)
  clear z =
      let line : (observed setup 0 (log.log setup queue ks)).line ≡ line_of (log.run setup queue ks).connection = ap (λ (a : Account). a.line) (observed_is setup hh queue ks 0 (omega arith)) in
      record {
        not_over = sym (ap (λ (l : Line). l.over) line) ∙ z.not_over;
        up = sym (greeted_is (log.run setup queue ks).connection.stage) ∙ sym (ap (λ (l : Line). greeted l.greeting) line) ∙ z.up;
        roomy = z.roomy;
        whole_queue = run_long setup (made setup queue) ks (made_ok setup hh queue) ∙ z.whole_queue;
      }

  says_9 : Here → NothingReady setup (length queue) (log.log setup queue ks) (length room) → (out (log.run setup queue ks) (turn room)).answer ≡ refused 9
  says_9 (early j h1 h2 e) z = absurd (h2 (clear z.may))
  says_9 (none cl h e) z = answers (refuse 9) e
  says_9 (taken cl h t q e) z = absurd (true_false (sym (told (next_ready (log.run setup queue ks).connection) inside) ∙ h) (z.none (next_ready (log.run setup queue ks).connection) inside))

  served_some : Here → MayTurn setup (length queue) (log.log setup queue ks) (length room) → (n : ℕ) → n < 128 → ready setup n (log.log setup queue ks) ≡ true
      → (k : ℕ) × ((out (log.run setup queue ks) (turn room)).answer ≡ ok (served k))
  served_some (early j h1 h2 e) z n hn r = absurd (h2 (clear z))
  served_some (none cl h e) z n hn r =
      let c = (log.run setup queue ks).connection in
      absurd (true_false (nearest_found_lem (λ i. ask.ready_session (at c i)) c.last n o.last hn (told n hn ∙ r)).passes h)
  served_some (taken cl h t q e) z n hn r = (next_ready (log.run setup queue ks).connection, answers _ e)

  turns_calls : Turns setup (length queue) (log.log setup queue ks) (out (log.run setup queue ks) (turn room)) (length room)
  turns_calls = record { served_one = served_one here; served_some = served_some here; refused_9 = (nothing_ready here, says_9 here) }

-- ---- about every entry of a log

module _ (setup : Setup) (hh : Proper setup) (queue : List ℕ) where
  turns_log : (a : List Entry) (e : Entry) (room : List ℕ) → At setup queue a e → e.call ≡ turn room → Turns setup (length queue) a e (length room)
  turns_log a e room x h =
      let s = log.run setup queue x.before in
      let k : x.call ≡ turn room = sym (call_told s x.call) ∙ ap (λ (z : Entry). z.call) x.entry ∙ h in
      let same : out (log.run setup queue x.before) (turn room) ≡ e = ap (out s) (sym k) ∙ x.entry in
      subst (λ (l : List Entry). Turns setup (length queue) l e (length room)) x.log_before
      (subst (λ (z : Entry). Turns setup (length queue) (log.log setup queue x.before) z (length room)) same
      (turns_calls setup hh queue x.before room))

  quiet_log : (a : List Entry) (e : Entry) → At setup queue a e → ((room : List ℕ) → e.call ≡ turn room → ⊥) → data_written setup e ≡ []
  quiet_log a e x h =
      let s = log.run setup queue x.before in
      let k : is_turn x.call ≡ false = ap is_turn (sym (call_told s x.call) ∙ ap (λ (z : Entry). z.call) x.entry) ∙ not_turn e.call h in
      ap (data_written setup) (sym x.entry) ∙ quiet_out setup s x.call (run_made setup hh queue x.before) k

  never_log : (a : List Entry) (e : Entry) → At setup queue a e → e.answer ≡ refused 14 → ⊥
  never_log a e x h =
      never_14 setup (log.run setup queue x.before) x.call (run_made setup hh queue x.before) (ap (λ (z : Entry). z.answer) x.entry ∙ h)

  -- nobody waits for ever: for every role, header number, queue and list of calls
  pub bounded_waiting : (calls : List Call) → BoundedWaiting setup (length queue) (log.log setup queue calls)
  bounded_waiting calls =
      record {
        waits = waits_log setup hh queue calls;
        own_by_128 = own_log setup hh queue calls;
        turns = λ a c e room z h. turns_log a e room (entry_at setup queue calls a c e z) h;
        only_turns_write_data = λ a c e z h. quiet_log a e (entry_at setup queue calls a c e z) h;
        never_14 = λ a c e z h. never_log a e (entry_at setup queue calls a c e z) h;
      }
