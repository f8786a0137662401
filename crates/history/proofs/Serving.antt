-- What a state of a run holds is what its log tells; put and turn leave zeros behind the bytes that wait in the slot they serve, and nothing
-- else of the queue changes. From what each call that is taken does.
use mathlib.Core.Path.{◌≡◌, refl, sym, ap, ◌∙◌, subst}
use mathlib.Core.Bool.{false, not}
use mathlib.Core.List.{List, []}
use Prim.Native.Nat.{ℕ, ◌+◌, ◌-◌, ◌≤◌, ◌<◌}
use native.Mathlib.Omega.{arith}
use lib.ListN.{length, get_or}
use lib.Seq.{get_or-set_same}
use borrow.Author.Tests.{leb-false, ltb-false, eqb-true}
use lib.Dec.{eqb}
use Rattle.laws.specs.Result.{ok}
use Rattle.laws.proofs.Results.{ok_same, refused_not_ok}
use Rattle.laws.proofs.Tests.{not_false}
use Rattle.laws.proofs.Circle.{nearest_lt}
use Rattle.state.specs.declared.Session.{Session}
use Rattle.state.specs.declared.Setup.{Setup}
use Rattle.state.specs.New.{blank}
use Rattle.protocol.specs.Slot.{slot_size, queue_size}
use Rattle.protocol.specs.Queue.{slot, put_slot, turn_slot}
use Rattle.protocol.specs.Connection.{at, exchanged, own_start, far_start}
use Rattle.protocol.specs.Receipt.{Taken}
use Rattle.protocol.specs.Ask.{put_ask, turn_ask, ready_session}
use Rattle.protocol.specs.Session.{queued}
use Rattle.protocol.specs.Judge.{Report, done, served, Effect, Decision, refuse, violate, accept, setting_session, commit}
use Rattle.protocol.specs.Call.{put_rule, turn_rule, next_ready}
use Rattle.protocol.proofs.Plans.{Takes, takes_then, takes_map, takes_all, stops_all, settled}
use Rattle.protocol.proofs.Slots.{put_length, turn_length, put_zeros, turn_zeros, slot_same}
use Rattle.history.specs.Log.{Call, start, open_session, put, finish, turn, grant, abort, close, shutdown, lost, receive, State, Entry, next, Proper}
use Rattle.history.specs.Log as log
use Rattle.history.specs.Account.{concerned}
use Rattle.history.specs.Claims.{RestZero, SlotsServed, StateTold}
use Rattle.history.proofs.Decisions.{decide, next_by, out_by, next_is, out_is}
use Rattle.history.proofs.Good.{Ok, setup_of}
use Rattle.history.proofs.Steps.{formed_up}
use Rattle.history.proofs.Receives.{GoodBy}
use Rattle.history.proofs.Simulation.{decide_good, queue_refused, queue_violated, own_ok, observed_is, run_made}

module _ (s : State) (o : Ok (setup_of s.connection) s) where
  full : (q : ℕ) → not (eqb q queue_size) ≡ false → q ≡ queue_size
  full q e = eqb-true q queue_size (not_false (eqb q queue_size) e)

  -- the session that a call sets is at its number
  own_at : (n last : ℕ) (r : Report) (t : Taken) → n < 128 → at (commit s.connection (setting_session s.connection n last r t)) n ≡ t.session
  own_at n last r t h = get_or-set_same s.connection.sessions n t.session blank (let z = o.size in omega arith)

  -- about a number, after a call that is taken
  abbrev Clears : Call → ℕ → Effect → Type 0
  Clears k n e = RestZero (next_by s k (accept e)) n

  put_clears : (n : ℕ) (bytes : List ℕ) → Takes (Clears (put n bytes) n) (put_rule s.connection n (length bytes) (length s.queue))
  unfolding put_rule put_ask
  put_clears n bytes _ live up queue num side room i h l =
      let hn = leb-false 128 n num in
      let x = at s.connection n in
      let sl = slot n s.queue in
      let long = o.fits n hn in
      let small = (formed_up s o (not_false (exchanged s.connection.stage) up) n hn).waiting in
      let free : length bytes ≤ slot_size - (at s.connection n).waiting = ltb-false _ _ room in
      let fill : (at s.connection n).waiting + length bytes ≤ slot_size = omega arith in
      let same = slot_same n (put_slot x.waiting bytes sl) s.queue hn (full (length s.queue) queue) (put_length x.waiting bytes sl fill long) in
      let t : Taken = record { session = queued (length bytes) (at s.connection n); sent = []; late = false } in
      let waits : (at s.connection n).waiting + length bytes ≤ i = subst (λ (y : Session). y.waiting ≤ i) (own_at n s.connection.last done t hn) h in
      ap (λ (q : List ℕ). get_or q i 1) same ∙ put_zeros x.waiting bytes sl i long waits l

  turn_clears : (room : List ℕ) → Takes (λ e. (n : ℕ) → e.report ≡ served n → Clears (turn room) n e) (turn_rule s.connection (length s.queue) (length room))
  unfolding turn_rule
  turn_clears room _ live up _ queue =
      takes_then (λ e. (n : ℕ) → e.report ≡ served n → Clears (turn room) n e) (setting_session s.connection m m (served m)) (turn_ask (own_start s.connection) (far_start s.connection) x)
      (takes_all (λ t n z. subst (λ (j : ℕ). Clears (turn room) j (setting_session s.connection m m (served m) t)) (number z) (zeros t)) (turn_ask (own_start s.connection) (far_start s.connection) x))
    where
      m : ℕ
      m = next_ready s.connection

      hm : next_ready s.connection < 128
      hm = nearest_lt (λ i. ready_session (at s.connection i)) s.connection.last o.last

      x : Session
      x = at s.connection (next_ready s.connection)

      number : {i j : ℕ} → served i ≡ served j → i ≡ j
      number e = cc

      zeros : (t : Taken) → Clears (turn room) (next_ready s.connection)
          (setting_session s.connection (next_ready s.connection) (next_ready s.connection) (served (next_ready s.connection)) t)
      zeros t i h l =
          let sl = slot m s.queue in
          let w = x.waiting in
          let small = (formed_up s o (not_false (exchanged s.connection.stage) up) m hm).waiting in
          let same = slot_same m (turn_slot w (w - t.session.waiting) sl) s.queue hm (full (length s.queue) queue) (turn_length w (w - t.session.waiting) sl small) in
          let waits : t.session.waiting ≤ i = subst (λ (y : Session). y.waiting ≤ i) (own_at m m (served m) t hm) h in
          ap (λ (q : List ℕ). get_or q i 1) same ∙ turn_zeros w (w - t.session.waiting) sl i (omega arith) l

  -- from a decision to what is answered and left
  PutBy : ℕ → List ℕ → Decision → Type 0
  PutBy n bytes d = (out_by s (put n bytes) d).answer ≡ ok done → RestZero (next_by s (put n bytes) d) n

  TurnBy : List ℕ → Decision → Type 0
  TurnBy room d = (n : ℕ) → (out_by s (turn room) d).answer ≡ ok (served n) → RestZero (next_by s (turn room) d) n

  put_by : (n : ℕ) (bytes : List ℕ) → PutBy n bytes (decide s.connection s.queue (put n bytes))
  unfolding PutBy
  put_by n bytes =
      let p = put_rule s.connection n (length bytes) (length s.queue) in
      settled (PutBy n bytes) refuse accept p (stops_all {P = λ j. PutBy n bytes (refuse j)} (λ _ e. absurd (refused_not_ok e)) p)
      (takes_map {P = Clears (put n bytes) n} {Q = λ e. PutBy n bytes (accept e)} (λ e z _. z) p (put_clears n bytes))

  turn_by : (room : List ℕ) → TurnBy room (decide s.connection s.queue (turn room))
  unfolding TurnBy
  turn_by room =
      let p = turn_rule s.connection (length s.queue) (length room) in
      settled (TurnBy room) refuse accept p (stops_all {P = λ j. TurnBy room (refuse j)} (λ _ _ e. absurd (refused_not_ok e)) p)
      (takes_map {P = λ e. (n : ℕ) → e.report ≡ served n → Clears (turn room) n e} {Q = λ e. TurnBy room (accept e)} (λ e z n q. z n (ok_same q)) p (turn_clears room))

  others_by : (k : Call) (d : Decision) → GoodBy s k d → (n : ℕ) → n < 128 → (concerned k (out_by s k d).answer ≡ n → ⊥)
      → slot n (next_by s k d).queue ≡ slot n s.queue
  others_by k (refuse j) g n h z = ap (slot n) (queue_refused s.connection s.queue k j)
  others_by k (violate b) g n h z = ap (slot n) (queue_violated s.connection s.queue k b)
  others_by k (accept e) g n h z = g.frame n h (λ q. z (g.concerns ∙ q))

  -- the other ten calls are not lent the queue
  untouched_by : (k : Call) → ((n : ℕ) (bytes : List ℕ) → k ≡ put n bytes → ⊥) → ((room : List ℕ) → k ≡ turn room → ⊥) → (next s k).queue ≡ s.queue
  unfolding next
  untouched_by (start room) p t = refl
  untouched_by (open_session n) p t = refl
  untouched_by (put n bytes) p t = absurd (p n bytes refl)
  untouched_by (finish n) p t = refl
  untouched_by (turn room) p t = absurd (t room refl)
  untouched_by (grant n amount room) p t = refl
  untouched_by (abort n partial room) p t = refl
  untouched_by (close n room) p t = refl
  untouched_by (log.ping cookie room) p t = refl
  untouched_by (shutdown room) p t = refl
  untouched_by lost p t = refl
  untouched_by (receive input room) p t = refl

  served_slots : SlotsServed s
  unfolding PutBy TurnBy
  served_slots =
      record {
        by_put =
            λ n bytes q. subst (λ (t : State). RestZero t n) (sym (next_is s (put n bytes)))
            (put_by n bytes (sym (ap (λ (x : Entry). x.answer) (out_is s (put n bytes))) ∙ q));
        by_turn =
            λ room n q. subst (λ (t : State). RestZero t n) (sym (next_is s (turn room)))
            (turn_by room n (sym (ap (λ (x : Entry). x.answer) (out_is s (turn room))) ∙ q));
        others =
            λ k n h z. ap (λ (t : State). slot n t.queue) (next_is s k)
            ∙ others_by k (decide s.connection s.queue k) (decide_good s o k) n h
            (λ q. z (ap (λ (x : Entry). concerned k x.answer) (out_is s k) ∙ q));
        untouched = untouched_by;
      }

-- for every role, header number, queue and list of calls
module _ (setup : Setup) (hh : Proper setup) (queue : List ℕ) (calls : List Call) where
  pub slots_served : SlotsServed (log.run setup queue calls)
  slots_served = served_slots (log.run setup queue calls) (own_ok setup (log.run setup queue calls) (run_made setup hh queue calls))

  pub state_told : (n : ℕ) → n < 128 → StateTold setup queue calls n
  state_told n h = sym (observed_is setup hh queue calls n h)
