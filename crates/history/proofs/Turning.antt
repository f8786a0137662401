-- What a turn does, told from the log: the first ready number, its data message and nothing else; or 9 exactly where none is ready.
use mathlib.Core.Path.{◌≡◌, refl, sym, ap, ◌∙◌, subst}
use mathlib.Core.Bool.{Bool, true, false, not, false≢true}
use mathlib.Core.List.{List, [], ◌∷◌, ◌++◌, append-nil, map}
use Prim.Native.Nat.{ℕ, ◌≤◌, ◌<◌}
use native.Mathlib.Omega.{arith}
use lib.ListN.{length, take}
use lib.Seq.{take-take, length-take-le}
use lib.Dec.{eqb, ltb}
use borrow.Author.Tests.{ltb-true, ltb-false, eqb-true, eq-eqb}
use Rattle.laws.specs.Runs.{run, log_of, gather}
use Rattle.laws.proofs.Circle.{nearest_lt}
use Rattle.laws.proofs.Runs.{Move, still, serves}
use Rattle.laws.proofs.Tests.{true_false}
use Rattle.ration.specs.declared.Ration.{Ration}
use Rattle.wire.specs.Message as wire
use Rattle.state.specs.declared.Sides.{Sides}
use Rattle.state.specs.declared.Sides.TheVariants as sides
use Rattle.state.specs.declared.Side.TheVariants as side
use Rattle.state.specs.declared.Session.{Session}
use Rattle.state.specs.declared.Setup.{Setup}
use Rattle.protocol.specs.Slot.{queue_size, turn_room}
use Rattle.protocol.specs.Queue.{slot}
use Rattle.protocol.specs.Plan.{Plan, check, settle}
use Rattle.protocol.specs.Message.{SessionMessage, numbered}
use Rattle.protocol.specs.Receipt.{Taken}
use Rattle.protocol.specs.Ask.{ready_session}
use Rattle.protocol.specs.Connection.{at, exchanged, far_start, own_start, well_formed}
use Rattle.protocol.specs.Judge.{served, sent, Effect, Decision, refuse, accept, setting_session}
use Rattle.protocol.specs.Call.{next_ready, serving, turn_rule}
use Rattle.protocol.specs.Result.{bytes_of_all, decided}
use Rattle.protocol.specs.Observed.{Sending, silent, sending, is_ready, due_length, due_by}
use Rattle.protocol.proofs.Plans.{stops, passes}
use Rattle.protocol.proofs.Views.{look, sends_of, due_length_lem}
use Rattle.protocol.proofs.Turns.{smaller_waiting, turn_sends, turn_stops, turn_goes}
use Rattle.history.specs.Log.{Call, State, next, out}
use Rattle.history.specs.Claims.{data_written, last_of, waiting_bytes}
use Rattle.history.proofs.Good.{Ok, holds, ready_at}
use Rattle.history.proofs.Simulation.{ok_formed, next_ok}
use Rattle.history.proofs.Fair.{scheduler}

-- ---- the ways of a turn, from a state

-- no check before 9 refuses
pub record Clear (s : State) (room : ℕ) : Type 0 where
  pub not_over : s.connection.over ≡ false
  pub up : exchanged s.connection.stage ≡ true
  pub roomy : turn_room ≤ room
  pub whole_queue : length s.queue ≡ queue_size

pub data Way (s : State) (room : ℕ) (d : Decision) : Type 0 where
  early : (j : ℕ) → (j ≡ 9 → ⊥) → (Clear s room → ⊥) → d ≡ refuse j → Way s room d
  none : Clear s room → ready_session (at s.connection (next_ready s.connection)) ≡ false → d ≡ refuse 9 → Way s room d
  taken : Clear s room → ready_session (at s.connection (next_ready s.connection)) ≡ true → (t : Taken)
      → t.sent ≡ due_by (holds s (next_ready s.connection)).sends ∷ []
      → d ≡ accept (setting_session s.connection (next_ready s.connection) (next_ready s.connection) (served (next_ready s.connection)) t) → Way s room d

module _ (setup : Setup) (s : State) (o : Ok setup s) (room : List ℕ) where
  at_end : Clear s (length room) → decided (turn_rule s.connection (length s.queue) (length room)) ≡ settle refuse accept (serving s.connection (next_ready s.connection))
      → Way s (length room) (decided (turn_rule s.connection (length s.queue) (length room)))
  at_end clear e = go (ready_session (at s.connection (next_ready s.connection))) refl
    where
      n : ℕ
      n = next_ready s.connection

      f : Taken → Effect
      f = setting_session s.connection (next_ready s.connection) (next_ready s.connection) (served (next_ready s.connection))

      hn : next_ready s.connection < 128
      hn = nearest_lt (λ i. ready_session (at s.connection i)) s.connection.last o.last

      go : (b : Bool) → ready_session (at s.connection (next_ready s.connection)) ≡ b → Way s (length room) (decided (turn_rule s.connection (length s.queue) (length room)))
      go true r =
          let g =
          turn_goes refuse accept f (own_start s.connection) (far_start s.connection) (at s.connection n)
          (λ t. t.sent ≡ due_by (holds s (next_ready s.connection)).sends ∷ []) r
          (turn_sends (own_start s.connection) (far_start s.connection) (at s.connection n) (slot n s.queue) (o.fits n hn)) in
          taken clear r g.0 g.2 (e ∙ g.1)
      go false r = none clear r (e ∙ turn_stops refuse accept f (own_start s.connection) (far_start s.connection) (at s.connection n) r)

  pub way : Way s (length room) (decided (turn_rule s.connection (length s.queue) (length room)))
  unfolding turn_rule
  way = over s.connection.over refl
    where
      p5 : Plan Effect
      p5 = serving s.connection (next_ready s.connection)

      p4 : Plan Effect
      p4 = check (not (eqb (length s.queue) queue_size)) 8 p5

      p3 : Plan Effect
      p3 = check (ltb (length room) turn_room) 8 p4

      p2 : Plan Effect
      p2 = check (not (exchanged s.connection.stage)) 1 p3

      p1 : Plan Effect
      p1 = check s.connection.over 2 p2

      D : Decision
      D = settle refuse accept (check (not (well_formed s.connection)) 14 p1)

      e1 : D ≡ settle refuse accept p1
      e1 = passes refuse accept 14 p1 (ap not (ok_formed setup s o))

      queue : (b : Bool) → eqb (length s.queue) queue_size ≡ b → s.connection.over ≡ false → exchanged s.connection.stage ≡ true → turn_room ≤ length room → D ≡ settle refuse accept p4 → Way s (length room) D
      queue true e live up roomy d =
          at_end (record { not_over = live; up = up; roomy = roomy; whole_queue = eqb-true _ _ e }) (d ∙ passes refuse accept 8 p5 (ap not e))
      queue false e live up roomy d =
          early 8 (λ z. omega arith) (λ cl. true_false (eq-eqb _ _ cl.whole_queue) e) (d ∙ stops refuse accept 8 p5 (ap not e))

      room_test : (b : Bool) → ltb (length room) turn_room ≡ b → s.connection.over ≡ false → exchanged s.connection.stage ≡ true → D ≡ settle refuse accept p3 → Way s (length room) D
      room_test true e live up d =
          early 8 (λ z. omega arith) (λ cl. let h : length room < turn_room = ltb-true _ _ e in let z = cl.roomy in omega arith) (d ∙ stops refuse accept 8 p4 e)
      room_test false e live up d = queue (eqb (length s.queue) queue_size) refl live up (ltb-false _ _ e) (d ∙ passes refuse accept 8 p4 e)

      headers : (b : Bool) → exchanged s.connection.stage ≡ b → s.connection.over ≡ false → D ≡ settle refuse accept p2 → Way s (length room) D
      headers true e live d = room_test (ltb (length room) turn_room) refl live e (d ∙ passes refuse accept 1 p3 (ap not e))
      headers false e live d = early 1 (λ z. omega arith) (λ cl. true_false cl.up e) (d ∙ stops refuse accept 1 p3 (ap not e))

      over : (b : Bool) → s.connection.over ≡ b → Way s (length room) D
      over true e = early 2 (λ z. omega arith) (λ cl. true_false e cl.not_over) (e1 ∙ stops refuse accept 2 p2 e)
      over false e = headers (exchanged s.connection.stage) refl e (e1 ∙ passes refuse accept 2 p2 e)

-- ---- the bytes of a turn

-- what is due is no more than what waits
due_le : (w : ℕ) (r : Ration) → due_length w r ≤ w
due_le w r = subst (λ (n : ℕ). n ≤ w) (sym (due_length_lem w r)) (smaller_waiting w r)

pub due_bytes : (k w : ℕ) (sl : List ℕ) (v : Sending) → is_ready v ≡ true → waiting_bytes v ≡ take w sl → w ≤ length sl
    → take (wire.body_length (numbered k (due_by v))) sl ≡ take (wire.body_length (numbered k (due_by v))) (waiting_bytes v)
due_bytes k w sl silent r e h = absurd (false≢true r)
due_bytes k w sl (sending u b q f) r e h =
    let n = due_length (length b) q in
    let small : length b ≡ w = ap length e ∙ length-take-le w sl h in
    let le : due_length (length b) q ≤ w = let z = due_le (length b) q in omega arith in
    sym (ap (take n) e ∙ take-take n w sl le)

pub waiting_look : (far : Ration) (x : Session) (sl : List ℕ) → is_ready (look far x sl).sends ≡ true → waiting_bytes (look far x sl).sends ≡ take x.waiting sl
waiting_look far x sl r = go x.sides r
  where
    go : (z : Sides) → is_ready (sends_of far z (take x.waiting sl) x.outbound x.finish) ≡ true
        → waiting_bytes (sends_of far z (take x.waiting sl) x.outbound x.finish) ≡ take x.waiting sl
    go sides.Idle e = absurd (false≢true e)
    go (sides.Opening b) e = refl
    go (sides.Live side.Open t) e = refl
    go (sides.Live side.Finished t) e = absurd (false≢true e)
    go (sides.Live side.Ended t) e = absurd (false≢true e)

pub turn_bytes : (s : State) (n last : ℕ) (t : Taken) (v : Sending) → t.sent ≡ due_by v ∷ []
    → bytes_of_all (slot n s.queue) (setting_session s.connection n last (served n) t).outs
    ≡ wire.header (numbered n (due_by v)) ++ take (wire.body_length (numbered n (due_by v))) (slot n s.queue)
unfolding bytes_of_all
turn_bytes s n last t v e =
    ap (λ (ms : List SessionMessage). bytes_of_all (slot n s.queue) (map (λ m. sent (numbered n m)) ms)) e
    ∙ append-nil (wire.header (numbered n (due_by v)) ++ take (wire.body_length (numbered n (due_by v))) (slot n s.queue))

-- ---- the mark is the number served last

module _ (setup : Setup) where
  pub last_run : (s : State) (ks : List Call) → Ok setup s → last_of s.connection.last (gather (data_written setup) (log_of next out s ks)) ≡ (run next out s ks).connection.last
  unfolding run log_of gather
  last_run s [] o = refl
  last_run s (k ∷ ks) o = go ((scheduler setup).moves s k o) (last_run (next s k) ks (next_ok setup s k o))
    where
      go : Move (ready_at s) s.connection.last (next s k).connection.last (data_written setup (out s k))
          → last_of (next s k).connection.last (gather (data_written setup) (log_of next out (next s k) ks)) ≡ (run next out (next s k) ks).connection.last
          → last_of s.connection.last (data_written setup (out s k) ++ gather (data_written setup) (log_of next out (next s k) ks)) ≡ (run next out (next s k) ks).connection.last
      go (still e m) rest =
          ap (λ (l : List ℕ). last_of s.connection.last (l ++ gather (data_written setup) (log_of next out (next s k) ks))) e
          ∙ ap (λ (i : ℕ). last_of i (gather (data_written setup) (log_of next out (next s k) ks))) (sym m) ∙ rest
      go (serves j e m hj near) rest =
          ap (λ (l : List ℕ). last_of s.connection.last (l ++ gather (data_written setup) (log_of next out (next s k) ks))) e
          ∙ ap (λ (i : ℕ). last_of i (gather (data_written setup) (log_of next out (next s k) ks))) (sym m) ∙ rest
