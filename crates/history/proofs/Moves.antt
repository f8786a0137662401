-- Put and turn, where they are taken, keep what is observed and touch one slot of the queue: from their lemmas about one session.
use mathlib.Core.Path.{◌≡◌, refl, sym, ◌∙◌, subst}
use mathlib.Core.Bool.{true, false, not, false≢true}
use mathlib.Core.List.{List, [], ◌∷◌}
use Prim.Native.Nat.{ℕ, ◌+◌, ◌-◌, ◌≤◌, ◌<◌}
use native.Mathlib.Omega.{arith}
use lib.ListN.{length}
use lib.Dec.{eqb}
use borrow.Author.Tests.{leb-false, ltb-false, eqb-true}
use Rattle.laws.proofs.Circle.{nearest_lt, nearest_found_lem}
use Rattle.laws.specs.Circle.{gap}
use Rattle.laws.proofs.Tests.{not_false}
use Rattle.state.specs.declared.Session.{Session}
use Rattle.protocol.specs.Slot.{slot_size, queue_size}
use Rattle.protocol.specs.Queue.{slot, put_slot, turn_slot}
use Rattle.protocol.specs.Session.{queued}
use Rattle.protocol.specs.Receipt.{Taken}
use Rattle.protocol.specs.Ask.{put_ask, turn_ask, ready_session}
use Rattle.protocol.specs.Connection.{at, role_of, exchanged, far_start, own_start}
use Rattle.protocol.specs.Judge.{done, served, setting_session}
use Rattle.protocol.specs.Call.{put_rule, turn_rule, next_ready}
use Rattle.protocol.specs.Observed.{puts, due_by}
use Rattle.protocol.specs.Plan as plan
use Rattle.protocol.proofs.Plans.{Takes, takes_then, takes_map, takes_both}
use Rattle.protocol.proofs.Views.{Formed, look, ready_look}
use Rattle.protocol.proofs.Sound.{Sound}
use Rattle.protocol.proofs.Slots.{with_length, slot_same, slot_other, put_length, turn_length}
use Rattle.protocol.proofs.Asks.{put_sound}
use Rattle.protocol.proofs.Fates.{turn_fate}
use Rattle.protocol.proofs.Turns.{turn_sound, turn_sends}
use Rattle.history.specs.Log.{put, turn, State}
use Rattle.history.proofs.Good.{Ok, Good, ForSession, setup_of, holds, ready_at}
use Rattle.history.proofs.Sessions.{session_good}
use Rattle.history.proofs.Written.{only_own, only_other}
use Rattle.history.proofs.Steps.{formed_up, own_range, far_range, Fates, one_fate, no_fate_told}

module _ (s : State) (o : Ok (setup_of s.connection) s) where
  full : (q : ℕ) → not (eqb q queue_size) ≡ false → q ≡ queue_size
  full q e = eqb-true q queue_size (not_false (eqb q queue_size) e)

  pub put_good : (n : ℕ) (bytes : List ℕ) → Takes (Good (setup_of s.connection) s (put n bytes)) (put_rule s.connection n (length bytes) (length s.queue))
  unfolding put_rule put_ask
  put_good n bytes _ live up queue num side room =
      let hn = leb-false 128 n num in
      let hu = not_false (exchanged s.connection.stage) up in
      let hq = full (length s.queue) queue in
      let x = at s.connection n in
      let sl = slot n s.queue in
      let f = formed_up s o hu n hn in
      let long = o.fits n hn in
      let small = f.waiting in
      let free : length bytes ≤ slot_size - (at s.connection n).waiting = ltb-false _ _ room in
      let fill : (at s.connection n).waiting + length bytes ≤ slot_size = omega arith in
      let size = put_length x.waiting bytes sl fill long in
      let same = slot_same n (put_slot x.waiting bytes sl) s.queue hn hq size in
      let t : Taken = record { session = queued (length bytes) (at s.connection n); sent = []; late = false } in
      let snd = put_sound (role_of s.connection.stage) (own_start s.connection) (far_start s.connection) x sl bytes f long side room in
      session_good (setup_of s.connection) s (put n bytes) n s.connection.last done (puts bytes ∷ []) false t o
      (record {
        mark = refl;
        turns = refl;
        inside = hn;
        last_inside = o.last;
        up = hu;
        sound = subst (λ (l : List ℕ). Sound (role_of s.connection.stage) (own_start s.connection) (far_start s.connection) x sl (puts bytes ∷ []) [] l false t) (sym same) snd;
        told = only_own n (puts bytes);
        not_told = λ m d. only_other m n (puts bytes) d;
        frame = λ m _ d. slot_other n (put_slot x.waiting bytes sl) s.queue hn hq size m (λ e. d (sym e));
        long = with_length n (put_slot x.waiting bytes sl) s.queue hn hq size ∙ sym hq;
        line = refl;
        untold = λ z. absurd (false≢true z);
        fated = one_fate s n (puts bytes) (plan.take t) refl;
        goes_on = refl;
        live = live;
        concerns = refl;
        sends = refl;
        quiet = refl;
        heard = λ payload. (tt, tt);
      })

  pub turn_good : (room : List ℕ) → Takes (Good (setup_of s.connection) s (turn room)) (turn_rule s.connection (length s.queue) (length room))
  unfolding turn_rule
  turn_good room _ live up _ queue =
      takes_then (Good (setup_of s.connection) s (turn room)) (setting_session s.connection n n (served n)) (turn_ask (own_start s.connection) (far_start s.connection) x)
      (takes_map (λ t z. session_good (setup_of s.connection) s (turn room) n n (served n) [] true t o (taken t z.0 z.1.0 z.1.1)) (turn_ask (own_start s.connection) (far_start s.connection) x)
      (takes_both
      (λ t. Sound (role_of s.connection.stage) (own_start s.connection) (far_start s.connection) x sl [] sl (turn_slot x.waiting (x.waiting - t.session.waiting) sl) true t)
      (λ t. (t.sent ≡ due_by (look (far_start s.connection) x sl).sends ∷ []) × Fates s n [] t) (turn_ask (own_start s.connection) (far_start s.connection) x)
      (turn_sound (role_of s.connection.stage) (own_start s.connection) (far_start s.connection) x sl f (own_range s o) (far_range s o) (o.fits n hn))
      (takes_both (λ t. t.sent ≡ due_by (look (far_start s.connection) x sl).sends ∷ []) (Fates s n []) (turn_ask (own_start s.connection) (far_start s.connection) x)
      (turn_sends (own_start s.connection) (far_start s.connection) x sl (o.fits n hn))
      (no_fate_told s n (turn_ask (own_start s.connection) (far_start s.connection) x) (turn_fate (own_start s.connection) (far_start s.connection) x)))))
    where
      n : ℕ
      n = next_ready s.connection

      hn : next_ready s.connection < 128
      hn = nearest_lt (λ i. ready_session (at s.connection i)) s.connection.last o.last

      x : Session
      x = at s.connection (next_ready s.connection)

      sl : List ℕ
      sl = slot (next_ready s.connection) s.queue

      f : Formed (role_of s.connection.stage) true (at s.connection (next_ready s.connection))
      f = formed_up s o (not_false (exchanged s.connection.stage) up) n hn

      near : (m : ℕ) → m < 128 → ready_at s m ≡ true → gap s.connection.last (next_ready s.connection) ≤ gap s.connection.last m
      near m h e =
          (nearest_found_lem (λ i. ready_session (at s.connection i)) s.connection.last m o.last h
          (ready_look (far_start s.connection) (at s.connection m) (slot m s.queue) (o.fits m h) ∙ e)).near

      taken : (t : Taken) → Sound (role_of s.connection.stage) (own_start s.connection) (far_start s.connection) (at s.connection (next_ready s.connection)) (slot (next_ready s.connection) s.queue) []
          (slot (next_ready s.connection) s.queue)
          (turn_slot (at s.connection (next_ready s.connection)).waiting ((at s.connection (next_ready s.connection)).waiting - t.session.waiting) (slot (next_ready s.connection) s.queue)) true t
          → t.sent ≡ due_by (holds s (next_ready s.connection)).sends ∷ [] → Fates s (next_ready s.connection) [] t
          → ForSession (setup_of s.connection) s (turn room) (next_ready s.connection) (next_ready s.connection) (served (next_ready s.connection)) [] true t
      taken t snd sends fate =
          let hq = full (length s.queue) queue in
          let size = turn_length x.waiting (x.waiting - t.session.waiting) sl f.waiting in
          let same = slot_same n (turn_slot x.waiting (x.waiting - t.session.waiting) sl) s.queue hn hq size in
          record {
            mark = (refl, near);
            turns = refl;
            inside = hn;
            last_inside = hn;
            up = not_false (exchanged s.connection.stage) up;
            sound = subst (λ (l : List ℕ). Sound (role_of s.connection.stage) (own_start s.connection) (far_start s.connection) x sl [] sl l true t) (sym same) snd;
            told = refl;
            not_told = λ _ _. refl;
            frame = λ m _ d. slot_other n (turn_slot x.waiting (x.waiting - t.session.waiting) sl) s.queue hn hq size m (λ e. d (sym e));
            long = with_length n (turn_slot x.waiting (x.waiting - t.session.waiting) sl) s.queue hn hq size ∙ sym hq;
            line = refl;
            untold = λ _. refl;
            fated = fate;
            goes_on = refl;
            live = live;
            concerns = refl;
            sends = sends;
            quiet = refl;
            heard = λ payload. tt;
          }
