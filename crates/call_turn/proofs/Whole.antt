-- A whole turn, from its gate and from what the search finds.
use mathlib.Core.Path.{◌≡◌, sym, ap, ◌∙◌}
use mathlib.Core.Bool.{true, false}
use mathlib.Core.List.{List, []}
use Prim.Native.Nat.{ℕ, ◌<◌}
use lib.Dec.{ltb}
use lib.ListN.{length}
use borrow.Author.Tests.{ltb-true}
use Rattle.laws.specs.Result.{Result, ok, refused}
use Rattle.laws.proofs.Circle.{nearest_lt}
use Rattle.laws.proofs.Tests.{and_first}
use Rattle.state.specs.declared.Connection.{Connection}
use Rattle.protocol.specs.Slot.{turn_room}
use Rattle.protocol.specs.Plan.{Plan, take}
use Rattle.protocol.specs.Ask.{ready_session}
use Rattle.protocol.specs.Connection.{at, role_of, exchanged, own_start, far_start, all_formed, well_formed}
use Rattle.protocol.specs.Judge.{served, refuse, accept, setting_session}
use Rattle.protocol.specs.Call.{up_and_running, room_for, queue_of, next_ready, serving, turn_rule}
use Rattle.protocol.specs.Result.{Given, given, decided, turn_call}
use Rattle.protocol.proofs.Turns.{turn_stops}
use Rattle.call_checks.specs.Gate.{to_gate}
use Rattle.call_checks.proofs.Calls.{passed, stopped}
use Rattle.call_turn.specs.Turned.{turn_gives}

last_below : (c : Connection) → well_formed c ≡ true → c.last < 128
unfolding well_formed
last_below c e = ltb-true _ _ (and_first (ltb c.last 128) (all_formed (role_of c.stage) (exchanged c.stage) c.sessions) e)

-- the number that is served is a session number, and no more bytes wait for it than a slot holds
pub next_number : (c : Connection) {n : ℕ} → well_formed c ≡ true → n ≡ next_ready c → n < 128
next_number c e q = rw q (nearest_lt (λ n. ready_session (at c n)) c.last (last_below c e))

abbrev pub checks : Connection → ℕ → ℕ → Plan Unit
checks c queue room = up_and_running c (room_for turn_room room (queue_of queue (take tt)))

module _ (c : Connection) (queue room : List ℕ) where
  pub turn_stopped : {k : ℕ} {res : Given} → ◌≡◌ {A = Result Unit} (refused k) (to_gate (checks c (length queue) (length room)))
      → res ≡ given c [] (refuse k) → (res, queue, room) ≡ turn_call c queue room
  unfolding turn_call turn_rule
  turn_stopped e w =
      rw w (ap (turn_gives c queue room) (stopped (checks c (length queue) (length room)) (serving c (next_ready c)) e))

  module _ (e : ok tt ≡ to_gate (checks c (length queue) (length room))) where
    pub turn_none : {res : Given} → ready_session (at c (next_ready c)) ≡ false → res ≡ given c [] (refuse 9) → (res, queue, room) ≡ turn_call c queue room
    unfolding turn_call turn_rule
    turn_none none w =
        let n = next_ready c in
        rw w
        (ap (turn_gives c queue room)
        (sym (turn_stops refuse accept (setting_session c n n (served n)) (own_start c) (far_start c) (at c n) none)
        ∙ passed (checks c (length queue) (length room)) (serving c n) e))

    pub turn_served : {n : ℕ} {r : Given × List ℕ × List ℕ} → n ≡ next_ready c → r ≡ turn_gives c queue room (decided (serving c n)) → r ≡ turn_call c queue room
    unfolding turn_call turn_rule
    turn_served next w =
        w ∙ ap (λ (m : ℕ). turn_gives c queue room (decided (serving c m))) next
        ∙ ap (turn_gives c queue room) (passed (checks c (length queue) (length room)) (serving c (next_ready c)) e)
