-- room-behind: what a call writes fits the room that it is lent, and the bytes behind it are as lent. From what each rule sends.
use mathlib.Core.Path.{◌≡◌, refl, sym, ap, subst, ◌∙◌}
use mathlib.Core.Bool.{Bool, true, false}
use mathlib.Core.List.{List, [], ◌∷◌, map}
use Prim.Native.Nat.{ℕ, ◌+◌, ◌≤◌}
use native.Mathlib.Omega.{arith}
use lib.ListN.{length, drop, length-append, length-take, length-drop}
use lib.Seq.{drop_at}
use lib.Dec.{ltb}
use borrow.Author.Tests.{ltb-false}
use Rattle.laws.specs.Pick.{pick}
use Rattle.laws.specs.Result.{Fault, Result, ok, refused, violation}
use Rattle.laws.specs.Room.{overlaid}
use Rattle.ration.specs.declared.Ration.{Ration}
use Rattle.wire.specs.declared.Role.{Role}
use Rattle.wire.specs.declared.Role.TheVariants as role
use Rattle.wire.specs.declared.Message.{Message}
use Rattle.wire.specs.declared.Message.TheVariants as msg
use Rattle.wire.specs.Message.{read_message}
use Rattle.wire.specs.Connection.{read_connection_header}
use Rattle.state.specs.declared.Side.TheVariants as side
use Rattle.state.specs.declared.Sides.{Sides}
use Rattle.state.specs.declared.Sides.TheVariants as sides
use Rattle.state.specs.declared.Session.{Session}
use Rattle.state.specs.declared.Stage.{Stage}
use Rattle.state.specs.declared.Stage.TheVariants as stage
use Rattle.state.specs.declared.Connection.{Connection}
use Rattle.protocol.specs.Slot.{slot_size, turn_room}
use Rattle.protocol.specs.Queue.{slot}
use Rattle.protocol.specs.Plan.{Plan, and_then}
use Rattle.protocol.specs.Message.{ConnectionMessage, no_operation_of, shutdown_of, error_of, ping_of, ping_ack_of, SessionMessage, Scope, whole, of_session, scope, numbered, increment_of, abort_of, close_of}
use Rattle.protocol.specs.Receipt.{Taken, receipt}
use Rattle.protocol.specs.Ask.{grant_ask, abort_ask, close_ask, turn_of, turn_ask}
use Rattle.protocol.specs.Connection.{other_end, at, role_of, own_start, far_start}
use Rattle.protocol.specs.Observed.{Ends, unused, ends, answered, replies_at}
use Rattle.protocol.specs.Judge.{Report, done, served, message, sent, Effect, Decision, refuse, accept, setting_session, breach, fault_of, breach_of, judge_whole, judge_scope, judge}
use Rattle.protocol.specs.Call.{start_rule, turn_rule, grant_rule, abort_rule, close_rule, ping_rule, shutdown_rule, receive_rule, next_ready, receive_gate, header_taken, message_taken, reading}
use Rattle.protocol.specs.Result.{Given, decided, turn_payload, bytes_of_all, written_by}
use Rattle.protocol.proofs.Plans.{Takes, takes_then, takes_map, stops_all, settled}
use Rattle.protocol.proofs.Views.{ends_of, look}
use Rattle.protocol.specs.Asked.{is_unsent}
use Rattle.protocol.proofs.Sends.{Sends, grant_sends, abort_sends, close_sends, receipt_sends}
use Rattle.history.specs.Log.{Call, start, open_session, put, finish, turn, grant, abort, close, shutdown, lost, receive, room_of, State, Entry, called}
use Rattle.history.specs.Log as log
use Rattle.history.specs.Claims.{RoomBehind}
use Rattle.history.proofs.Violations.{breach_told, broken_fits}
use Rattle.history.proofs.Decisions.{decide, out_by, open_silent, put_silent, finish_silent, lost_silent, called_is, wrote_is, out_is}

-- ---- how long the bytes of a message are

one_length : (m : Message) (payload : List ℕ) → length (bytes_of_all payload (sent m ∷ [])) ≤ 4 + length payload
unfolding bytes_of_all
one_length m payload = simp (length-append, length-take) (omega arith)

-- at most one message of a session
abbrev AtMostOne : Taken → Type 0
AtMostOne t = length t.sent ≤ 1

sent_length : (n : ℕ) (payload : List ℕ) (ms : List SessionMessage) → length ms ≤ 1 → length (bytes_of_all payload (map (λ m. sent (numbered n m)) ms)) ≤ 4 + length payload
unfolding bytes_of_all
sent_length n payload [] h = omega arith
sent_length n payload (m ∷ []) h = one_length (numbered n m) payload
sent_length n payload (m ∷ j ∷ ms) h = absurd (omega arith)

sends_one : (ms : List SessionMessage) → length ms ≤ 1 → (p : Plan Taken) → Takes (Sends ms) p → Takes AtMostOne p
sends_one ms h p k = takes_map (λ t q. subst (λ (l : List SessionMessage). length l ≤ 1) (sym q) h) p k

-- an abort and a reply are one message or none
pick_one : (b : Bool) (x y : List SessionMessage) → length x ≤ 1 → length y ≤ 1 → length (pick b x y) ≤ 1
unfolding pick
pick_one true x y h k = h
pick_one false x y h k = k

reply_one : (r : Role) (e : Ends) (m : SessionMessage) → length (replies_at r e m) ≤ 1
reply_one r unused m = omega arith
reply_one r (ends o t) m = pick_one (answered r o m) _ [] (omega arith) (omega arith)

turn_one : (own far : Ration) (x : Session) → Takes AtMostOne (turn_ask own far x)
unfolding turn_ask
turn_one own far x = go x.sides
  where
    go : (z : Sides) → Takes AtMostOne (turn_of own far x z)
    go sides.Idle = tt
    go (sides.Opening b) = omega arith
    go (sides.Live side.Open t) = λ _. omega arith
    go (sides.Live side.Finished t) = tt
    go (sides.Live side.Ended t) = tt

-- ---- what each decision writes fits the room

-- `room` is its length
abbrev Fits : ℕ → Decision → Type 0
Fits room d = length (written_by [] d) ≤ room

module _ (c : Connection) (room : ℕ) where
  refused_fits : (n : ℕ) → Fits room (refuse n)
  refused_fits n = omega arith

  by_plan : (p : Plan Effect) → Takes (λ e. Fits room (accept e)) p → Fits room (decided p)
  by_plan p h = settled (Fits room) refuse accept p (stops_all refused_fits p) h

  -- for one session, in a room of four bytes
  of_one : (n last : ℕ) (r : Report) (p : Plan Taken) → Takes AtMostOne p → ltb room 4 ≡ false
      → Takes (λ e. Fits room (accept e)) (and_then (setting_session c n last r) p)
  of_one n last r p h q =
      takes_then (λ e. Fits room (accept e)) (setting_session c n last r) p
      (takes_map (λ t k. omega (arith, sent_length n [] t.sent k, ltb-false room 4 q)) p h)

  message_fits : (m : Message) → 4 ≤ room → length (bytes_of_all [] (sent m ∷ [])) ≤ room
  message_fits m h = omega (arith, one_length m [])

  nothing_fits : length (bytes_of_all [] []) ≤ room
  unfolding bytes_of_all
  nothing_fits = omega arith

  start_fits : Fits room (decided (start_rule c room))
  unfolding start_rule bytes_of_all
  start_fits = by_plan _ (λ _ _ h _ _. ltb-false room 8 h)

  grant_fits : (n amount : ℕ) → Fits room (decided (grant_rule c n amount room))
  unfolding grant_rule
  grant_fits n amount = by_plan _ (λ _ _ _ h _. of_one n c.last done (grant_ask (at c n) amount) (sends_one (increment_of amount ∷ []) (omega arith) (grant_ask (at c n) amount) (grant_sends (at c n) amount)) h)

  abort_fits : (n : ℕ) (partial : Bool) → Fits room (decided (abort_rule c n partial room))
  unfolding abort_rule
  abort_fits n partial =
      let p = abort_ask (role_of c.stage) (at c n) partial in
      let unsent = is_unsent (look (far_start c) (at c n) []).sends in
      by_plan _ (λ _ _ _ h _. of_one n c.last done p
      (sends_one (pick unsent [] (abort_of partial ∷ [])) (pick_one unsent [] (abort_of partial ∷ []) (omega arith) (omega arith)) p
      (abort_sends (role_of c.stage) (far_start c) (at c n) [] partial)) h)

  close_fits : (n : ℕ) → Fits room (decided (close_rule c n room))
  unfolding close_rule
  close_fits n =
      by_plan _ (λ _ _ _ h _. of_one n c.last done (close_ask (role_of c.stage) (at c n)) (sends_one (close_of ∷ []) (omega arith) (close_ask (role_of c.stage) (at c n)) (close_sends (role_of c.stage) (at c n))) h)

  ping_fits : (cookie : ℕ) → Fits room (decided (ping_rule c cookie room))
  unfolding ping_rule
  ping_fits cookie = by_plan _ (λ _ _ _ h _. message_fits (msg.Ping cookie) (ltb-false room 4 h))

  shutdown_fits : Fits room (decided (shutdown_rule c room))
  unfolding shutdown_rule
  shutdown_fits = by_plan _ (λ _ _ _ h _. message_fits (msg.Shutdown 0) (ltb-false room 4 h))

  -- ---- a turn: a header, and at most a slot

  module _ (queue : List ℕ) where
    abbrev TurnFits : Decision → Type 0
    TurnFits d = length (written_by (turn_payload queue d) d) ≤ room

    slot_length : (n : ℕ) → length (slot n queue) ≤ slot_size
    slot_length n = simp length-take (omega arith)

    turn_fits : TurnFits (decided (turn_rule c (length queue) room))
    unfolding turn_rule
    turn_fits =
        settled TurnFits refuse accept (turn_rule c (length queue) room) (stops_all refused_fits (turn_rule c (length queue) room))
        (λ _ _ _ h _. takes_then (λ e. TurnFits (accept e)) (setting_session c (next_ready c) (next_ready c) (served (next_ready c))) (turn_ask (own_start c) (far_start c) (at c (next_ready c)))
        (takes_map (λ t k. omega (arith, sent_length (next_ready c) (slot (next_ready c) queue) t.sent k, slot_length (next_ready c), ltb-false room turn_room h))
        (turn_ask (own_start c) (far_start c) (at c (next_ready c))) (turn_one (own_start c) (far_start c) (at c (next_ready c)))))

-- ---- a receive, in a room of twelve

module _ (s : State) (input room : List ℕ) where
  abbrev ReceiveFits : Decision → Type 0
  ReceiveFits = Fits (length room)

  module _ (wide : 12 ≤ length room) where
    breach_fits : (f : Fault) → ReceiveFits (breach s.connection f)
    breach_fits f = omega (arith, broken_fits s (receive input room) _ (breach_told s input room f))

    header_fits : (r : Role) (h : Result ℕ) → ReceiveFits (header_taken s.connection r h)
    unfolding bytes_of_all
    header_fits role.Client (ok far) = omega arith
    header_fits role.Server (ok far) = omega arith
    header_fits r (refused n) = omega arith
    header_fits r (violation f) = breach_fits f

    whole_fits : (m : Message) (w : ConnectionMessage) → Takes (λ e. ReceiveFits (accept e)) (judge_whole s.connection m w)
    whole_fits m no_operation_of = nothing_fits s.connection (length room)
    whole_fits m shutdown_of = nothing_fits s.connection (length room)
    whole_fits m error_of = nothing_fits s.connection (length room)
    whole_fits m (ping_of k) = message_fits s.connection (length room) (msg.PingAck k) (omega arith)
    whole_fits m (ping_ack_of k) = λ _. nothing_fits s.connection (length room)

    scope_fits : (m : Message) (z : Scope) → ReceiveFits (judge_scope s.connection m z)
    scope_fits m (whole w) =
        settled ReceiveFits (breach_of s.connection) accept (judge_whole s.connection m w) (stops_all (λ n. breach_fits (fault_of n)) (judge_whole s.connection m w)) (whole_fits m w)
    scope_fits m (of_session i x) =
        let c = s.connection in
        let p = receipt (role_of c.stage) (own_start c) (far_start c) (at c i) x in
        settled ReceiveFits (breach_of c) (λ t. accept (setting_session c i c.last (message m t.late) t)) p (stops_all (λ n. breach_fits (fault_of n)) p)
        (takes_map (λ t k. omega (arith, sent_length i [] t.sent k)) p
        (sends_one (replies_at (role_of c.stage) (ends_of (at c i).sides) x) (reply_one (role_of c.stage) (ends_of (at c i).sides) x) p (receipt_sends (at c i) (role_of c.stage) (own_start c) (far_start c) x)))

    read_fits : (h : Result Message) → ReceiveFits (message_taken s.connection h)
    unfolding judge
    read_fits (ok m) = scope_fits m (scope m)
    read_fits (refused n) = omega arith
    read_fits (violation f) = breach_fits f

    reading_fits : (st : Stage) → ReceiveFits (reading s.connection input st)
    reading_fits (stage.Fresh r) = header_fits r (read_connection_header input)
    reading_fits stage.Started = header_fits role.Client (read_connection_header input)
    reading_fits (stage.Up r far) = read_fits (read_message (other_end r) input)

  receive_fits : ReceiveFits (receive_rule s.connection input (length room))
  unfolding receive_rule
  receive_fits =
      let gate = receive_gate s.connection (length room) in
      settled ReceiveFits refuse (λ go. reading s.connection input s.connection.stage) gate (stops_all (refused_fits s.connection (length room)) gate)
      (λ _ _ _ h. reading_fits (ltb-false (length room) 12 h) s.connection.stage)

-- ---- every state and call

silent_fits : {w : List ℕ} → w ≡ [] → length w ≤ 0
silent_fits e = rw e (omega arith)

module _ (s : State) where
  written_fits : (k : Call) → length (out_by s k (decide s.connection s.queue k)).wrote ≤ length (room_of k)
  written_fits (start room) = start_fits s.connection (length room)
  written_fits (open_session n) = silent_fits (open_silent s.connection n)
  written_fits (put n bytes) = silent_fits (put_silent s.connection n (length bytes) (length s.queue))
  written_fits (finish n) = silent_fits (finish_silent s.connection n)
  written_fits (turn room) = turn_fits s.connection (length room) s.queue
  written_fits (grant n amount room) = grant_fits s.connection (length room) n amount
  written_fits (abort n partial room) = abort_fits s.connection (length room) n partial
  written_fits (close n room) = close_fits s.connection (length room) n
  written_fits (log.ping cookie room) = ping_fits s.connection (length room) cookie
  written_fits (shutdown room) = shutdown_fits s.connection (length room)
  written_fits lost = silent_fits (lost_silent s.connection)
  written_fits (receive input room) = receive_fits s input room

  overlaid_length : (bytes room : List ℕ) → length bytes ≤ length room → length (overlaid bytes room) ≡ length room
  overlaid_length bytes room h = simp (length-append, length-drop) (omega arith)

  pub room_behind : (k : Call) → RoomBehind s k
  room_behind k =
      let w = (out_by s k (decide s.connection s.queue k)).wrote in
      let room_is : (called s k).2 ≡ overlaid (out_by s k (decide s.connection s.queue k)).wrote (room_of k) =
      ap (λ (g : Given × List ℕ × List ℕ). g.2) (called_is s k) in
      record {
        told = ap (λ (g : Given × List ℕ × List ℕ). g.0.wrote) (called_is s k) ∙ wrote_is s k ∙ sym (ap (λ (x : Entry). length x.wrote) (out_is s k));
        fits = rw out_is (written_fits k);
        size = ap length room_is ∙ overlaid_length w (room_of k) (written_fits k);
        behind =
            rw out_is (ap (drop (length w)) room_is ∙ drop_at w (drop (length w) (room_of k)) (length w) refl);
      }
