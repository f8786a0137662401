-- With which numbers a call is refused: 14 where the state is not well formed, else another below 20; a violation says what is wrong with the
-- input, by its number and place, and is as the log tells it. From the numbers of the rules and the faults of the reader.
use mathlib.Core.Path.{◌≡◌, refl, sym, ap, subst}
use mathlib.Core.Bool.{true, false, not}
use mathlib.Core.List.{List}
use Prim.Native.Nat.{ℕ}
use lib.ListN.{length}
use Rattle.laws.specs.Result.{Fault, Result, ok, refused, violation}
use Rattle.wire.specs.declared.Role.{Role}
use Rattle.wire.specs.declared.Message.{Message}
use Rattle.wire.specs.Message.{read_message}
use Rattle.wire.specs.Connection.{read_connection_header}
use Rattle.wire.proofs.Bounds.{ShortOnly, message_short, header_short}
use Rattle.wire.proofs.Places.{message_fault, header_fault}
use Rattle.ration.specs.declared.Ration.{Ration}
use Rattle.state.specs.declared.Stage.{Stage}
use Rattle.state.specs.declared.Stage.TheVariants as stage
use Rattle.state.specs.declared.Session.{Session}
use Rattle.state.specs.declared.Connection.{Connection}
use Rattle.protocol.specs.Plan.{Plan, check, settle, and_then}
use Rattle.protocol.specs.Message.{ConnectionMessage, ping_ack_of, SessionMessage, data_of, increment_of, Scope, whole, of_session, scope}
use Rattle.protocol.specs.Receipt.{Taken, receipt}
use Rattle.protocol.specs.Connection.{other_end, at, role_of, exchanged, own_start, far_start, well_formed}
use Rattle.protocol.specs.Judge.{Report, done, message, Effect, Breach, Decision, refuse, violate, accept, setting_session, breach, fault_of, breach_of, judge_whole, judge_scope, judge}
use Rattle.protocol.specs.Call.{start_rule, open_rule, put_rule, finish_rule, turn_rule, grant_rule, abort_rule, close_rule, ping_rule, shutdown_rule, lost_rule, receive_rule, next_ready, header_taken, message_taken, reading}
use Rattle.protocol.specs.Ask.{open_ask, put_ask, finish_ask, grant_ask, abort_ask, close_ask, turn_ask}
use Rattle.protocol.proofs.Plans.{stops, passes, settled, takes_all, Stops, stops_then, stops_map}
use Rattle.protocol.proofs.Numbers.{is_low, Low, open_low, put_low, finish_low, grant_low, abort_low, close_low, turn_low, receipt_numbers, whole_numbers}
use Rattle.protocol.proofs.Faults.{fault_25, fault_26, fault_27, fault_28}
use Rattle.history.specs.Log.{Call, start, open_session, put, finish, turn, grant, abort, close, shutdown, lost, receive, State}
use Rattle.history.specs.Log as log
use Rattle.history.specs.Faults.{RuleFault, wrong_state, above_ration, past_largest, unasked_ack, ReceiveFault, header_wrong, message_wrong, rule_broken}
use Rattle.history.proofs.Decisions.{decide}
use Rattle.history.proofs.Violations.{Broken, breach_told}

-- a violation says what is wrong with the input of a receive, and is as the log tells it
pub record Breached (s : State) (k : Call) (b : Breach) : Type 0 where
  pub found : (input room : List ℕ) × (k ≡ receive input room) × ReceiveFault s.connection.stage input b.fault
  pub told : Broken s k b

abbrev pub Ruled : State → Call → Decision → Type 0
Ruled s k (refuse n) = Low n
Ruled s k (violate b) = Breached s k b
Ruled s k (accept e) = Unit {0}

-- ---- a receive

module _ (s : State) (input room : List ℕ) where
  abbrev Received : Decision → Type 0
  Received = Ruled s (receive input room)

  breach_ruled : (f : Fault) → ReceiveFault s.connection.stage input f → Received (breach s.connection f)
  breach_ruled f q = record { found = (input, room, refl, q); told = breach_told s input room f }

  header_ruled : exchanged s.connection.stage ≡ false → (r : Role) (h : Result ℕ) → read_connection_header input ≡ h → ShortOnly h
      → Received (header_taken s.connection r h)
  header_ruled down r (ok far) e h = tt
  header_ruled down r (refused n) e h = ap is_low h
  header_ruled down r (violation f) e h = let w = header_fault input f e in breach_ruled f (header_wrong f down w.0 w.1)

  module _ (r : Role) (far : ℕ) (up : s.connection.stage ≡ stage.Up r far) where
    -- the numbers of the rules, each at its place
    session_fault : (i : ℕ) (x : Session) (role : Role) (own far : Ration) (m : SessionMessage)
        → Stops (λ n. RuleFault (of_session i m) (fault_of n)) (receipt role own far x m)
    session_fault i x role own far m =
        receipt_numbers (λ k n. RuleFault (of_session i k) (fault_of n)) (λ k. subst (RuleFault (of_session i k)) (sym fault_25) (wrong_state i k))
        (λ n o c e a. subst (RuleFault (of_session i (data_of n o c e a))) (sym fault_26) (above_ration i n o c e a))
        (λ n. subst (RuleFault (of_session i (increment_of n))) (sym fault_27) (past_largest i n)) x role own far m

    whole_fault : (c : Connection) (m : Message) (w : ConnectionMessage) → Stops (λ n. RuleFault (whole w) (fault_of n)) (judge_whole c m w)
    whole_fault c m w =
        whole_numbers (λ v n. RuleFault (whole v) (fault_of n)) (λ k. subst (RuleFault (whole (ping_ack_of k))) (sym fault_28) (unasked_ack k)) c m w

    module _ (m : Message) (e : read_message (other_end r) input ≡ ok m) where
      unfit : (z : Scope) → scope m ≡ z → (n : ℕ) → RuleFault z (fault_of n) → Received (breach_of s.connection n)
      unfit z q n w = breach_ruled (fault_of n) (rule_broken r far m (fault_of n) up e (subst (λ (y : Scope). RuleFault y (fault_of n)) (sym q) w))

      scope_ruled : (z : Scope) → scope m ≡ z → Received (judge_scope s.connection m z)
      scope_ruled (whole w) q =
          let p = judge_whole s.connection m w in
          settled Received (breach_of s.connection) accept p
          (stops_map (λ n. RuleFault (whole w) (fault_of n)) (λ n. Received (breach_of s.connection n)) (unfit (whole w) q) p (whole_fault s.connection m w))
          (takes_all (λ e. tt) p)
      scope_ruled (of_session i sm) q =
          let c = s.connection in
          let p = receipt (role_of c.stage) (own_start c) (far_start c) (at c i) sm in
          settled Received (breach_of c) (λ t. accept (setting_session c i c.last (message m t.late) t)) p
          (stops_map (λ n. RuleFault (of_session i sm) (fault_of n)) (λ n. Received (breach_of c n)) (unfit (of_session i sm) q) p
          (session_fault i (at c i) (role_of c.stage) (own_start c) (far_start c) sm)) (takes_all (λ t. tt) p)

    message_ruled : (h : Result Message) → read_message (other_end r) input ≡ h → ShortOnly h → Received (message_taken s.connection h)
    unfolding judge
    message_ruled (ok m) e h = scope_ruled m e (scope m) refl
    message_ruled (refused n) e h = ap is_low h
    message_ruled (violation f) e h = let w = message_fault (other_end r) input f e in breach_ruled f (message_wrong r far f up w.0 w.1)

  reading_ruled : (st : Stage) → s.connection.stage ≡ st → Received (reading s.connection input st)
  reading_ruled (stage.Fresh r) e = header_ruled (ap exchanged e) r (read_connection_header input) refl (header_short input)
  reading_ruled stage.Started e = header_ruled (ap exchanged e) _ (read_connection_header input) refl (header_short input)
  reading_ruled (stage.Up r far) e = message_ruled r far e (read_message (other_end r) input) refl (message_short (other_end r) input)

-- ---- every call

module _ (s : State) where
  abbrev c : Connection
  c = s.connection

  session : (n last : ℕ) (r : Report) (p : Plan Taken) → Stops Low p → Stops Low (and_then (setting_session c n last r) p)
  session n last r p h = stops_then Low (setting_session c n last r) p h

  -- for a state that is well formed
  module _ (formed : well_formed s.connection ≡ true) where
    -- the first check passes
    behind : {A : Type 0} (k : Call) (f : A → Decision) → ((a : A) → Ruled s k (f a)) → (p : Plan A) → Stops Low p → Ruled s k (settle refuse f (check (not (well_formed c)) 14 p))
    behind k f g p h = subst (Ruled s k) (sym (passes refuse f 14 p (ap not formed))) (settled (Ruled s k) refuse f p h (takes_all g p))

    local : (k : Call) (p : Plan Effect) → Stops Low p → Ruled s k (settle refuse accept (check (not (well_formed c)) 14 p))
    local k p h = behind k accept (λ e. tt) p h

    pub decide_ruled : (k : Call) → Ruled s k (decide s.connection s.queue k)
    unfolding start_rule open_rule put_rule finish_rule turn_rule grant_rule abort_rule close_rule ping_rule shutdown_rule lost_rule receive_rule
    decide_ruled (start room) = local (start room) _ (refl, (refl, (refl, (refl, tt))))
    decide_ruled (open_session n) = local (open_session n) _ (refl, (refl, (refl, session n c.last done (open_ask (role_of c.stage) (at c n)) (open_low (role_of c.stage) (at c n)))))
    decide_ruled (put n bytes) = local (put n bytes) _ (refl, (refl, (refl, (refl, session n c.last done (put_ask (at c n) (length bytes)) (put_low (at c n) (length bytes))))))
    decide_ruled (finish n) = local (finish n) _ (refl, (refl, (refl, session n c.last done (finish_ask (at c n)) (finish_low (at c n)))))
    decide_ruled (turn room) =
        local (turn room) _ (refl, (refl, (refl, (refl, session (next_ready c) (next_ready c) _ (turn_ask (own_start c) (far_start c) (at c (next_ready c))) (turn_low (own_start c) (far_start c) (at c (next_ready c)))))))
    decide_ruled (grant n amount room) = local (grant n amount room) _ (refl, (refl, (refl, (refl, session n c.last done (grant_ask (at c n) amount) (grant_low (at c n) amount)))))
    decide_ruled (abort n partial room) =
        local (abort n partial room) _ (refl, (refl, (refl, (refl, session n c.last done (abort_ask (role_of c.stage) (at c n) partial) (abort_low (role_of c.stage) (at c n) partial)))))
    decide_ruled (close n room) =
        local (close n room) _ (refl, (refl, (refl, (refl, session n c.last done (close_ask (role_of c.stage) (at c n)) (close_low (role_of c.stage) (at c n))))))
    decide_ruled (log.ping cookie room) = local (log.ping cookie room) _ (refl, (refl, (refl, (refl, tt))))
    decide_ruled (shutdown room) = local (shutdown room) _ (refl, (refl, (refl, (refl, tt))))
    decide_ruled lost = local lost _ (refl, tt)
    decide_ruled (receive input room) = behind (receive input room) (λ go. reading c input c.stage) (λ go. reading_ruled s input room c.stage refl) _ (refl, (refl, (refl, tt)))

  -- for one that is not
  pub decide_ill : well_formed s.connection ≡ false → (k : Call) → decide s.connection s.queue k ≡ refuse 14
  unfolding start_rule open_rule put_rule finish_rule turn_rule grant_rule abort_rule close_rule ping_rule shutdown_rule lost_rule receive_rule
  decide_ill ill (start room) = stops refuse accept 14 _ (ap not ill)
  decide_ill ill (open_session n) = stops refuse accept 14 _ (ap not ill)
  decide_ill ill (put n bytes) = stops refuse accept 14 _ (ap not ill)
  decide_ill ill (finish n) = stops refuse accept 14 _ (ap not ill)
  decide_ill ill (turn room) = stops refuse accept 14 _ (ap not ill)
  decide_ill ill (grant n amount room) = stops refuse accept 14 _ (ap not ill)
  decide_ill ill (abort n partial room) = stops refuse accept 14 _ (ap not ill)
  decide_ill ill (close n room) = stops refuse accept 14 _ (ap not ill)
  decide_ill ill (log.ping cookie room) = stops refuse accept 14 _ (ap not ill)
  decide_ill ill (shutdown room) = stops refuse accept 14 _ (ap not ill)
  decide_ill ill lost = stops refuse accept 14 _ (ap not ill)
  decide_ill ill (receive input room) = stops refuse (λ go. reading c input c.stage) 14 _ (ap not ill)
