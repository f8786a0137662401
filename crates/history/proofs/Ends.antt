-- over-leaves: a call by which the connection is over changes nothing else except outcomes, for every state. From the effects of the rules.
use mathlib.Core.Path.{◌≡◌, refl, sym, ap, ◌∙◌, subst}
use mathlib.Core.Bool.{true, false}
use mathlib.Core.List.{List, [], ◌∷◌}
use Prim.Native.Nat.{ℕ}
use native.Mathlib.Omega.{arith}
use lib.ListN.{length, get_or, set}
use Rattle.laws.specs.Result.{Result, ok, refused, violation}
use Rattle.laws.proofs.Tests.{true_false}
use Rattle.wire.specs.declared.Role.{Role}
use Rattle.wire.specs.declared.Message.{Message}
use Rattle.wire.specs.Message.{read_message}
use Rattle.wire.specs.Connection.{read_connection_header}
use Rattle.state.specs.declared.Session.{Session}
use Rattle.state.specs.declared.Stage.{Stage}
use Rattle.state.specs.declared.Stage.TheVariants as stage
use Rattle.state.specs.declared.Connection.{Connection}
use Rattle.protocol.specs.Plan.{Plan, settle, and_then}
use Rattle.state.specs.New.{blank}
use Rattle.protocol.specs.Message.{ConnectionMessage, no_operation_of, shutdown_of, error_of, ping_of, ping_ack_of, Scope, whole, of_session, scope}
use Rattle.protocol.specs.Receipt.{Taken, receipt}
use Rattle.protocol.specs.Ask.{open_ask, put_ask, finish_ask, grant_ask, abort_ask, close_ask, turn_ask}
use Rattle.protocol.specs.Connection.{other_end, Cause, at, role_of, own_start, far_start, ended}
use Rattle.protocol.specs.Judge.{Report, done, served, message, Ending, goes_on, ends, Effect, Decision, refuse, violate, accept, setting_session, continued, breach_of, judge_whole, judge_scope, judge}
use Rattle.protocol.specs.Call.{next_ready, header_taken, message_taken, reading, receive_gate, start_rule, open_rule, put_rule, finish_rule, turn_rule, grant_rule, abort_rule, close_rule, ping_rule, shutdown_rule, lost_rule, receive_rule}
use Rattle.protocol.proofs.Plans.{settled, stops_all, Takes, takes_then, takes_all}
use Rattle.history.specs.Log.{Call, start, open_session, put, finish, turn, grant, abort, close, shutdown, lost, receive, State}
use Rattle.history.specs.Log as log
use Rattle.history.proofs.Decisions.{decide, queue_after, next_by, next_is}
use Rattle.history.specs.Claims.{OnlyOver, OverLeaves}
use Rattle.history.proofs.Good.{base}
use Rattle.history.proofs.Simulation.{queue_violated}
use Rattle.history.proofs.Leaves.{only_over}

-- an effect that ends the connection touches nothing else
pub record Alone (c : Connection) (e : Effect) : Type 0 where
  pub number : e.number ≡ 0
  pub session : e.session ≡ at c 0
  pub stage : e.stage ≡ c.stage
  pub last : e.last ≡ c.last
  pub ping : e.ping ≡ c.ping

abbrev EndsAlone : Connection → Decision → Type 0
EndsAlone c (refuse n) = Unit {0}
EndsAlone c (violate b) = Unit {0}
EndsAlone c (accept e) = (cause : Cause) → e.ending ≡ ends cause → Alone c e

goes_ends : {cause : Cause} {A : Type 0} → goes_on ≡ ends cause → A
goes_ends z = absurd (let w : ◌≡◌ {A = ℕ} 0 1 = cc in omega arith)

module _ (c : Connection) where
  local : (p : Plan Effect) → Takes (λ e. EndsAlone c (accept e)) p → EndsAlone c (settle refuse accept p)
  local p h = settled (EndsAlone c) refuse accept p (stops_all (λ n. tt) p) h

  session : (n last : ℕ) (r : Report) (p : Plan Taken) → Takes (λ e. EndsAlone c (accept e)) (and_then (setting_session c n last r) p)
  session n last r p = takes_then (λ e. EndsAlone c (accept e)) (setting_session c n last r) p (takes_all (λ t cause z. goes_ends z) p)

  whole_ends : (m : Message) (w : ConnectionMessage) → Takes (λ e. EndsAlone c (accept e)) (judge_whole c m w)
  whole_ends m no_operation_of = λ cause z. goes_ends z
  whole_ends m shutdown_of = λ cause z. record { number = refl; session = refl; stage = refl; last = refl; ping = refl }
  whole_ends m error_of = λ cause z. record { number = refl; session = refl; stage = refl; last = refl; ping = refl }
  whole_ends m (ping_of k) = λ cause z. goes_ends z
  whole_ends m (ping_ack_of k) = λ _ cause z. goes_ends z

  scope_ends : (m : Message) (z : Scope) → EndsAlone c (judge_scope c m z)
  scope_ends m (whole w) = settled (EndsAlone c) (breach_of c) accept (judge_whole c m w) (stops_all (λ n. tt) (judge_whole c m w)) (whole_ends m w)
  scope_ends m (of_session i sm) =
      let p = receipt (role_of c.stage) (own_start c) (far_start c) (at c i) sm in
      settled (EndsAlone c) (breach_of c) (λ t. accept (setting_session c i c.last (message m t.late) t)) p (stops_all (λ n. tt) p) (takes_all (λ t cause z. goes_ends z) p)

  header_ends : (r : Role) (h : Result ℕ) → EndsAlone c (header_taken c r h)
  header_ends r (ok far) = λ cause z. goes_ends z
  header_ends r (refused n) = tt
  header_ends r (violation f) = tt

  message_ends : (h : Result Message) → EndsAlone c (message_taken c h)
  unfolding judge
  message_ends (ok m) = scope_ends m (scope m)
  message_ends (refused n) = tt
  message_ends (violation f) = tt

  reading_ends : (input : List ℕ) (st : Stage) → EndsAlone c (reading c input st)
  reading_ends input (stage.Fresh r) = header_ends r (read_connection_header input)
  reading_ends input stage.Started = header_ends _ (read_connection_header input)
  reading_ends input (stage.Up r far) = message_ends (read_message (other_end r) input)

  decide_ends : (q : List ℕ) (k : Call) → EndsAlone c (decide c q k)
  unfolding start_rule open_rule put_rule finish_rule turn_rule grant_rule abort_rule close_rule ping_rule shutdown_rule lost_rule receive_rule
  decide_ends q (start room) = local _ (λ _ _ _ _ _ cause z. goes_ends z)
  decide_ends q (open_session n) = local _ (λ _ _ _ _. session n c.last done (open_ask (role_of c.stage) (at c n)))
  decide_ends q (put n bytes) = local _ (λ _ _ _ _ _. session n c.last done (put_ask (at c n) (length bytes)))
  decide_ends q (finish n) = local _ (λ _ _ _ _. session n c.last done (finish_ask (at c n)))
  decide_ends q (turn room) = local _ (λ _ _ _ _ _. session (next_ready c) (next_ready c) (served (next_ready c)) (turn_ask (own_start c) (far_start c) (at c (next_ready c))))
  decide_ends q (grant n amount room) = local _ (λ _ _ _ _ _. session n c.last done (grant_ask (at c n) amount))
  decide_ends q (abort n partial room) = local _ (λ _ _ _ _ _. session n c.last done (abort_ask (role_of c.stage) (at c n) partial))
  decide_ends q (close n room) = local _ (λ _ _ _ _ _. session n c.last done (close_ask (role_of c.stage) (at c n)))
  decide_ends q (log.ping cookie room) = local _ (λ _ _ _ _ _ cause z. goes_ends z)
  decide_ends q (shutdown room) = local _ (λ _ _ _ _ _ cause z. record { number = refl; session = refl; stage = refl; last = refl; ping = refl })
  decide_ends q lost = local _ (λ _ _ cause z. record { number = refl; session = refl; stage = refl; last = refl; ping = refl })
  decide_ends q (receive input room) =
      settled (EndsAlone c) refuse (λ go. reading c input c.stage) (receive_gate c (length room)) (stops_all (λ n. tt) (receive_gate c (length room)))
      (takes_all (λ go. reading_ends input c.stage) (receive_gate c (length room)))

-- ---- the connection after it

-- the first session is put back where it was
same_first : (l : List Session) → set l 0 (get_or l 0 blank) ≡ l
same_first [] = refl
same_first (x ∷ l) = refl

same_base : (c : Connection) (e : Effect) → Alone c e → base c e ≡ c
same_base c e a i =
    record {
      sessions = (ap (λ (n : ℕ). set c.sessions n e.session) a.number ∙ ap (set c.sessions 0) a.session ∙ same_first c.sessions) i;
      stage = a.stage i;
      over = c.over;
      own = c.own;
      last = a.last i;
      ping = a.ping i;
    }

-- ---- only put and turn change the queue, and they end nothing

abbrev GoesOn : Decision → Type 0
GoesOn (refuse n) = Unit {0}
GoesOn (violate b) = Unit {0}
GoesOn (accept e) = e.ending ≡ goes_on

module _ (c : Connection) (q : List ℕ) where
  stays : (n last : ℕ) (r : Report) (p : Plan Taken) → Takes (λ e. GoesOn (accept e)) (and_then (setting_session c n last r) p)
  stays n last r p = takes_then (λ e. GoesOn (accept e)) (setting_session c n last r) p (takes_all (λ t. refl) p)

  goes_local : (p : Plan Effect) → Takes (λ e. GoesOn (accept e)) p → GoesOn (settle refuse accept p)
  goes_local p h = settled GoesOn refuse accept p (stops_all (λ n. tt) p) h

  put_goes : (n : ℕ) (bytes : List ℕ) → GoesOn (decide c q (put n bytes))
  unfolding put_rule
  put_goes n bytes = goes_local _ (λ _ _ _ _ _. stays n c.last done (put_ask (at c n) (length bytes)))

  turn_goes : (room : List ℕ) → GoesOn (decide c q (turn room))
  unfolding turn_rule
  turn_goes room =
      goes_local _
      (λ _ _ _ _ _. stays (next_ready c) (next_ready c) (served (next_ready c)) (turn_ask (own_start c) (far_start c) (at c (next_ready c))))

  queue_stays : (k : Call) (e : Effect) → decide c q k ≡ accept e → (cause : Cause) → e.ending ≡ ends cause → queue_after c q k (accept e) ≡ q
  queue_stays (start room) e h cause z = refl
  queue_stays (open_session n) e h cause z = refl
  queue_stays (put n bytes) e h cause z = goes_ends (sym (subst GoesOn h (put_goes n bytes)) ∙ z)
  queue_stays (finish n) e h cause z = refl
  queue_stays (turn room) e h cause z = goes_ends (sym (subst GoesOn h (turn_goes room)) ∙ z)
  queue_stays (grant n amount room) e h cause z = refl
  queue_stays (abort n partial room) e h cause z = refl
  queue_stays (close n room) e h cause z = refl
  queue_stays (log.ping cookie room) e h cause z = refl
  queue_stays (shutdown room) e h cause z = refl
  queue_stays lost e h cause z = refl
  queue_stays (receive input room) e h cause z = refl

-- ---- every state and call

module _ (s : State) (k : Call) (live : s.connection.over ≡ false) where
  by_ending : (e : Effect) → decide s.connection s.queue k ≡ accept e → (en : Ending) → e.ending ≡ en → (continued en (base s.connection e)).over ≡ true
      → OnlyOver s.connection (continued en (base s.connection e)) × (queue_after s.connection s.queue k (accept e) ≡ s.queue)
  by_ending e h goes_on z o = absurd (true_false o live)
  by_ending e h (ends cause) z o =
      let a : Alone s.connection e = subst (EndsAlone s.connection) h (decide_ends s.connection s.queue k) cause z in (
        subst (λ (c : Connection). OnlyOver s.connection (ended cause c)) (sym (same_base s.connection e a)) (only_over cause s.connection),
        queue_stays s.connection s.queue k e h cause z,
      )

  by_decision : (d : Decision) → decide s.connection s.queue k ≡ d → (next_by s k d).connection.over ≡ true
      → OnlyOver s.connection (next_by s k d).connection × ((next_by s k d).queue ≡ s.queue)
  by_decision (refuse n) h o = absurd (true_false o live)
  by_decision (violate b) h o = (only_over b.cause s.connection, queue_violated s.connection s.queue k b)
  by_decision (accept e) h o = by_ending e h e.ending refl o

pub over_leaves : (s : State) (k : Call) → OverLeaves s k
over_leaves s k live o = rw next_is (by_decision s k live (decide s.connection s.queue k) refl (rw next_is at o))
