-- What a call that is taken does and reports, what a violation does, and the judging of a received message, which sees no bytes.
use Rattle.std.specs.Prelude.{ℕ, Bool, false, not, List, [], ◌∷◌, map, eqb, Option, Some, None}
use Rattle.laws.specs.Pick.{pick}
use Rattle.laws.specs.Result.{Fault, fault}
use Rattle.wire.specs.declared.Message.{Message}
use Rattle.wire.specs.declared.Message.TheVariants as msg
use Rattle.state.specs.declared.Session.{Session}
use Rattle.state.specs.declared.Stage.{Stage}
use Rattle.state.specs.declared.Stage.TheVariants as stage
use Rattle.state.specs.declared.Connection.{Connection}
use Rattle.state.specs.With.{with_session, with_stage, with_last, with_ping}
use Rattle.protocol.specs.Plan.{Plan, check, take, settle}
use Rattle.protocol.specs.Message.{ConnectionMessage, no_operation_of, shutdown_of, error_of, ping_of, ping_ack_of, Scope, whole, of_session, scope, numbered}
use Rattle.protocol.specs.Receipt.{Taken, receipt}
use Rattle.protocol.specs.Connection.{Cause, shutdown_received, error_received, line_lost, at, role_of, own_start, far_start, ended}

-- what a call that is taken reports
pub data Report : Type 0 where
  done : Report
  served : ℕ → Report
  header_received : ℕ → Report
  message : Message → Bool → Report

-- what is written: our connection header, or a message
pub data Output : Type 0 where
  header_out : ℕ → Output
  sent : Message → Output

-- whether the connection ends with the call
pub data Ending : Type 0 where
  goes_on : Ending
  ends : Cause → Ending

-- what a call that is taken does: the session of one number, the rest of the connection, the report, what is written
pub record Effect : Type 0 where
  pub number : ℕ
  pub session : Session
  pub stage : Stage
  pub last : ℕ
  pub ping : Option ℕ
  pub ending : Ending
  pub report : Report
  pub outs : List Output

-- a violation has its number and place, the way in which it ends the connection, and its reply
pub record Breach : Type 0 where
  pub fault : Fault
  pub cause : Cause
  pub reply : List Output

pub data Decision : Type 0 where
  refuse : ℕ → Decision
  violate : Breach → Decision
  accept : Effect → Decision

-- ---- effects

abbrev pub effect : ℕ → Session → Stage → ℕ → Option ℕ → Ending → Report → List Output → Effect
effect n x s last p e r outs = record { number = n; session = x; stage = s; last = last; ping = p; ending = e; report = r; outs = outs }

-- nothing changes; there is only a report and what is written
abbrev pub unchanged : Connection → Report → List Output → Effect
unchanged c r outs = effect 0 (at c 0) c.stage c.last c.ping goes_on r outs

abbrev pub ends_by : Connection → Cause → Report → List Output → Effect
ends_by c cause r outs = effect 0 (at c 0) c.stage c.last c.ping (ends cause) r outs

abbrev pub setting_ping : Connection → Option ℕ → Report → List Output → Effect
setting_ping c p r outs = effect 0 (at c 0) c.stage c.last p goes_on r outs

abbrev pub setting_stage : Connection → Stage → Report → List Output → Effect
setting_stage c s r outs = effect 0 (at c 0) s c.last c.ping goes_on r outs

-- the step taken for one session: the connection adds the number to what is written
abbrev pub setting_session : Connection → ℕ → ℕ → Report → Taken → Effect
setting_session c n last r t = effect n t.session c.stage last c.ping goes_on r (map (λ m. sent (numbered n m)) t.sent)

abbrev pub continued : Ending → Connection → Connection
continued goes_on c = c
continued (ends cause) c = ended cause c

-- the connection after a call that is taken
abbrev pub commit : Connection → Effect → Connection
commit c e =
    continued e.ending
    (with_ping e.ping (with_last e.last (with_stage e.stage (with_session e.number e.session c))))

-- ---- the judging of a message

-- a server that has not sent its header sends it before the Error; a client that is not started receives nothing
abbrev pub error_after : Stage → ℕ → List Output
error_after (stage.Fresh r) own = header_out own ∷ sent (msg.Error 0) ∷ []
error_after stage.Started own = sent (msg.Error 0) ∷ []
error_after (stage.Up r far) own = sent (msg.Error 0) ∷ []

-- a violation found by us counts as a lost line
abbrev pub breach : Connection → Fault → Decision
breach c f = violate (record { fault = f; cause = line_lost; reply = error_after c.stage c.own })

-- the place at which a message that was read breaks a rule: the session number, byte 1, for 25; the length, the increment or the cookie,
-- from byte 2 on, for 26, 27 and 28; no rule has another number
abbrev pub place_of : ℕ → ℕ
place_of n = pick (eqb n 25) 1 2

abbrev pub fault_of : ℕ → Fault
fault_of n = fault n (place_of n)

abbrev pub breach_of : Connection → ℕ → Decision
breach_of c n = breach c (fault_of n)

abbrev pub matches : Option ℕ → ℕ → Bool
matches None k = false
matches (Some j) k = eqb j k

-- 28 for a PingAck that matches no outstanding cookie
abbrev pub judge_whole : Connection → Message → ConnectionMessage → Plan Effect
judge_whole c m no_operation_of = take (unchanged c (message m false) [])
judge_whole c m shutdown_of = take (ends_by c shutdown_received (message m false) [])
judge_whole c m error_of = take (ends_by c error_received (message m false) [])
judge_whole c m (ping_of k) = take (unchanged c (message m false) (sent (msg.PingAck k) ∷ []))
judge_whole c m (ping_ack_of k) = check (not (matches c.ping k)) 28 (take (setting_ping c None (message m false) []))

-- `m` is the message, as it is reported
abbrev pub judge_scope : Connection → Message → Scope → Decision
judge_scope c m (whole w) = settle (breach_of c) accept (judge_whole c m w)
judge_scope c m (of_session i s) =
    settle (breach_of c) (λ t. accept (setting_session c i c.last (message m t.late) t))
    (receipt (role_of c.stage) (own_start c) (far_start c) (at c i) s)

unfoldable pub judge : Connection → Message → Decision
judge c m = judge_scope c m (scope m)
