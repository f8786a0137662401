-- What a call that is taken reports, and that the bytes it says it used are those of the message: from the rules and the writer.
use mathlib.Core.Path.{◌≡◌, refl, ◌∙◌}
use mathlib.Core.Bool.{Bool, false}
use mathlib.Core.List.{List}
use Prim.Native.Nat.{ℕ, ◌≤◌}
use native.Mathlib.Omega.{arith}
use lib.ListN.{length, take, length-append}
use lib.Seq.{length-take-le}
use Rattle.wire.specs.declared.Message.{Message}
use Rattle.wire.specs.Message.{body_length, header}
use Rattle.state.specs.declared.Connection.{Connection}
use Rattle.protocol.specs.Message.{ConnectionMessage, no_operation_of, shutdown_of, error_of, ping_of, ping_ack_of, Scope, whole, of_session, scope}
use Rattle.protocol.specs.Receipt.{receipt}
use Rattle.protocol.specs.Ask.{turn_ask}
use Rattle.protocol.specs.Connection.{at, role_of, own_start, far_start}
use Rattle.protocol.specs.Judge.{served, message, sent, Effect, Decision, refuse, violate, accept, setting_session, breach_of, judge_whole, judge_scope, judge}
use Rattle.protocol.specs.Call.{next_ready, turn_rule}
use Rattle.protocol.specs.Result.{extent_of, bytes_of}
use Rattle.protocol.proofs.Plans.{Takes, takes_then, takes_all, takes_map, stops_all, settled}

-- ---- a turn reports the number that it serves, and marks it

pub record Marks (n : ℕ) (e : Effect) : Type 0 where
  pub number : e.number ≡ n
  pub last : e.last ≡ n
  pub report : e.report ≡ served n

pub turn_marks : (c : Connection) (queue room : ℕ) → Takes (Marks (next_ready c)) (turn_rule c queue room)
unfolding turn_rule
turn_marks c queue room _ _ _ _ _ =
    let n = next_ready c in
    let p = turn_ask (own_start c) (far_start c) (at c n) in
    takes_then (Marks n) (setting_session c n n (served n)) p (takes_all (λ t. record { number = refl; last = refl; report = refl }) p)

-- ---- a receive reports the message that it judges

abbrev pub Tells : Message → Decision → Type 0
Tells m (refuse n) = Unit {0}
Tells m (violate b) = Unit {0}
Tells m (accept e) = (late : Bool) × (e.report ≡ message m late)

pub whole_reports : (c : Connection) (m : Message) (w : ConnectionMessage) → Takes (λ e. e.report ≡ message m false) (judge_whole c m w)
whole_reports c m no_operation_of = refl
whole_reports c m shutdown_of = refl
whole_reports c m error_of = refl
whole_reports c m (ping_of k) = refl
whole_reports c m (ping_ack_of k) = λ _. refl

scope_tells : (c : Connection) (m : Message) (z : Scope) → Tells m (judge_scope c m z)
scope_tells c m (whole w) = settled (Tells m) (breach_of c) accept (judge_whole c m w) (stops_all (λ n. tt) (judge_whole c m w))
    (takes_map (λ e h. (false, h)) (judge_whole c m w) (whole_reports c m w))
scope_tells c m (of_session i x) =
    let p = receipt (role_of c.stage) (own_start c) (far_start c) (at c i) x in
    settled (Tells m) (breach_of c) (λ t. accept (setting_session c i c.last (message m t.late) t)) p (stops_all (λ n. tt) p) (takes_all (λ t. (t.late, refl)) p)

pub judge_tells : (c : Connection) (m : Message) → Tells m (judge c m)
unfolding judge
judge_tells c m = scope_tells c m (scope m)

-- ---- a message taken uses as many bytes as the writer writes for it

pub used_is : (m : Message) (late : Bool) (payload : List ℕ) → body_length m ≤ length payload → length (bytes_of payload (sent m)) ≡ (extent_of (message m late)).used
used_is m late payload h =
    let body = length-take-le (body_length m) payload h in
    length-append (header m) (take (body_length m) payload) ∙ omega arith
