-- The decision on a received message, for each of its types, from what the steps of the code ensure.
use Rattle.std.specs.Prelude as prelude
use Rattle.std.specs.Prelude.{None, Ok}
use mathlib.Core.Path.{◌≡◌, refl, sym, ap, ◌∙◌}
use mathlib.Core.Bool.{Bool, true, false, not}
use mathlib.Core.List.{List, [], ◌∷◌, map}
use Prim.Native.Nat.{ℕ}
use Rattle.laws.specs.Result.{Result, ok}
use Rattle.ration.specs.declared.Ration.{Ration}
use Rattle.wire.specs.declared.Role.{Role}
use Rattle.wire.specs.declared.Message.{Message}
use Rattle.wire.specs.declared.Message.TheVariants as msg
use Rattle.state.specs.declared.Session.{Session}
use Rattle.state.specs.declared.Connection.{Connection}
use Rattle.protocol.specs.Plan.{Plan, stop, check, take, settle}
use Rattle.protocol.specs.Message.{no_operation_of, shutdown_of, error_of, ping_of, ping_ack_of, SessionMessage, Scope, whole, of_session, scope, numbered}
use Rattle.state.specs.New.{blank}
use Rattle.protocol.specs.Receipt as rule
use Rattle.protocol.specs.Connection.{shutdown_received, error_received, at, role_of, own_start, far_start, ended}
use Rattle.protocol.specs.Judge.{Report, message, Output, sent, Effect, accept, unchanged, setting_ping, setting_session, breach_of, commit, matches, judge_scope, judge}
use Rattle.session.specs.declared.Taken.{Taken}
use Rattle.session.specs.Step.{sent_as}
use Rattle.refusal.specs.declared.Violation.{Violation}
use Rattle.session_receive.specs.Receipt.{receipt_as, to_receipt}
use Rattle.state.specs.With.{with_sessions, with_session, with_ping}
use lib.Seq.{set-get_or}
use Rattle.connection.proofs.Effects.{sets_ping, sets_end}
use Rattle.connection_judge.specs.Verdict.{Verdict, verdict}
use Rattle.connection_judge.specs.Stepped.{judged_by}

-- a message taken, with the connection after it
abbrev pub took : Connection → Message → Bool → List Output → Verdict
took next m late outs = record { connection = next; answer = ok (message m late); outs = outs }

module _ (c : Connection) where
  sets_nothing : (r : Report) (outs : List Output) → c ≡ commit c (unchanged c r outs)
  sets_nothing r outs =
      ap (λ (l : List Session). with_sessions l c)
      (sym (set-get_or c.sessions 0 blank))

  -- ---- messages of the connection as a whole

  module _ (m : Message) {v : Verdict} where
    pub no_operation : v ≡ took c m false [] → v ≡ verdict c (judge_scope c m (whole no_operation_of))
    unfolding settle
    no_operation h = h ∙ ap (λ (x : Connection). took x m false []) (sets_nothing (message m false) [])

    pub shut_down : {next : Connection} → next ≡ ended shutdown_received c → v ≡ took next m false []
        → v ≡ verdict c (judge_scope c m (whole shutdown_of))
    unfolding settle
    shut_down q h = h ∙ ap (λ (x : Connection). took x m false []) (q ∙ sets_end c (message m false) [] shutdown_received)

    pub told_error : {next : Connection} → next ≡ ended error_received c → v ≡ took next m false []
        → v ≡ verdict c (judge_scope c m (whole error_of))
    unfolding settle
    told_error q h = h ∙ ap (λ (x : Connection). took x m false []) (q ∙ sets_end c (message m false) [] error_received)

    pub pinged : (k : ℕ) → v ≡ took c m false (sent (msg.PingAck k) ∷ []) → v ≡ verdict c (judge_scope c m (whole (ping_of k)))
    unfolding settle
    pinged k h =
        let reply = sent (msg.PingAck k) ∷ [] in
        h ∙ ap (λ (x : Connection). took x m false reply) (sets_nothing (message m false) reply)

  module _ (k : ℕ) where
    -- a PingAck, by whether it matches
    answered : Effect
    answered = setting_ping c None (message (msg.PingAck k) false) []

    by_match : {b : Bool} → matches c.ping k ≡ b
        → verdict c (settle (breach_of c) accept (check (not b) 28 (take answered))) ≡ verdict c (judge_scope c (msg.PingAck k) (whole (ping_ack_of k)))
    unfolding answered
    by_match e = sym (ap (λ (t : Bool). verdict c (settle (breach_of c) accept (check (not t) 28 (take answered)))) e)

    module _ {v : Verdict} where
      pub acknowledged : {next : Connection} → matches c.ping k ≡ true → next ≡ with_ping None c
          → v ≡ took next (msg.PingAck k) false [] → v ≡ verdict c (judge_scope c (msg.PingAck k) (whole (ping_ack_of k)))
      unfolding settle answered
      acknowledged e q h =
          h
          ∙ ap (λ (x : Connection). took x (msg.PingAck k) false []) (q ∙ sets_ping c (message (msg.PingAck k) false) [] None)
          ∙ by_match e

      pub unasked : matches c.ping k ≡ false → v ≡ verdict c (breach_of c 28) → v ≡ verdict c (judge_scope c (msg.PingAck k) (whole (ping_ack_of k)))
      unfolding settle
      unasked e h = h ∙ by_match e

  -- ---- messages of a session

  module _ (m : Message) (n : ℕ) where
    by_receipt : (p : Plan rule.Taken)
        → judged_by c m n (to_receipt p) ≡ settle (breach_of c) (λ t. accept (setting_session c n c.last (message m t.late) t)) p
    unfolding settle
    by_receipt (stop k) = refl
    by_receipt (check true k p) = refl
    by_receipt (check false k p) = by_receipt p
    by_receipt (take t) = refl

    module _ {v : Verdict} where
      pub stepped : (s : SessionMessage) {q : Result rule.Taken} {r : Role} {own far : Ration} {x : Session} → r ≡ role_of c.stage
          → own ≡ own_start c → far ≡ far_start c → x ≡ at c n → q ≡ to_receipt (rule.receipt r own far x s)
          → v ≡ verdict c (judged_by c m n q)
          → v ≡ verdict c (judge_scope c m (of_session n s))
      stepped s e f g i q h =
          h ∙ ap (λ (a : Result rule.Taken). verdict c (judged_by c m n a)) (rw (e, f, g, i) at q)
          ∙ ap (verdict c) (by_receipt (rule.receipt (role_of c.stage) (own_start c) (far_start c) (at c n) s))

      pub step_taken : {r : prelude.Result Taken Violation} {t : Taken} {next : Connection} {outs : List Output} → r ≡ Ok t
          → next ≡ with_session n t.session c → outs ≡ map (λ k. sent (numbered n k)) (sent_as t.sent)
          → v ≡ took next m t.late outs
          → v ≡ verdict c (judged_by c m n (receipt_as r))
      step_taken e w o h = rw e (h ∙ rw (w, o))

  -- ---- a message, by what it concerns

  pub by_scope : (m : Message) {n : Message} (z : Scope) {v : Verdict} → m ≡ n → scope n ≡ z → v ≡ verdict c (judge_scope c m z) → v ≡ verdict c (judge c m)
  unfolding judge
  by_scope m z e s h = h ∙ ap (λ (y : Scope). verdict c (judge_scope c m y)) (sym (ap scope e ∙ s))

  -- the same, for a message that is known by its parts
  pub by_parts : (m : Message) {n : Message} (z : Scope) {v : Verdict} → m ≡ n → scope n ≡ z → v ≡ verdict c (judge_scope c n z) → v ≡ verdict c (judge c m)
  by_parts m {n} z e s h = by_scope n z refl s h ∙ ap (λ (k : Message). verdict c (judge c k)) (sym e)
