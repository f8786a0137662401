-- A call on words is the call of the rules on their connection; and a run on words stays with the run of the rules.
use Rattle.std.specs.Prelude.{Option, Some, None}
use mathlib.Core.Path.{◌≡◌, refl, sym, ap, ◌∙◌, subst}
use mathlib.Core.Bool.{true}
use mathlib.Core.List.{List, [], ◌∷◌}
use Prim.Native.Nat.{ℕ, ◌<◌}
use native.Mathlib.Omega.{arith}
use lib.ListN.{take}
use Rattle.laws.specs.Result.{Result, ok, refused, violation}
use Rattle.laws.specs.Runs as runs
use Rattle.wire.specs.declared.Role.{Role}
use Rattle.wire.specs.declared.Role.TheVariants as role
use Rattle.state.specs.declared.Stage.{Stage}
use Rattle.state.specs.declared.Stage.TheVariants as stage
use Rattle.state.specs.declared.Setup.{Setup}
use Rattle.protocol.specs.Message.{no_operation_of, shutdown_of, error_of, ping_of, ping_ack_of, Scope, whole, of_session, scope}
use Rattle.protocol.specs.Connection.{far_number, well_formed}
use Rattle.protocol.specs.Judge.{Report, done, served, header_received, message}
use Rattle.protocol.specs.Observed.{Pinging, no_ping, pinged}
use Rattle.protocol.specs.Held.{pinging_of}
use Rattle.protocol.specs.Result.{Given}
use Rattle.history.specs.Log.{Call, start, open_session, put, finish, turn, grant, abort, close, shutdown, lost, receive, State, called, Entry, next, out}
use Rattle.history.specs.Log as log
use Rattle.history.specs.Meaning.{Line}
use Rattle.history.specs.Account.{Account, account_after, line_by_message, line_by_report, line_by_answer}
use Rattle.history.proofs.Good.{Ok}
use Rattle.history.proofs.Simulation.{next_account, next_ok, ok_formed}
use Rattle.words.specs.State.{numbers16, stage_cases, ping_cases, role_number, stage_number, ping_number, words_of, connection_of}
use Rattle.words.specs.Calls.{Told, told_of, words_after}
use Rattle.words.proofs.States.{Typed, connection_back}
use Rattle.words.proofs.Calls.{after_formed}
use Rattle.words_history.specs.Machine.{WordState, called_on, next_on, out_on, Holdable, AllHoldable}

-- ---- one call

-- the state of the rules that a caller's words and queue stand for
abbrev pub state_of : WordState → State
state_of s = record { connection = connection_of s.words; queue = s.queue }

-- what a call of the rules gives, on words
abbrev pub put_on : List ℕ → Given × List ℕ × List ℕ → Told × List ℕ × List ℕ × List ℕ
put_on w g = (told_of g.0, words_after w g.0.connection, g.1, g.2)

pub called_on_lem : (s : WordState) (k : Call) → called_on s k ≡ put_on s.words (called (state_of s) k)
called_on_lem s (start room) = refl
called_on_lem s (open_session n) = refl
called_on_lem s (put n bytes) = refl
called_on_lem s (finish n) = refl
called_on_lem s (turn room) = refl
called_on_lem s (grant n amount room) = refl
called_on_lem s (abort n partial room) = refl
called_on_lem s (close n room) = refl
called_on_lem s (log.ping cookie room) = refl
called_on_lem s (shutdown room) = refl
called_on_lem s lost = refl
called_on_lem s (receive input room) = refl

pub out_on_lem : (s : WordState) (k : Call) → out_on s k ≡ out (state_of s) k
unfolding out_on out
out_on_lem s k =
    ap (λ (g : Told × List ℕ × List ℕ × List ℕ). record { call = k; answer = g.0.answer; used = g.0.used; start = g.0.start; end = g.0.end; wrote = take g.0.wrote g.3 })
    (called_on_lem s k)

pub words_on : (s : WordState) (k : Call) → (next_on s k).words ≡ words_after s.words (next (state_of s) k).connection
unfolding next_on next
words_on s k = ap (λ (g : Told × List ℕ × List ℕ × List ℕ). g.1) (called_on_lem s k)

pub queue_on : (s : WordState) (k : Call) → (next_on s k).queue ≡ (next (state_of s) k).queue
unfolding next_on next
queue_on s k = ap (λ (g : Told × List ℕ × List ℕ × List ℕ). g.2) (called_on_lem s k)

-- ---- the cookie of a ping stays below 65,536

abbrev SmallPing : Pinging → Type 0
SmallPing no_ping = Unit {0}
SmallPing (pinged k) = k < numbers16

small_message : (l : Line) (s : Scope) → SmallPing l.pinging → SmallPing (line_by_message l s).pinging
small_message l (whole no_operation_of) h = h
small_message l (whole shutdown_of) h = h
small_message l (whole error_of) h = h
small_message l (whole (ping_of k)) h = h
small_message l (whole (ping_ack_of k)) h = tt
small_message l (of_session i m) h = h

small_report : (l : Line) (k : Call) (r : Report) → Holdable k → SmallPing l.pinging → SmallPing (line_by_report l k r).pinging
small_report l (start room) done p h = h
small_report l (open_session n) done p h = h
small_report l (put n bytes) done p h = h
small_report l (finish n) done p h = h
small_report l (turn room) done p h = h
small_report l (grant n amount room) done p h = h
small_report l (abort n partial room) done p h = h
small_report l (close n room) done p h = h
small_report l (log.ping cookie room) done p h = p
small_report l (shutdown room) done p h = h
small_report l lost done p h = h
small_report l (receive input room) done p h = h
small_report l k (served n) p h = h
small_report l k (header_received far) p h = h
small_report l k (message m late) p h = small_message l (scope m) h

small_answer : (l : Line) (k : Call) (a : Result Report) → Holdable k → SmallPing l.pinging → SmallPing (line_by_answer l k a).pinging
small_answer l k (ok r) p h = small_report l k r p h
small_answer l k (refused n) p h = h
small_answer l k (violation f) p h = h

-- ---- what the types of a state's parts say of them

role_small : (r : Role) → role_number r < 2
role_small role.Client = omega arith
role_small role.Server = omega arith

stage_typed : (s : Stage) → far_number s < numbers16 → stage_number s < stage_cases
stage_typed (stage.Fresh r) h = omega (arith, role_small r)
stage_typed stage.Started h = omega arith
stage_typed (stage.Up r far) h = omega (arith, role_small r)

ping_typed : (p : Option ℕ) → SmallPing (pinging_of p) → ping_number p < ping_cases
ping_typed None h = omega arith
ping_typed (Some k) h = omega arith

-- ---- a run on words stays with the run of the rules

module _ (setup : Setup) where
  small_next : (s : State) (k : Call) → Ok setup s → Holdable k → SmallPing (pinging_of s.connection.ping) → SmallPing (pinging_of (next s k).connection.ping)
  unfolding account_after out
  small_next s k o p h =
      subst SmallPing (sym (ap (λ (a : Account). a.line.pinging) (next_account setup s k o 0 (omega arith))))
      (small_answer _ k (out s k).answer p h)

  typed : (s : State) → Ok setup s → SmallPing (pinging_of s.connection.ping) → Typed s.connection
  typed s o p =
      record {
        sessions = o.size;
        stage = stage_typed s.connection.stage o.far;
        own = let e = o.own in let h = o.proper in omega arith;
        ping = ping_typed s.connection.ping p;
      }

  pub record Held (w : WordState) (s : State) : Type 0 where
    pub words : w.words ≡ words_of s.connection
    pub queue : w.queue ≡ s.queue
    pub ok : Ok setup s
    pub small : SmallPing (pinging_of s.connection.ping)

  pub connection_is : (w : WordState) (s : State) → Held w s → connection_of w.words ≡ s.connection
  connection_is w s h = ap connection_of h.words ∙ connection_back s.connection (typed s h.ok h.small) (ok_formed setup s h.ok)

  state_is : (w : WordState) (s : State) → Held w s → state_of w ≡ s
  state_is w s h = rw (connection_is w s h, h.queue)

  held_next : (w : WordState) (s : State) (k : Call) → Holdable k → Held w s → Held (next_on w k) (next s k)
  held_next w s k p h =
      let e = state_is w s h in
      let formed : well_formed (connection_of w.words) ≡ true = ap well_formed (connection_is w s h) ∙ ok_formed setup s h.ok in
      record {
        words =
            words_on w k ∙ after_formed w.words (next (state_of w) k).connection formed
            ∙ ap (λ (z : State). words_of (next z k).connection) e;
        queue = queue_on w k ∙ ap (λ (z : State). (next z k).queue) e;
        ok = next_ok setup s k h.ok;
        small = small_next s k h.ok p h.small;
      }

  pub held_run : (w : WordState) (s : State) (ks : List Call) → AllHoldable ks → Held w s → Held (runs.run next_on out_on w ks) (runs.run next out s ks)
  unfolding runs.run
  held_run w s [] p h = h
  held_run w s (k ∷ ks) p h = held_run (next_on w k) (next s k) ks p.1 (held_next w s k p.0 h)

  pub same_logs : (w : WordState) (s : State) (ks : List Call) → AllHoldable ks → Held w s → runs.log_of next_on out_on w ks ≡ runs.log_of next out s ks
  unfolding runs.log_of
  same_logs w s [] p h = refl
  same_logs w s (k ∷ ks) p h =
      rw (out_on_lem w k ∙ ap (λ (z : State). out z k) (state_is w s h))
      (ap (λ (l : List Entry). out s k ∷ l) (same_logs (next_on w k) (next s k) ks p.1 (held_next w s k p.0 h)))
