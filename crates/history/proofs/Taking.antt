-- takes-exactly: a message is taken exactly where the published protocol lets the far end send it, from the exactness of the rule of
-- each session.
use mathlib.Core.Path.{◌≡◌, refl, sym, ap, ◌∙◌, subst}
use mathlib.Core.Bool.{Bool, true, false, false≢true}
use mathlib.Core.List.{List, ◌∷◌, ◌++◌}
use Prim.Native.Nat.{ℕ, ◌≤◌, ◌<◌}
use native.Mathlib.Omega.{arith}
use lib.ListN.{length}
use Rattle.laws.specs.Result.{ok, violation}
use Rattle.laws.proofs.Results.{ok_same, violation_not_ok}
use Rattle.laws.proofs.Tests.{not_true, not_false}
use Rattle.ration.specs.Ration.{from_header}
use Rattle.wire.specs.declared.Role.{Role}
use Rattle.wire.specs.declared.Message.{Message}
use Rattle.wire.specs.Message.{read_message}
use Rattle.wire.proofs.Bounds.{Sent, message_sent}
use Rattle.state.specs.declared.Stage.{Stage}
use Rattle.state.specs.declared.Stage.TheVariants as stage
use Rattle.state.specs.declared.Setup.{Setup}
use Rattle.state.specs.declared.Connection.{Connection}
use Rattle.protocol.specs.Queue.{slot}
use Rattle.protocol.specs.Plan.{Plan, settle}
use Rattle.protocol.specs.Message.{ConnectionMessage, no_operation_of, shutdown_of, error_of, ping_of, ping_ack_of, SessionMessage, Scope, whole, of_session, scope}
use Rattle.protocol.specs.Receipt.{Taken, receipt}
use Rattle.protocol.specs.Connection.{other_end, at, role_of, exchanged, own_start, far_start, well_formed}
use Rattle.protocol.specs.Judge.{message, Effect, Decision, accept, setting_session, fault_of, breach_of, matches, judge_whole, judge_scope, judge}
use Rattle.protocol.specs.Call.{message_taken, reading, receive_rule}
use Rattle.protocol.specs.Observed.{greeted, late_for, may_arrive, wrong_number}
use Rattle.protocol.proofs.Plans.{Takes, Exactly, exact_takes, exact_stops, takes_map}
use Rattle.protocol.proofs.Views.{pinging_of, greeted_is, awaits_is}
use Rattle.protocol.proofs.Late.{receipt_late}
use Rattle.protocol.proofs.Reports.{whole_reports}
use Rattle.protocol.proofs.Exact.{receipt_exact}
use Rattle.history.specs.Log.{Call, receive, State, Entry, out, Proper}
use Rattle.history.specs.Log as log
use Rattle.history.proofs.Decisions.{out_by, out_is}
use Rattle.history.specs.Meaning.{Line}
use Rattle.history.specs.Account.{Account, observed}
use Rattle.history.specs.Claims.{Listening, whole_may_arrive, may_come, late_of, wrong_for, TakesExactly}
use Rattle.history.proofs.Good.{Ok, line_of, holds}
use Rattle.history.proofs.Steps.{formed_up}
use Rattle.history.proofs.Receives.{scope_number, possible}
use Rattle.history.proofs.Simulation.{observed_is, run_made, own_ok, ok_formed}
use Rattle.history.proofs.Entries.{At, entry_at, call_told, of_entries}
use Rattle.history.proofs.Reading.{up_started, gate_passes, heard_past, receive_heard, receive_reads}

-- ---- a receive that no earlier check refuses judges its message

reads : (c : Connection) (input : List ℕ) (m : Message) (st : Stage) → exchanged st ≡ true → read_message (other_end (role_of st)) input ≡ ok m → reading c input st ≡ judge c m
reads c input m (stage.Fresh r) e q = absurd (false≢true e)
reads c input m stage.Started e q = absurd (false≢true e)
reads c input m (stage.Up r far) e q = ap (message_taken c) q

judges : (c : Connection) (input : List ℕ) (room : ℕ) (m : Message) → well_formed c ≡ true → c.over ≡ false → exchanged c.stage ≡ true → 12 ≤ room
    → read_message (other_end (role_of c.stage)) input ≡ ok m → receive_rule c input room ≡ judge c m
judges c input room m formed live up roomy q =
    gate_passes c input room formed live (up_started c.stage up) roomy ∙ reads c input m c.stage up q

-- ---- the judging takes exactly what may come

whole_exact : (c : Connection) (m : Message) (w : ConnectionMessage) → Exactly (whole_may_arrive (pinging_of c.ping) w) 28 (judge_whole c m w)
whole_exact c m no_operation_of = refl
whole_exact c m shutdown_of = refl
whole_exact c m error_of = refl
whole_exact c m (ping_of k) = refl
whole_exact c m (ping_ack_of k) =
    ((λ e. (awaits_is c.ping k ∙ not_true (matches c.ping k) e, refl)), λ e. awaits_is c.ping k ∙ not_false (matches c.ping k) e)

abbrev Reports : Message → Bool → Effect → Type 0
Reports m late e = e.report ≡ message m late

-- ---- from a state

module _ (s : State) where
  -- whether a message may come, as the state holds it
  abbrev test : Scope → Bool
  test (whole w) = whole_may_arrive (pinging_of s.connection.ping) w
  test (of_session i x) = may_arrive (role_of s.connection.stage) (own_start s.connection) (holds s i) x

-- whether it is late, as the state holds it
abbrev late_in : State → Scope → Bool
late_in s (whole w) = false
late_in s (of_session i x) = late_for (holds s i).standing x

-- and with which number it is refused
abbrev wrong_in : State → Scope → ℕ
wrong_in s (whole w) = 28
wrong_in s (of_session i x) = wrong_number (role_of s.connection.stage) (holds s i).standing x

module _ (s : State) (k : Call) (m : Message) where
  -- taken, or a violation
  abbrev Judged : Bool → ℕ → Bool → Decision → Type 0
  Judged t w late d = (t ≡ true → (out_by s k d).answer ≡ ok (message m late)) × (t ≡ false → (out_by s k d).answer ≡ violation (fault_of w))

  by_plan : {A : Type 0} (good : A → Effect) (t : Bool) (w : ℕ) (late : Bool) (p : Plan A) → Exactly t w p → Takes (λ a. Reports m late (good a)) p
      → Judged t w late (settle (breach_of s.connection) (λ a. accept (good a)) p)
  by_plan good t w late p h r = (taken, not_taken)
    where
      taken : t ≡ true → (out_by s k (settle (breach_of s.connection) (λ a. accept (good a)) p)).answer ≡ ok (message m late)
      taken e =
          let z = exact_takes (breach_of s.connection) (λ a. accept (good a)) (λ a. Reports m late (good a)) t w p h r e in
          ap (λ (d : Decision). (out_by s k d).answer) z.1 ∙ ap ok z.2

      not_taken : t ≡ false → (out_by s k (settle (breach_of s.connection) (λ a. accept (good a)) p)).answer ≡ violation (fault_of w)
      not_taken e = ap (λ (d : Decision). (out_by s k d).answer) (exact_stops (breach_of s.connection) (λ a. accept (good a)) t w p h e)

  by_scope : (setup : Setup) → Ok setup s → exchanged s.connection.stage ≡ true → Sent (other_end (role_of s.connection.stage)) m
      → (z : Scope) → scope m ≡ z → Judged (test s z) (wrong_in s z) (late_in s z) (judge_scope s.connection m z)
  by_scope setup o up w (whole x) e = by_plan (λ z. z) (test s (whole x)) 28 false (judge_whole s.connection m x) (whole_exact s.connection m x) (whole_reports s.connection m x)
  by_scope setup o up w (of_session i x) e =
      let hi : i < 128 = subst (λ (n : ℕ). n < 128) (scope_number m i x e) w.session in
      let c = s.connection in
      let p = receipt (role_of c.stage) (own_start c) (far_start c) (at c i) x in
      by_plan (λ (t : Taken). setting_session c i c.last (message m t.late) t) (test s (of_session i x)) (wrong_in s (of_session i x)) (late_in s (of_session i x)) p
      (receipt_exact (role_of c.stage) (own_start c) (far_start c) (at c i) (slot i s.queue) x (formed_up s (own_ok setup s o) up i hi).place (possible (role_of c.stage) m i x e w))
      (takes_map (λ t e. ap (message m) e) p (receipt_late (role_of c.stage) (at c i) (own_start c) (far_start c) x))

-- ---- for a log

module _ (setup : Setup) (hh : Proper setup) (queue : List ℕ) where
  line_is : (ks : List Call) → (observed setup 0 (log.log setup queue ks)).line ≡ line_of (log.run setup queue ks).connection
  line_is ks = ap (λ (a : Account). a.line) (observed_is setup hh queue ks 0 (omega arith))

  may_is : (ks : List Call) (z : Scope) → ((i : ℕ) (x : SessionMessage) → z ≡ of_session i x → i < 128)
      → test (log.run setup queue ks) z ≡ may_come setup (log.log setup queue ks) z
  may_is ks (whole w) h = ap (λ (l : Line). whole_may_arrive l.pinging w) (sym (line_is ks))
  may_is ks (of_session i x) h =
      let o = run_made setup hh queue ks in
      ap (λ (r : Role). may_arrive r (own_start (log.run setup queue ks).connection) (holds (log.run setup queue ks) i) x) o.role
      ∙ ap (λ (n : ℕ). may_arrive setup.role (from_header n) (holds (log.run setup queue ks) i) x) o.own
      ∙ ap (λ (a : Account). may_arrive setup.role (from_header setup.header) a.seen x) (sym (observed_is setup hh queue ks i (h i x refl)))

  late_is : (ks : List Call) (z : Scope) → ((i : ℕ) (x : SessionMessage) → z ≡ of_session i x → i < 128) → late_in (log.run setup queue ks) z ≡ late_of setup (log.log setup queue ks) z
  late_is ks (whole w) h = refl
  late_is ks (of_session i x) h = ap (λ (a : Account). late_for a.seen.standing x) (sym (observed_is setup hh queue ks i (h i x refl)))

  wrong_is : (ks : List Call) (z : Scope) → ((i : ℕ) (x : SessionMessage) → z ≡ of_session i x → i < 128) → wrong_in (log.run setup queue ks) z ≡ wrong_for setup (log.log setup queue ks) z
  wrong_is ks (whole w) h = refl
  wrong_is ks (of_session i x) h =
      ap (λ (r : Role). wrong_number r (holds (log.run setup queue ks) i).standing x) (run_made setup hh queue ks).role
      ∙ ap (λ (a : Account). wrong_number setup.role a.seen.standing x) (sym (observed_is setup hh queue ks i (h i x refl)))

  judged_calls : (ks : List Call) (input room : List ℕ) (m : Message) → Listening setup (log.log setup queue ks) (length room) → read_message (other_end setup.role) input ≡ ok m
      → (may_come setup (log.log setup queue ks) (scope m) ≡ true → (out (log.run setup queue ks) (receive input room)).answer ≡ ok (message m (late_of setup (log.log setup queue ks) (scope m))))
      × (may_come setup (log.log setup queue ks) (scope m) ≡ false → (out (log.run setup queue ks) (receive input room)).answer ≡ violation (fault_of (wrong_for setup (log.log setup queue ks) (scope m))))
  unfolding judge
  judged_calls ks input room m l q =
      let s = log.run setup queue ks in
      let o = run_made setup hh queue ks in
      let q' : read_message (other_end (role_of (log.run setup queue ks).connection.stage)) input ≡ ok m =
      ap (λ (r : Role). read_message (other_end r) input) o.role ∙ q in
      let live : (log.run setup queue ks).connection.over ≡ false = sym (ap (λ (z : Line). z.over) (line_is ks)) ∙ l.not_over in
      let up : exchanged (log.run setup queue ks).connection.stage ≡ true = sym (greeted_is (log.run setup queue ks).connection.stage) ∙ sym (ap (λ (z : Line). greeted z.greeting) (line_is ks)) ∙ l.up in
      let w = message_sent (other_end (role_of s.connection.stage)) input m q' in
      let d = judges s.connection input (length room) m (ok_formed setup s o) live up l.roomy q' in
      let j = by_scope s (receive input room) m setup o up w (scope m) refl in
      let number : (i : ℕ) (x : SessionMessage) → scope m ≡ of_session i x → i < 128 = λ i x e. subst (λ (n : ℕ). n < 128) (scope_number m i x e) w.session in
      let t = may_is ks (scope m) number in
      let same = ap (λ (x : Entry). x.answer) (out_is s (receive input room)) ∙ ap (λ (z : Decision). (out_by s (receive input room) z).answer) d in
      ((λ e. same ∙ j.0 (t ∙ e) ∙ ap (λ (b : Bool). ok (message m b)) (late_is ks (scope m) number)), λ e. same ∙ j.1 (t ∙ e) ∙ ap (λ (n : ℕ). violation (fault_of n)) (wrong_is ks (scope m) number))

  Both : List Entry → Entry → Message → Type 0
  Both a e m =
      (may_come setup a (scope m) ≡ true → e.answer ≡ ok (message m (late_of setup a (scope m))))
      × (may_come setup a (scope m) ≡ false → e.answer ≡ violation (fault_of (wrong_for setup a (scope m))))

  judged_log : (a : List Entry) (e : Entry) (input room : List ℕ) (m : Message) → At setup queue a e → e.call ≡ receive input room → Listening setup a (length room)
      → read_message (other_end setup.role) input ≡ ok m → Both a e m
  unfolding Both
  judged_log a e input room m x h l q =
      let s = log.run setup queue x.before in
      let k : x.call ≡ receive input room = sym (call_told s x.call) ∙ ap (λ (z : Entry). z.call) x.entry ∙ h in
      let same : out (log.run setup queue x.before) (receive input room) ≡ e = ap (out s) (sym k) ∙ x.entry in
      subst (λ (y : List Entry). Both y e m) x.log_before
      (subst (λ (z : Entry). Both (log.log setup queue x.before) z m) same
      (judged_calls x.before input room m (subst (λ (y : List Entry). Listening setup y (length room)) (sym x.log_before) l) q))

  -- a message that is taken is listened for
  listens_calls : (ks : List Call) (input room : List ℕ) (m : Message) (late : Bool) → (out (log.run setup queue ks) (receive input room)).answer ≡ ok (message m late)
      → Listening setup (log.log setup queue ks) (length room)
  listens_calls ks input room m late q =
      let s = log.run setup queue ks in
      let p =
      heard_past s (receive input room) (length room) (receive_rule s.connection input (length room)) (receive_heard s.connection input (length room)) m late (rw out_is at q) in
      record {
        not_over = ap (λ (l : Line). l.over) (line_is ks) ∙ p.0;
        up = ap (λ (l : Line). greeted l.greeting) (line_is ks) ∙ greeted_is s.connection.stage ∙ p.1;
        roomy = p.2;
      }

  listens_log : (calls : List Call) (a c : List Entry) (e : Entry) (input room : List ℕ) (m : Message) (late : Bool) → log.log setup queue calls ≡ a ++ (e ∷ c) → e.call ≡ receive input room
      → e.answer ≡ ok (message m late) → Listening setup a (length room)
  listens_log calls a c e input room m late z h q =
      of_entries setup queue (λ l x. x.call ≡ receive input room → x.answer ≡ ok (message m late) → Listening setup l (length room))
      (λ ks k p r. listens_calls ks input room m late
      (sym (ap (λ (j : Call). (out (log.run setup queue ks) j).answer) (sym (call_told (log.run setup queue ks) k) ∙ p)) ∙ r)) calls a c e z h q

  same_late : {x y : Bool} {m : Message} → message m x ≡ message m y → x ≡ y
  same_late e = cc

  only_log : (calls : List Call) (a c : List Entry) (e : Entry) (input room : List ℕ) (m : Message) (late : Bool) → log.log setup queue calls ≡ a ++ (e ∷ c) → e.call ≡ receive input room
      → e.answer ≡ ok (message m late) → Listening setup a (length room) × (may_come setup a (scope m) ≡ true) × (late ≡ late_of setup a (scope m))
  unfolding Both
  only_log calls a c e input room m late z h q = (listens, (go (may_come setup a (scope m)) refl).0, (go (may_come setup a (scope m)) refl).1)
    where
      listens : Listening setup a (length room)
      listens = listens_log calls a c e input room m late z h q

      both : Both a e m
      both =
          judged_log a e input room m (entry_at setup queue calls a c e z) h (listens_log calls a c e input room m late z h q)
          ((receive_reads setup hh queue calls).taken a c e input room (message m late) z h q).0

      go : (b : Bool) → may_come setup a (scope m) ≡ b → (may_come setup a (scope m) ≡ true) × (late ≡ late_of setup a (scope m))
      go true t = (t, same_late (ok_same (sym q ∙ both.0 t)))
      go false t = absurd (violation_not_ok (sym (both.1 t) ∙ q))

  -- for every role, header number, queue and list of calls
  pub takes_exactly : (calls : List Call) → TakesExactly setup (log.log setup queue calls)
  unfolding Both
  takes_exactly calls =
      record {
        takes = λ a c e input room m z h l q. (judged_log a e input room m (entry_at setup queue calls a c e z) h l q).0;
        else_violated = λ a c e input room m z h l q. (judged_log a e input room m (entry_at setup queue calls a c e z) h l q).1;
        only = λ a c e input room m late z h q. only_log calls a c e input room m late z h q;
      }
