-- A receive that takes something keeps what is observed: from the lemma about each message and one session.
use Rattle.std.specs.Prelude.{Option, None}
use mathlib.Core.Path.{◌≡◌, refl, sym, ap, ◌∙◌, subst}
use mathlib.Core.Logic.{inl, inr}
use mathlib.Core.Bool.{Bool, true, false, not, false≢true}
use mathlib.Core.List.{List, [], ◌∷◌, ◌++◌, map}
use Prim.Native.Nat.{ℕ, ◌<◌}
use native.Mathlib.Omega.{arith}
use lib.ListN.{length, set}
use borrow.Author.Tests.{eq-eqb}
use Rattle.laws.specs.Pick.{pick}
use Rattle.laws.specs.Result.{Fault, Result, ok, refused, violation}
use Rattle.laws.specs.Runs.{Every}
use Rattle.laws.proofs.Tests.{and_both}
use Rattle.ration.specs.declared.Ration.{Ration}
use Rattle.wire.specs.declared.Role.{Role}
use Rattle.wire.specs.declared.Role.TheVariants as role
use Rattle.wire.specs.declared.Message.{Message}
use Rattle.wire.specs.declared.Message.TheVariants as msg
use Rattle.wire.specs.Message.{is_server, read_message, second_byte, number_of, may_send, kind_of_message, flags_allowed, data_flags}
use Rattle.wire.specs.Connection.{read_connection_header}
use Rattle.wire.proofs.Bounds.{Sent, message_sent, header_number}
use Rattle.state.specs.declared.Session.{Session}
use Rattle.state.specs.declared.Stage.{Stage}
use Rattle.state.specs.declared.Stage.TheVariants as stage
use Rattle.protocol.specs.Queue.{slot}
use Rattle.protocol.specs.Plan.{Plan, settle}
use Rattle.protocol.specs.Message.{ConnectionMessage, no_operation_of, shutdown_of, error_of, ping_of, ping_ack_of, SessionMessage, Scope, whole, of_session, scope, numbered}
use Rattle.protocol.specs.Receipt.{Taken, receipt}
use Rattle.protocol.specs.Connection.{other_end, shutdown_received, error_received, at, role_of, exchanged, far_start, own_start}
use Rattle.protocol.specs.Judge.{unchanged, header_received, message, Output, header_out, sent, Ending, goes_on, ends, Decision, refuse, violate, accept, setting_session, continued, breach, fault_of, breach_of, judge_whole, judge_scope, judge}
use Rattle.protocol.specs.Call.{unstarted, answering, header_taken, message_taken, reading, receive_gate, receive_rule}
use Rattle.protocol.specs.Result.{bytes_of_all}
use Rattle.protocol.specs.Observed.{received, replies_at, may_arrive, wrong_number}
use Rattle.protocol.proofs.Plans as plans
use Rattle.protocol.proofs.Plans.{Takes, takes_map, takes_both, stops_all, exact_true}
use Rattle.protocol.proofs.Views.{greeting_of, greeted_is, ends_of, Formed}
use Rattle.protocol.proofs.Sound.{Sound}
use Rattle.protocol.proofs.Receipts.{Possible, receipt_sound}
use Rattle.protocol.proofs.Sends.{Sends, receipt_sends}
use Rattle.protocol.proofs.Exact.{receipt_exact}
use Rattle.protocol.proofs.Fates.{receipt_fate}
use Rattle.protocol.specs.Asked.{is_unsent}
use Rattle.history.specs.Log.{Call, receive, State}
use Rattle.history.proofs.Decisions.{out_by}
use Rattle.history.specs.Account.{line_by_message, in_scope, session_in}
use Rattle.history.specs.Fates.{ended_by_message}
use Rattle.history.specs.Meant.{ungreeted, answered_in, answer_of_all, is_ping, ReadInOrder, may_go}
use Rattle.history.proofs.Good.{Ok, Good, ended_as, ForSession, setup_of, line_of, holds, account_of}
use Rattle.history.proofs.Sessions.{session_good}
use Rattle.history.proofs.InOrder.{in_order_lem}
use Rattle.history.proofs.Written.{Sendable, sent_read_back, opening_read_back, nothing_read_back, only_own, only_other}
use Rattle.history.proofs.Steps.{formed_up, own_range, far_range, Fates, one_fate}
use Rattle.history.proofs.Lines.{OfLine, line_good}
use Rattle.history.proofs.Violations.{Found, breach_told}

-- a decision that takes something keeps what is observed, and a violation is as the log tells it
abbrev pub GoodBy : State → Call → Decision → Type 0
GoodBy s k (refuse n) = Unit {0}
GoodBy s k (violate b) = Found s k b
GoodBy s k (accept e) = Good (setup_of s.connection) s k e

pub settled : {A : Type 0} (s : State) (k : Call) (f : A → Decision) (p : Plan A) → Takes (λ a. GoodBy s k (f a)) p → GoodBy s k (settle refuse f p)
settled s k f p h = plans.settled (GoodBy s k) refuse f p (stops_all (λ n. tt) p) h

-- ---- which session a message is for

pub scope_number : (m : Message) (i : ℕ) (sm : SessionMessage) → scope m ≡ of_session i sm → second_byte m ≡ i
scope_number (msg.NoOperation n) i sm e = absurd (let z : ◌≡◌ {A = ℕ} 0 1 = cc in omega arith)
scope_number (msg.Shutdown n) i sm e = absurd (let z : ◌≡◌ {A = ℕ} 0 1 = cc in omega arith)
scope_number (msg.Ping n) i sm e = absurd (let z : ◌≡◌ {A = ℕ} 0 1 = cc in omega arith)
scope_number (msg.PingAck n) i sm e = absurd (let z : ◌≡◌ {A = ℕ} 0 1 = cc in omega arith)
scope_number (msg.Error n) i sm e = absurd (let z : ◌≡◌ {A = ℕ} 0 1 = cc in omega arith)
scope_number (msg.IncrementRation t j n) i sm e = cc
scope_number (msg.Abort p j n) i sm e = cc
scope_number (msg.Close j) i sm e = cc
scope_number (msg.Acknowledgment j) i sm e = cc
scope_number (msg.Data o c f a j n) i sm e = cc

-- the cookie of a Ping is its number
cookie_bound : (m : Message) (k : ℕ) → scope m ≡ whole (ping_of k) → number_of m < 65_536 → k < 65_536
cookie_bound (msg.NoOperation n) k e h = absurd (let z : ◌≡◌ {A = ℕ} 0 1 = cc in omega arith)
cookie_bound (msg.Shutdown n) k e h = absurd (let z : ◌≡◌ {A = ℕ} 0 1 = cc in omega arith)
cookie_bound (msg.Ping j) k e h = subst (λ (n : ℕ). n < 65_536) (same e) h
  where
    same : whole (ping_of j) ≡ whole (ping_of k) → j ≡ k
    same z = cc
cookie_bound (msg.PingAck n) k e h = absurd (let z : ◌≡◌ {A = ℕ} 0 1 = cc in omega arith)
cookie_bound (msg.Error n) k e h = absurd (let z : ◌≡◌ {A = ℕ} 0 1 = cc in omega arith)
cookie_bound (msg.IncrementRation t j n) k e h = absurd (let z : ◌≡◌ {A = ℕ} 0 1 = cc in omega arith)
cookie_bound (msg.Abort p j n) k e h = absurd (let z : ◌≡◌ {A = ℕ} 0 1 = cc in omega arith)
cookie_bound (msg.Close j) k e h = absurd (let z : ◌≡◌ {A = ℕ} 0 1 = cc in omega arith)
cookie_bound (msg.Acknowledgment j) k e h = absurd (let z : ◌≡◌ {A = ℕ} 0 1 = cc in omega arith)
cookie_bound (msg.Data o c f a j n) k e h = absurd (let z : ◌≡◌ {A = ℕ} 0 1 = cc in omega arith)

-- only a server gets an open Data, and only a client gets a close flag or a Close
pub possible : (r : Role) (m : Message) (i : ℕ) (x : SessionMessage) → scope m ≡ of_session i x → Sent (other_end r) m → Possible r x
possible r m i x e f = go r m e f.sender f.flags
  where
    inner : {j : ℕ} {y : SessionMessage} → of_session j y ≡ of_session i x → y ≡ x
    inner z = cc

    none : {A : Type 0} {w : ConnectionMessage} → whole w ≡ of_session i x → A
    none e = absurd (let z : ◌≡◌ {A = ℕ} 0 1 = cc in omega arith)

    not_closing : (b c g a : Bool) → data_flags role.Client b c g a ≡ true → c ≡ false
    not_closing true true g a f = absurd (false≢true f)
    not_closing false true g a f = absurd (false≢true f)
    not_closing b false g a f = refl

    go : (r : Role) (m : Message) → scope m ≡ of_session i x → may_send (other_end r) (kind_of_message m) ≡ true → flags_allowed (other_end r) m ≡ true → Possible r x
    go r (msg.NoOperation n) e s f = none e
    go r (msg.Shutdown n) e s f = none e
    go r (msg.Ping n) e s f = none e
    go r (msg.PingAck n) e s f = none e
    go r (msg.Error n) e s f = none e
    go role.Client (msg.IncrementRation t j n) e s f = subst (Possible role.Client) (inner e) refl
    go role.Server (msg.IncrementRation t j n) e s f = subst (Possible role.Server) (inner e) refl
    go role.Client (msg.Abort p j n) e s f = subst (Possible role.Client) (inner e) refl
    go role.Server (msg.Abort p j n) e s f = subst (Possible role.Server) (inner e) refl
    go role.Client (msg.Close j) e s f = subst (Possible role.Client) (inner e) refl
    go role.Server (msg.Close j) e s f = absurd (false≢true s)
    go role.Client (msg.Acknowledgment j) e s f = subst (Possible role.Client) (inner e) refl
    go role.Server (msg.Acknowledgment j) e s f = subst (Possible role.Server) (inner e) refl
    go role.Client (msg.Data true c g a j n) e s f = absurd (false≢true f)
    go role.Client (msg.Data false c g a j n) e s f = subst (Possible role.Client) (inner e) refl
    go role.Server (msg.Data b c g a j n) e s f = subst (Possible role.Server) (inner e) (not_closing b c g a f)

module _ (s : State) (o : Ok (setup_of s.connection) s) (input room : List ℕ) (live : s.connection.over ≡ false) (begun : unstarted s.connection.stage ≡ false) where
  found : (f : Fault) → GoodBy s (receive input room) (breach s.connection f)
  found f = record { told = breach_told s input room f; live = live; begun = begun }

  judged : {A : Type 0} (f : A → Decision) (p : Plan A) → Takes (λ a. GoodBy s (receive input room) (f a)) p → GoodBy s (receive input room) (settle (breach_of s.connection) f p)
  judged f p h = plans.settled (GoodBy s (receive input room)) (breach_of s.connection) f p (stops_all (λ n. found (fault_of n)) p) h

  -- ---- a connection header

  answers : (r : Role) → OfLine (answering r s.connection.own)
  answers role.Client = tt
  answers role.Server = tt

  answers_mean : (r : Role) → answering r s.connection.own ≡ pick (is_server r) (header_out s.connection.own ∷ []) [] ++ []
  unfolding pick
  answers_mean role.Client = refl
  answers_mean role.Server = refl

  answers_read : (r : Role) → ReadInOrder r (bytes_of_all [] (answering r s.connection.own)) (answering r s.connection.own)
  answers_read role.Client = nothing_read_back role.Client []
  answers_read role.Server = opening_read_back role.Server s.connection.own [] [] o.proper (nothing_read_back role.Server [])

  answers_go : (r : Role) (far : ℕ) → role_of s.connection.stage ≡ r → (is_server r ≡ true → ungreeted (greeting_of s.connection.stage) ≡ true)
      → Every (may_go (setup_of s.connection) (account_of s 0) (out_by s (receive input room) (header_taken s.connection r (ok far)))) (answering r s.connection.own)
  unfolding Every
  answers_go role.Client far er h = tt
  answers_go role.Server far er h = (and_both (and_both (ap not live) (h refl)) (ap is_server er), tt)

  -- a header with a number of 16 bits is taken
  number_good : (r : Role) → role_of s.connection.stage ≡ r → exchanged s.connection.stage ≡ false → (is_server r ≡ true → ungreeted (greeting_of s.connection.stage) ≡ true)
      → (far : ℕ) → far < 65_536 → GoodBy s (receive input room) (header_taken s.connection r (ok far))
  number_good r er up greets far small =
      line_good s o (receive input room) (stage.Up r far) s.connection.ping goes_on (header_received far) (answering r s.connection.own) refl refl (sym er)
      small (inr up)
      (λ m. refl) (answers r) refl live refl
      (answers_mean r ∙ sym (ap (λ (z : Role). pick (is_server z) (header_out s.connection.own ∷ []) [] ++ []) er))
      (in_order_lem (subst (λ (z : Role). ReadInOrder z (bytes_of_all [] (answering r s.connection.own)) (answering r s.connection.own)) (sym er) (answers_read r)))
      (answers_go r far er greets) refl

  header_good : (r : Role) → role_of s.connection.stage ≡ r → exchanged s.connection.stage ≡ false → (is_server r ≡ true → ungreeted (greeting_of s.connection.stage) ≡ true)
      → (h : Result ℕ) → read_connection_header input ≡ h → GoodBy s (receive input room) (header_taken s.connection r h)
  header_good r er up greets (ok far) q = number_good r er up greets far (header_number input far q)
  header_good r er up greets (refused n) q = tt
  header_good r er up greets (violation f) q = found f

  -- ---- a message

  -- a message of the connection as a whole that gets no answer
  quiet_whole : (m : Message) (x : ConnectionMessage) (p : Option ℕ) (en : Ending) → scope m ≡ whole x → answer_of_all (whole x) ≡ []
      → line_by_message (line_of s.connection) (whole x) ≡ line_of (continued en (record { sessions = set s.connection.sessions 0 (at s.connection 0); stage = s.connection.stage; over = s.connection.over; own = s.connection.own; last = s.connection.last; ping = p }))
      → ended_by_message (whole x) ≡ ended_as en → Good (setup_of s.connection) s (receive input room)
      (record { number = 0; session = at s.connection 0; stage = s.connection.stage; last = s.connection.last; ping = p; ending = en; report = message m false; outs = [] })
  unfolding Every
  quiet_whole m x p en z a line ended =
      line_good s o (receive input room) s.connection.stage p en (message m false) [] refl refl refl o.far (inl refl)
      (λ i. ap (in_scope i received) z) tt (ap (line_by_message (line_of s.connection)) z ∙ line) live (ap session_in z)
      (sym (ap (λ (l : List Output). l ++ map (λ x. sent (numbered (session_in (scope m)) x)) (answered_in (role_of s.connection.stage) (holds s 0) (scope m))) (ap answer_of_all z ∙ a)
      ∙ ap (λ (y : Scope). map (λ x. sent (numbered (session_in (scope m)) x)) (answered_in (role_of s.connection.stage) (holds s 0) y)) z))
      (in_order_lem (nothing_read_back (role_of s.connection.stage) [])) tt (ap ended_by_message z ∙ ended)

  -- a Ping is answered with its PingAck
  ping_good : (m : Message) (k : ℕ) → scope m ≡ whole (ping_of k) → exchanged s.connection.stage ≡ true → Sent (other_end (role_of s.connection.stage)) m
      → Good (setup_of s.connection) s (receive input room) (unchanged s.connection (message m false) (sent (msg.PingAck k) ∷ []))
  unfolding Every
  ping_good m k z up w =
      let sendable : Sendable (role_of s.connection.stage) (msg.PingAck k) [] =
      record { shift = omega arith; session = omega arith; number = cookie_bound m k z w.number; sender = refl; flags = refl; body = omega arith } in
      line_good s o (receive input room) s.connection.stage s.connection.ping goes_on (message m false) (sent (msg.PingAck k) ∷ []) refl refl refl o.far (inl refl)
      (λ i. ap (in_scope i received) z) (_, refl) (ap (line_by_message (line_of s.connection)) z) live (ap session_in z)
      (sym (ap (λ (l : List Output). l ++ map (λ x. sent (numbered (session_in (scope m)) x)) (answered_in (role_of s.connection.stage) (holds s 0) (scope m))) (ap answer_of_all z)
      ∙ ap (λ (y : Scope). (sent (msg.PingAck k) ∷ []) ++ map (λ x. sent (numbered (session_in (scope m)) x)) (answered_in (role_of s.connection.stage) (holds s 0) y)) z))
      (in_order_lem (sent_read_back (role_of s.connection.stage) (msg.PingAck k) [] sendable))
      (and_both (ap not live) (and_both (greeted_is s.connection.stage ∙ up) (ap (is_ping k) z ∙ eq-eqb k k refl)), tt) (ap ended_by_message z)

  whole_good : (m : Message) (x : ConnectionMessage) → scope m ≡ whole x → exchanged s.connection.stage ≡ true → Sent (other_end (role_of s.connection.stage)) m
      → Takes (λ e. GoodBy s (receive input room) (accept e)) (judge_whole s.connection m x)
  unfolding Every
  whole_good m no_operation_of z up w = quiet_whole m no_operation_of s.connection.ping goes_on z refl refl refl
  whole_good m shutdown_of z up w = quiet_whole m shutdown_of s.connection.ping (ends shutdown_received) z refl refl refl
  whole_good m error_of z up w = quiet_whole m error_of s.connection.ping (ends error_received) z refl refl refl
  whole_good m (ping_of k) z up w = ping_good m k z up w
  whole_good m (ping_ack_of k) z up w = λ _. quiet_whole m (ping_ack_of k) None goes_on z refl refl refl

  -- what is known if a session's message is taken
  abbrev Taking : ℕ → SessionMessage → Taken → Type 0
  Taking i sm t =
      Sound (role_of s.connection.stage) (own_start s.connection) (far_start s.connection) (at s.connection i) (slot i s.queue) (received sm ∷ []) [] (slot i s.queue) false t
      × (Sends (replies_at (role_of s.connection.stage) (holds s i).standing sm) t
      × ((may_arrive (role_of s.connection.stage) (own_start s.connection) (holds s i) sm ≡ true) × Fates s i (received sm ∷ []) t))

  session_message : (m : Message) (i : ℕ) (sm : SessionMessage) → scope m ≡ of_session i sm → exchanged s.connection.stage ≡ true → i < 128
      → (t : Taken) → Taking i sm t → ForSession (setup_of s.connection) s (receive input room) i s.connection.last (message m t.late) (received sm ∷ []) false t
  session_message m i sm e up hi t z =
      record {
        mark = refl;
        turns = refl;
        inside = hi;
        last_inside = o.last;
        up = up;
        sound = z.0;
        told = ap (in_scope i received) e ∙ only_own i (received sm);
        not_told = λ n d. ap (in_scope n received) e ∙ only_other n i (received sm) d;
        frame = λ _ _ _. refl;
        long = refl;
        line = ap (line_by_message (line_of s.connection)) e;
        untold = λ z. absurd (false≢true z);
        fated = z.1.1.1;
        goes_on = ap ended_by_message e;
        live = live;
        concerns = ap session_in e;
        sends = z.1.0 ∙ sym (ap (answered_in (role_of s.connection.stage) (holds s i)) e);
        quiet = ap answer_of_all e;
        heard = λ payload. (z.1.1.0, tt);
      }

  judge_good : (m : Message) (z : Scope) → scope m ≡ z → exchanged s.connection.stage ≡ true → Sent (other_end (role_of s.connection.stage)) m
      → GoodBy s (receive input room) (judge_scope s.connection m z)
  judge_good m (whole x) e up w = judged accept (judge_whole s.connection m x) (whole_good m x e up w)
  judge_good m (of_session i sm) e up w =
      judged (λ t. accept (setting_session s.connection i s.connection.last (message m t.late) t)) rule
      (takes_map
      (λ t z. session_good (setup_of s.connection) s (receive input room) i s.connection.last (message m t.late) (received sm ∷ []) false t o
      (session_message m i sm e up hi t z)) rule
      (takes_both (Sound r own far x sl (received sm ∷ []) [] sl false) (λ t. Sends (replies_at r (holds s i).standing sm) t × ((may_arrive r own (holds s i) sm ≡ true) × Fates s i (received sm ∷ []) t)) rule
      (receipt_sound r own far x sl f (own_range s o) (far_range s o) sm maybe)
      (takes_both (Sends (replies_at r (holds s i).standing sm)) (λ t. (may_arrive r own (holds s i) sm ≡ true) × Fates s i (received sm ∷ []) t) rule (receipt_sends x r own far sm)
      (takes_both (λ t. may_arrive r own (holds s i) sm ≡ true) (Fates s i (received sm ∷ [])) rule
      (exact_true (may_arrive r own (holds s i) sm) (wrong_number r (ends_of x.sides) sm) rule (receipt_exact r own far x sl sm f.place maybe))
      (one_fate s i (received sm) rule (receipt_fate x (is_unsent (holds s i).sends) r own far sm))))))
    where
      r : Role
      r = role_of s.connection.stage

      own : Ration
      own = own_start s.connection

      far : Ration
      far = far_start s.connection

      x : Session
      x = at s.connection i

      sl : List ℕ
      sl = slot i s.queue

      rule : Plan Taken
      rule = receipt (role_of s.connection.stage) (own_start s.connection) (far_start s.connection) (at s.connection i) sm

      hi : i < 128
      hi = subst (λ (n : ℕ). n < 128) (scope_number m i sm e) w.session

      f : Formed (role_of s.connection.stage) true (at s.connection i)
      f = formed_up s o up i hi

      maybe : Possible (role_of s.connection.stage) sm
      maybe = possible (role_of s.connection.stage) m i sm e w

  message_good : (h : Result Message) → read_message (other_end (role_of s.connection.stage)) input ≡ h → exchanged s.connection.stage ≡ true
      → GoodBy s (receive input room) (message_taken s.connection h)
  unfolding judge
  message_good (ok m) q up = judge_good m (scope m) refl up (message_sent (other_end (role_of s.connection.stage)) input m q)
  message_good (refused n) q up = tt
  message_good (violation f) q up = found f

  reading_good : (st : Stage) → s.connection.stage ≡ st → GoodBy s (receive input room) (reading s.connection input st)
  reading_good (stage.Fresh r) e = header_good r (ap role_of e) (ap exchanged e) (λ _. ap (λ (z : Stage). ungreeted (greeting_of z)) e) (read_connection_header input) refl
  reading_good stage.Started e = header_good role.Client (ap role_of e) (ap exchanged e) (λ z. absurd (false≢true z)) (read_connection_header input) refl
  reading_good (stage.Up r far) e =
      message_good (read_message (other_end r) input) (ap (λ (z : Stage). read_message (other_end (role_of z)) input) e) (ap exchanged e)

pub receive_good : (s : State) → Ok (setup_of s.connection) s → (input room : List ℕ) → GoodBy s (receive input room) (receive_rule s.connection input (length room))
unfolding receive_rule
receive_good s o input room =
    settled s (receive input room) (λ go. reading s.connection input s.connection.stage) (receive_gate s.connection (length room))
    (λ _ live begun _. reading_good s o input room live begun s.connection.stage refl)
