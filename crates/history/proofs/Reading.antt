-- receive-reads: what a receive takes is what the reader gives on its input, with the bytes used. From the rule of receive and the reader.
use mathlib.Core.Path.{◌≡◌, refl, sym, ap, ◌∙◌, subst}
use mathlib.Core.Bool.{Bool, true, false, not, true≢false, false≢true}
use mathlib.Core.List.{List, ◌∷◌, ◌++◌}
use Prim.Native.Nat.{ℕ, ◌≤◌}
use native.Mathlib.Omega.{arith}
use lib.ListN.{length, take}
use lib.Dec.{ltb}
use borrow.Author.Tests.{ltb-false, le-ltb}
use Rattle.laws.specs.Pick.{pick}
use Rattle.laws.specs.Result.{Fault, Result, ok, refused, violation}
use Rattle.laws.proofs.Results.{ok_same, refused_not_ok, violation_not_ok}
use Rattle.wire.specs.declared.Role.{Role}
use Rattle.wire.specs.declared.Role.TheVariants as role
use Rattle.wire.specs.declared.Message.{Message}
use Rattle.wire.specs.Message.{read_message}
use Rattle.wire.specs.Connection.{read_connection_header, parse_connection_header}
use Rattle.wire.proofs.Laws.{message_holds}
use Rattle.state.specs.declared.Stage.{Stage}
use Rattle.state.specs.declared.Stage.TheVariants as stage
use Rattle.state.specs.declared.Setup.{Setup}
use Rattle.state.specs.declared.Connection.{Connection}
use Rattle.protocol.specs.Plan.{Plan, check, settle}
use Rattle.protocol.specs.Plan as plan
use Rattle.protocol.specs.Connection.{other_end, role_of, exchanged, well_formed}
use Rattle.protocol.specs.Observed.{greeted}
use Rattle.protocol.specs.Judge.{Report, header_received, message, Decision, refuse, violate, accept, judge}
use Rattle.protocol.specs.Call.{unstarted, header_taken, message_taken, reading, receive_gate, receive_rule}
use Rattle.protocol.specs.Result.{extent_of}
use Rattle.protocol.proofs.Plans.{passes, settled, stops_all, takes_all}
use Rattle.protocol.proofs.Reports.{Tells, judge_tells}
use Rattle.protocol.proofs.Views.{greeting_of, greeted_is}
use Rattle.history.specs.Log.{Call, receive, State, Entry, out, Proper}
use Rattle.history.specs.Log as log
use Rattle.history.proofs.Decisions.{out_by, out_is}
use Rattle.history.specs.Meaning.{Line}
use Rattle.history.specs.Account.{Account, observed}
use Rattle.history.specs.Meant.{header_due}
use Rattle.history.specs.Claims.{Listening, Awaiting, header_answer, ReportsFront, ReceiveReads}
use Rattle.history.proofs.Good.{setup_of, line_of}
use Rattle.history.proofs.Simulation.{observed_is, run_made, same_setup, ok_formed}
use Rattle.history.proofs.Entries.{call_told, of_entries}

-- ---- what is taken is at the front of the input

abbrev DecidesFront : Setup → State → Call → List ℕ → Decision → Type 0
DecidesFront z s k input (refuse n) = Unit {0}
DecidesFront z s k input (violate b) = Unit {0}
DecidesFront z s k input (accept e) = ReportsFront z input (out_by s k (accept e)) e.report

header_long : (input : List ℕ) (far : ℕ) → read_connection_header input ≡ ok far → 8 ≤ length input
unfolding read_connection_header pick
header_long input far q = go (ltb (length input) 8) refl q
  where
    go : (b : Bool) → ltb (length input) 8 ≡ b → pick b (refused 10) (parse_connection_header (take 8 input)) ≡ ok far → 8 ≤ length input
    go true e p = absurd (refused_not_ok p)
    go false e p = ltb-false (length input) 8 e

module _ (s : State) (k : Call) (input : List ℕ) where
  abbrev c : Connection
  c = s.connection

  header_front : (r : Role) (h : Result ℕ) → read_connection_header input ≡ h → DecidesFront (setup_of s.connection) s k input (header_taken c r h)
  header_front r (ok far) q = (q, refl, header_long input far q, refl, refl)
  header_front r (refused n) q = tt
  header_front r (violation f) q = tt

  tells_front : (m : Message) → read_message (other_end (role_of c.stage)) input ≡ ok m → (d : Decision) → Tells m d → DecidesFront (setup_of s.connection) s k input d
  tells_front m q (refuse n) w = tt
  tells_front m q (violate b) w = tt
  tells_front m q (accept e) w =
      let same : e.report ≡ message m w.0 = w.1 in
      subst (λ (r : Report). ReportsFront (setup_of s.connection) input (out_by s k (accept e)) r) (sym same) (
        q,
        ap (λ (r : Report). (extent_of r).used) same,
        (message_holds (other_end (role_of c.stage)) input m q).long,
        ap (λ (r : Report). (extent_of r).start) same,
        ap (λ (r : Report). (extent_of r).end) same,
      )

  message_front : (h : Result Message) → read_message (other_end (role_of c.stage)) input ≡ h → DecidesFront (setup_of s.connection) s k input (message_taken c h)
  message_front (ok m) q = tells_front m q (judge c m) (judge_tells c m)
  message_front (refused n) q = tt
  message_front (violation f) q = tt

  reading_front : (st : Stage) → c.stage ≡ st → DecidesFront (setup_of s.connection) s k input (reading c input st)
  reading_front (stage.Fresh r) e = header_front r (read_connection_header input) refl
  reading_front stage.Started e = header_front role.Client (read_connection_header input) refl
  reading_front (stage.Up r far) e = message_front (read_message (other_end r) input) (ap (λ (z : Stage). read_message (other_end (role_of z)) input) e)

  receive_front : (room : ℕ) → DecidesFront (setup_of s.connection) s k input (receive_rule c input room)
  unfolding receive_rule
  receive_front room =
      settled (DecidesFront (setup_of s.connection) s k input) refuse (λ go. reading c input c.stage) (receive_gate c room) (stops_all (λ n. tt) (receive_gate c room))
      (takes_all (λ go. reading_front c.stage refl) (receive_gate c room))

-- ---- a message is taken only past the checks

-- what is known of a connection that takes a message
abbrev pub Past : Connection → ℕ → Type 0
Past c room = (c.over ≡ false) × (exchanged c.stage ≡ true) × (12 ≤ room)

abbrev pub Heard : Connection → ℕ → Decision → Type 0
Heard c room (refuse n) = Unit {0}
Heard c room (violate b) = Unit {0}
Heard c room (accept e) = (m : Message) (late : Bool) → e.report ≡ message m late → Past c room

past_heard : (c : Connection) (room : ℕ) → Past c room → (d : Decision) → Heard c room d
past_heard c room p (refuse n) = tt
past_heard c room p (violate b) = tt
past_heard c room p (accept e) = λ m late q. p

header_heard : (c : Connection) (room : ℕ) (r : Role) (h : Result ℕ) → Heard c room (header_taken c r h)
header_heard c room r (ok far) = λ m late q. absurd (let z : ◌≡◌ {A = ℕ} 0 1 = cc in omega arith)
header_heard c room r (refused n) = tt
header_heard c room r (violation f) = tt

reading_heard : (c : Connection) (input : List ℕ) (room : ℕ) (st : Stage) → c.stage ≡ st → c.over ≡ false → 12 ≤ room → Heard c room (reading c input st)
reading_heard c input room (stage.Fresh r) e live roomy = header_heard c room r (read_connection_header input)
reading_heard c input room stage.Started e live roomy = header_heard c room role.Client (read_connection_header input)
reading_heard c input room (stage.Up r far) e live roomy =
    past_heard c room (live, ap exchanged e, roomy) (message_taken c (read_message (other_end r) input))

pub receive_heard : (c : Connection) (input : List ℕ) (room : ℕ) → Heard c room (receive_rule c input room)
unfolding receive_rule
receive_heard c input room =
    settled (Heard c room) refuse (λ go. reading c input c.stage) (receive_gate c room) (stops_all (λ n. tt) (receive_gate c room))
    (λ _ live _ roomy. reading_heard c input room c.stage refl live (ltb-false room 12 roomy))

pub heard_past : (s : State) (k : Call) (room : ℕ) (d : Decision) → Heard s.connection room d → (m : Message) (late : Bool) → (out_by s k d).answer ≡ ok (message m late)
    → Past s.connection room
heard_past s k room (refuse n) h m late e = absurd (refused_not_ok e)
heard_past s k room (violate b) h m late e = absurd (violation_not_ok e)
heard_past s k room (accept x) h m late e = h m late (ok_same e)

-- ---- a header is taken only if one is due

abbrev Due : Connection → ℕ → Type 0
Due c room = (c.over ≡ false) × (header_due (role_of c.stage) (greeting_of c.stage) ≡ true) × (12 ≤ room)

abbrev Greets : Connection → ℕ → Decision → Type 0
Greets c room (refuse n) = Unit {0}
Greets c room (violate b) = Unit {0}
Greets c room (accept e) = (far : ℕ) → e.report ≡ header_received far → Due c room

due_greets : (c : Connection) (room : ℕ) → Due c room → (r : Role) (h : Result ℕ) → Greets c room (header_taken c r h)
due_greets c room p r (ok far) = λ k q. p
due_greets c room p r (refused n) = tt
due_greets c room p r (violation f) = tt

told_greets : (c : Connection) (room : ℕ) (m : Message) (d : Decision) → Tells m d → Greets c room d
told_greets c room m (refuse n) w = tt
told_greets c room m (violate b) w = tt
told_greets c room m (accept e) w =
    λ far q. absurd (let p : message m w.0 ≡ header_received far = sym w.1 ∙ q in let z : ◌≡◌ {A = ℕ} 0 1 = cc in omega arith)

message_greets : (c : Connection) (room : ℕ) (h : Result Message) → Greets c room (message_taken c h)
message_greets c room (ok m) = told_greets c room m (judge c m) (judge_tells c m)
message_greets c room (refused n) = tt
message_greets c room (violation f) = tt

header_due_lem : (st : Stage) → exchanged st ≡ false → unstarted st ≡ false → header_due (role_of st) (greeting_of st) ≡ true
header_due_lem (stage.Fresh role.Client) e b = absurd (true≢false b)
header_due_lem (stage.Fresh role.Server) e b = refl
header_due_lem stage.Started e b = refl
header_due_lem (stage.Up r far) e b = absurd (true≢false e)

reading_greets : (c : Connection) (input : List ℕ) (room : ℕ) (st : Stage) → c.stage ≡ st → c.over ≡ false → unstarted c.stage ≡ false → 12 ≤ room
    → Greets c room (reading c input st)
reading_greets c input room (stage.Fresh r) e live begun roomy = due_greets c room (live, header_due_lem c.stage (ap exchanged e) begun, roomy) r (read_connection_header input)
reading_greets c input room stage.Started e live begun roomy =
    due_greets c room (live, header_due_lem c.stage (ap exchanged e) begun, roomy) role.Client (read_connection_header input)
reading_greets c input room (stage.Up r far) e live begun roomy = message_greets c room (read_message (other_end r) input)

receive_greets : (c : Connection) (input : List ℕ) (room : ℕ) → Greets c room (receive_rule c input room)
unfolding receive_rule
receive_greets c input room =
    settled (Greets c room) refuse (λ go. reading c input c.stage) (receive_gate c room) (stops_all (λ n. tt) (receive_gate c room))
    (λ _ live begun roomy. reading_greets c input room c.stage refl live begun (ltb-false room 12 roomy))

greets_due : (s : State) (k : Call) (room : ℕ) (d : Decision) → Greets s.connection room d → (far : ℕ) → (out_by s k d).answer ≡ ok (header_received far) → Due s.connection room
greets_due s k room (refuse n) h far e = absurd (refused_not_ok e)
greets_due s k room (violate b) h far e = absurd (violation_not_ok e)
greets_due s k room (accept x) h far e = h far (ok_same e)

-- ---- a receive that no earlier check refuses

pub gate_passes : (c : Connection) (input : List ℕ) (room : ℕ) → well_formed c ≡ true → c.over ≡ false → unstarted c.stage ≡ false → 12 ≤ room
    → receive_rule c input room ≡ reading c input c.stage
unfolding receive_rule settle
gate_passes c input room formed live begun roomy =
    let p4 : Plan Unit = plan.take tt in
    let p3 : Plan Unit = check (ltb room 12) 8 p4 in
    let p2 : Plan Unit = check (unstarted c.stage) 1 p3 in
    let p1 : Plan Unit = check c.over 2 p2 in
    let f : Unit → Decision = λ go. reading c input c.stage in
    passes refuse f 14 p1 (ap not formed) ∙ passes refuse f 2 p2 live ∙ passes refuse f 1 p3 begun ∙ passes refuse f 8 p4 (le-ltb room 12 roomy)

pub up_started : (st : Stage) → exchanged st ≡ true → unstarted st ≡ false
up_started (stage.Fresh r) e = absurd (false≢true e)
up_started stage.Started e = refl
up_started (stage.Up r far) e = refl

due_started : (st : Stage) → header_due (role_of st) (greeting_of st) ≡ true → unstarted st ≡ false
due_started (stage.Fresh role.Client) e = absurd (false≢true e)
due_started (stage.Fresh role.Server) e = refl
due_started stage.Started e = refl
due_started (stage.Up r far) e = refl

module _ (s : State) (k : Call) where
  header_answered : (r : Role) (h : Result ℕ) → (out_by s k (header_taken s.connection r h)).answer ≡ header_answer h
  header_answered r (ok far) = refl
  header_answered r (refused n) = refl
  header_answered r (violation f) = refl

  due_answered : (input : List ℕ) (st : Stage) → header_due (role_of st) (greeting_of st) ≡ true → (out_by s k (reading s.connection input st)).answer ≡ header_answer (read_connection_header input)
  due_answered input (stage.Fresh r) e = header_answered r (read_connection_header input)
  due_answered input stage.Started e = header_answered role.Client (read_connection_header input)
  due_answered input (stage.Up r far) e = absurd (false≢true e)

  -- a message that the reader does not give
  unread : (input : List ℕ) (h : Result Message) (st : Stage) → exchanged st ≡ true → read_message (other_end (role_of st)) input ≡ h
      → (out_by s k (reading s.connection input st)).answer ≡ (out_by s k (message_taken s.connection h)).answer
  unread input h (stage.Fresh r) e q = absurd (false≢true e)
  unread input h stage.Started e q = absurd (false≢true e)
  unread input h (stage.Up r far) e q = ap (λ (z : Result Message). (out_by s k (message_taken s.connection z)).answer) q

-- ---- for a log

-- the facts about one receive
record Reads (s : Setup) (a : List Entry) (e : Entry) (input room : List ℕ) : Type 0 where
  taken : (r : Report) → e.answer ≡ ok r → ReportsFront s input e r
  headers : Awaiting s a (length room) → e.answer ≡ header_answer (read_connection_header input)
  awaited : (far : ℕ) → e.answer ≡ ok (header_received far) → Awaiting s a (length room)
  short : (n : ℕ) → Listening s a (length room) → read_message (other_end s.role) input ≡ refused n → e.answer ≡ refused n
  broken : (f : Fault) → Listening s a (length room) → read_message (other_end s.role) input ≡ violation f → e.answer ≡ violation f

front_taken : (s : Setup) (st : State) (k : Call) (input : List ℕ) (d : Decision) → DecidesFront s st k input d → (r : Report) → (out_by st k d).answer ≡ ok r → ReportsFront s input (out_by st k d) r
front_taken s st k input (refuse n) h r e = absurd (refused_not_ok e)
front_taken s st k input (violate b) h r e = absurd (violation_not_ok e)
front_taken s st k input (accept x) h r e = subst (λ (z : Report). ReportsFront s input (out_by st k (accept x)) z) (ok_same e) h

module _ (setup : Setup) (hh : Proper setup) (queue : List ℕ) where
  line_is : (ks : List Call) → (observed setup 0 (log.log setup queue ks)).line ≡ line_of (log.run setup queue ks).connection
  line_is ks = ap (λ (a : Account). a.line) (observed_is setup hh queue ks 0 (omega arith))

  -- a receive past its gate answers by what it reads
  passes_gate : (ks : List Call) (input room : List ℕ) → (observed setup 0 (log.log setup queue ks)).line.over ≡ false
      → unstarted (log.run setup queue ks).connection.stage ≡ false → 12 ≤ length room
      → (out (log.run setup queue ks) (receive input room)).answer
      ≡ (out_by (log.run setup queue ks) (receive input room) (reading (log.run setup queue ks).connection input (log.run setup queue ks).connection.stage)).answer
  passes_gate ks input room live begun roomy =
      let s = log.run setup queue ks in
      ap (λ (x : Entry). x.answer) (out_is s (receive input room))
      ∙ ap (λ (d : Decision). (out_by s (receive input room) d).answer)
      (gate_passes s.connection input (length room) (ok_formed setup s (run_made setup hh queue ks)) (sym (ap (λ (l : Line). l.over) (line_is ks)) ∙ live) begun roomy)

  not_given : (ks : List Call) (input room : List ℕ) (h : Result Message) → Listening setup (log.log setup queue ks) (length room)
      → read_message (other_end setup.role) input ≡ h
      → (out (log.run setup queue ks) (receive input room)).answer ≡ (out_by (log.run setup queue ks) (receive input room) (message_taken (log.run setup queue ks).connection h)).answer
  not_given ks input room h l q =
      let s = log.run setup queue ks in
      let up : exchanged (log.run setup queue ks).connection.stage ≡ true = sym (greeted_is (log.run setup queue ks).connection.stage) ∙ sym (ap (λ (z : Line). greeted z.greeting) (line_is ks)) ∙ l.up in
      passes_gate ks input room l.not_over (up_started s.connection.stage up) l.roomy
      ∙ unread s (receive input room) input h s.connection.stage up (ap (λ (r : Role). read_message (other_end r) input) (run_made setup hh queue ks).role ∙ q)

  reads_calls : (ks : List Call) (input room : List ℕ) → Reads setup (log.log setup queue ks) (out (log.run setup queue ks) (receive input room)) input room
  reads_calls ks input room =
      let s = log.run setup queue ks in
      let o = run_made setup hh queue ks in
      record {
        taken =
            rw out_is
            (front_taken setup s (receive input room) input (receive_rule s.connection input (length room))
            (subst (λ (z : Setup). DecidesFront z s (receive input room) input (receive_rule s.connection input (length room))) (same_setup setup s o) (receive_front s (receive input room) input (length room))));
        headers =
            λ w. let due : header_due (role_of (log.run setup queue ks).connection.stage) (greeting_of (log.run setup queue ks).connection.stage) ≡ true =
            ap (λ (r : Role). header_due r (greeting_of (log.run setup queue ks).connection.stage)) o.role
            ∙ sym (ap (λ (z : Line). header_due setup.role z.greeting) (line_is ks)) ∙ w.due in
            passes_gate ks input room w.not_over (due_started s.connection.stage due) w.roomy ∙ due_answered s (receive input room) input s.connection.stage due;
        awaited =
            λ far q. let p = greets_due s (receive input room) (length room) (receive_rule s.connection input (length room)) (receive_greets s.connection input (length room)) far (rw out_is at q) in
            record {
              not_over = ap (λ (l : Line). l.over) (line_is ks) ∙ p.0;
              due =
                  ap (λ (l : Line). header_due setup.role l.greeting) (line_is ks)
                  ∙ sym (ap (λ (r : Role). header_due r (greeting_of (log.run setup queue ks).connection.stage)) o.role) ∙ p.1;
              roomy = p.2;
            };
        short = λ n l q. not_given ks input room (refused n) l q;
        broken = λ f l q. not_given ks input room (violation f) l q;
      }

  reads_log : (calls : List Call) (a c : List Entry) (e : Entry) (input room : List ℕ) → log.log setup queue calls ≡ a ++ (e ∷ c) → e.call ≡ receive input room → Reads setup a e input room
  reads_log calls a c e input room z h =
      of_entries setup queue (λ l x. x.call ≡ receive input room → Reads setup l x input room)
      (λ ks k q. subst (λ (j : Call). Reads setup (log.log setup queue ks) (out (log.run setup queue ks) j) input room)
      (sym (sym (call_told (log.run setup queue ks) k) ∙ q)) (reads_calls ks input room)) calls a c e z h

  -- for every role, header number, queue and list of calls
  pub receive_reads : (calls : List Call) → ReceiveReads setup (log.log setup queue calls)
  receive_reads calls =
      record {
        taken = λ a c e input room r z h q. (reads_log calls a c e input room z h).taken r q;
        headers = λ a c e input room z h w. (reads_log calls a c e input room z h).headers w;
        awaited = λ a c e input room far z h q. (reads_log calls a c e input room z h).awaited far q;
        short = λ a c e input room n z h l q. (reads_log calls a c e input room z h).short n l q;
        broken = λ a c e input room n z h l q. (reads_log calls a c e input room z h).broken n l q;
      }
