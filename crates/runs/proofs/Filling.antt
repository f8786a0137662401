-- A client whose headers are exchanged opens every number in order, and serves every one by a turn: by induction over the calls.
use Rattle.std.specs.Prelude.{None}
use mathlib.Core.Path.{◌≡◌, refl, sym, ap, ◌∙◌}
use mathlib.Core.Bool.{true, false, not}
use mathlib.Core.List.{List, [], ◌∷◌, ◌++◌, map, append-nil}
use Prim.Native.Nat.{ℕ, zero, suc, ◌+◌, ◌-◌, ◌≤◌, ◌<◌, min}
use native.Mathlib.Omega.{arith}
use lib.ListN.{length, get_or, set, replicate, length-replicate}
use lib.Seq.{set_at, get_or_at}
use borrow.Author.Tests.{le-ltb, lt-ltb, lt-leb, eq-eqb}
use Rattle.laws.specs.Circle.{gap}
use Rattle.laws.specs.Runs.{run, log_of}
use Rattle.laws.proofs.Circle.{gap_pos, nearest_unique}
use Rattle.laws.proofs.Tests.{and_both}
use Rattle.ration.specs.declared.Ration.{Ration}
use Rattle.ration.specs.declared.Ration.TheVariants as ration
use Rattle.ration.specs.Ration.{from_header}
use Rattle.ration.proofs.Laws.{start_in_range}
use Rattle.wire.specs.declared.Role.TheVariants as role
use Rattle.state.specs.declared.Side.TheVariants as side
use Rattle.state.specs.declared.Before.TheVariants as before
use Rattle.state.specs.declared.Sides.TheVariants as sides
use Rattle.state.specs.declared.Outcome.TheVariants as outcome
use Rattle.state.specs.declared.Session.{Session}
use Rattle.state.specs.declared.Stage.TheVariants as stage
use Rattle.state.specs.declared.Connection.{Connection}
use Rattle.protocol.specs.Slot.{queue_size, turn_room}
use Rattle.protocol.specs.Queue.{slot, with_slot, turn_slot}
use Rattle.protocol.specs.Plan.{Plan, take, settle, and_then}
use Rattle.protocol.specs.Message.{data_of}
use Rattle.state.specs.New.{blank}
use Rattle.protocol.specs.Receipt.{Taken}
use Rattle.protocol.specs.Ask.{opened, open_ask, turn_ask}
use Rattle.protocol.specs.Ask as ask
use Rattle.protocol.specs.Connection.{at, well_formed, all_formed, session_formed}
use Rattle.protocol.specs.Judge.{done, served, Decision, refuse, accept, setting_session}
use Rattle.protocol.specs.Call.{next_ready, serving, open_rule, turn_rule}
use Rattle.protocol.specs.Result.{bytes_of_all}
use Rattle.protocol.proofs.Plans.{passes}
use Rattle.protocol.proofs.Views.{formed_is}
use Rattle.protocol.proofs.Slots.{turn_length, with_length}
use Rattle.history.specs.Log.{Call, open_session, turn, State, Entry, next, out}
use Rattle.history.proofs.Decisions.{decide, next_by, out_by, next_is, out_is}
use Rattle.runs.proofs.Played.{taken}

-- ---- lists

-- k numbers from i on
abbrev pub from : ℕ → ℕ → List ℕ
from i zero = []
from i (suc k) = i ∷ from (suc i) k

module _ {A : Type 0} (a b : A) where
  -- i times a, then k times b
  abbrev pub runs : ℕ → ℕ → List A
  runs i k = replicate i a ++ replicate k b

  moved : (i : ℕ) (l : List A) → replicate i a ++ (a ∷ l) ≡ a ∷ (replicate i a ++ l)
  moved zero l = refl
  moved (suc i) l = ap (λ (m : List A). a ∷ m) (moved i l)

  -- the first b becomes an a
  advance : (i k : ℕ) → set (runs i (suc k)) i a ≡ runs (suc i) k
  advance i k = set_at (replicate i a) b (replicate k b) a i (length-replicate i a) ∙ moved i (replicate k b)

  first_b : (i k : ℕ) (d : A) → get_or (runs i (suc k)) i d ≡ b
  first_b i k d = get_or_at (replicate i a) b (replicate k b) d i (length-replicate i a)

-- ---- a client whose headers are exchanged; `own` and `far` are their numbers

-- a number that is opened and unsent
abbrev pub unsent : Session
unsent = opened before.Idle blank

-- a number whose opening is sent, with no bytes
abbrev begun : Ration → Ration → Session
begun own far =
    record { sides = sides.Live side.Open side.Open; outbound = far; inbound = own; waiting = 0; finish = false; outcome = outcome.Running }

abbrev begins : Ration → Ration → Taken
begins own far = record { session = begun own far; sent = data_of 0 true false false false ∷ []; late = false }

-- a turn sends the opening of an unsent number
turn_begins : (own far : Ration) → turn_ask own far unsent ≡ take (begins own far)
unfolding turn_ask
turn_begins own (ration.Finite n) =
    let z : min 0 n ≡ 0 = omega arith in
    let w : n - 0 ≡ n = omega arith in
    ap (ask.sending unsent true side.Open (ration.Finite n) own) z ∙ ap (λ (m : ℕ). take (begins own (ration.Finite m))) w
turn_begins own ration.Endless = refl

abbrev connected : ℕ → ℕ → List Session → ℕ → Connection
connected own far xs last = record { sessions = xs; stage = stage.Up role.Client far; over = false; own = own; last = last; ping = None }

abbrev pub state : ℕ → ℕ → List Session → ℕ → List ℕ → State
state own far xs last queue = record { connection = connected own far xs last; queue = queue }

-- ---- every number is well formed

module _ (a b : Session) (ha : session_formed role.Client true a ≡ true) (hb : session_formed role.Client true b ≡ true) where
  formed_one : (k : ℕ) → all_formed role.Client true (replicate k b) ≡ true
  unfolding all_formed
  formed_one zero = refl
  formed_one (suc k) = and_both hb (formed_one k)

  formed_two : (i k : ℕ) → all_formed role.Client true (runs a b i k) ≡ true
  unfolding all_formed
  formed_two zero k = formed_one k
  formed_two (suc i) k = and_both ha (formed_two i k)

  formed_runs : (own far i k last : ℕ) → last < 128 → well_formed (connected own far (runs a b i k) last) ≡ true
  unfolding well_formed
  formed_runs own far i k last h = and_both (lt-ltb last 128 h) (formed_two i k)

formed_opening : (own far i k : ℕ) → well_formed (connected own far (runs unsent blank i k) 127) ≡ true
unfolding session_formed
formed_opening own far i k = formed_runs unsent blank refl refl own far i k 127 (omega arith)

formed_begun : (own far : ℕ) → own < 65_536 → far < 65_536 → session_formed role.Client true (begun (from_header own) (from_header far)) ≡ true
formed_begun own far ho hf =
    formed_is role.Client true (begun (from_header own) (from_header far))
    (record {
      outbound = start_in_range far (omega arith);
      inbound = start_in_range own (omega arith);
      waiting = omega arith;
      none = refl;
      finish = refl;
      place = refl;
      pair = refl;
    })

formed_serving : (own far : ℕ) → own < 65_536 → far < 65_536 → (i k last : ℕ) → last < 128
    → well_formed (connected own far (runs (begun (from_header own) (from_header far)) unsent i k) last) ≡ true
unfolding session_formed
formed_serving own far ho hf = formed_runs (begun (from_header own) (from_header far)) unsent (formed_begun own far ho hf) refl own far

-- ---- an open of an idle number is taken, and leaves it unsent

abbrev opens : ℕ → ℕ → List Session → ℕ → ℕ → Decision
opens own far xs last j = accept (setting_session (connected own far xs last) j last done (record { session = unsent; sent = []; late = false }))

module _ (own far : ℕ) (xs : List Session) (last : ℕ) (queue : List ℕ) (j : ℕ) (w : well_formed (connected own far xs last) ≡ true) (h : j < 128)
    (e : get_or xs j blank ≡ blank) where
  open_decided : decide (connected own far xs last) queue (open_session j) ≡ opens own far xs last j
  unfolding open_rule open_ask settle
  open_decided =
      passes refuse accept 14 _ (ap not w) ∙ passes refuse accept 3 _ (lt-leb 128 j h)
      ∙ ap (λ (x : Session). settle refuse accept (and_then (setting_session (connected own far xs last) j last done) (open_ask role.Client x))) e

  open_next : next (state own far xs last queue) (open_session j) ≡ state own far (set xs j unsent) last queue
  open_next = next_is (state own far xs last queue) (open_session j) ∙ ap (next_by (state own far xs last queue) (open_session j)) open_decided

  open_out : out (state own far xs last queue) (open_session j) ≡ taken (open_session j) done []
  unfolding bytes_of_all
  open_out = out_is (state own far xs last queue) (open_session j) ∙ ap (out_by (state own far xs last queue) (open_session j)) open_decided

-- ---- a turn serves the unsent number after the mark, and leaves it begun

abbrev serves : ℕ → ℕ → List Session → ℕ → ℕ → Decision
serves own far xs last i = accept (setting_session (connected own far xs last) i i (served i) (begins (from_header own) (from_header far)))

abbrev pub served_entry : List ℕ → ℕ → Entry
served_entry room i = taken (turn room) (served i) (0x90 ∷ i ∷ 0x00 ∷ 0x00 ∷ [])

abbrev emptied : ℕ → List ℕ → List ℕ
emptied i queue = with_slot i (turn_slot 0 0 (slot i queue)) queue

module _ (own far : ℕ) (xs : List Session) (last : ℕ) (queue : List ℕ) (i : ℕ) (room : List ℕ) (w : well_formed (connected own far xs last) ≡ true) (h : i < 128)
    (e : get_or xs i blank ≡ unsent) (hl : last < 128) (g : gap last i ≡ 1) (q : length queue ≡ queue_size) (r : turn_room ≤ length room) where
  turn_nearest : next_ready (connected own far xs last) ≡ i
  unfolding ask.ready_session
  turn_nearest =
      sym (nearest_unique (λ n. ask.ready_session (at (connected own far xs last) n)) last i hl h (ap ask.ready_session e) (λ n hn rn. omega (arith, gap_pos last n)))

  turn_decided : decide (connected own far xs last) queue (turn room) ≡ serves own far xs last i
  unfolding turn_rule settle
  turn_decided =
      let c = connected own far xs last in
      let f = setting_session (connected own far xs last) i i (served i) in
      passes refuse accept 14 _ (ap not w) ∙ passes refuse accept 8 _ (le-ltb (length room) turn_room r)
      ∙ passes refuse accept 8 _ (ap not (eq-eqb (length queue) queue_size q))
      ∙ ap (λ (n : ℕ). settle refuse accept (serving c n)) turn_nearest
      ∙ ap (λ (x : Session). settle refuse accept (and_then f (turn_ask (from_header own) (from_header far) x))) e
      ∙ ap (λ (p : Plan Taken). settle refuse accept (and_then f p)) (turn_begins (from_header own) (from_header far))

  turn_next : next (state own far xs last queue) (turn room) ≡ state own far (set xs i (begun (from_header own) (from_header far))) i (emptied i queue)
  turn_next =
      next_is (state own far xs last queue) (turn room)
      ∙ ap (next_by (state own far xs last queue) (turn room)) turn_decided
      ∙ ap (λ (x : Session). state own far (set xs i (begun (from_header own) (from_header far))) i (with_slot i (turn_slot x.waiting (x.waiting - 0) (slot i queue)) queue)) e

  turn_out : out (state own far xs last queue) (turn room) ≡ served_entry room i
  unfolding bytes_of_all
  turn_out = out_is (state own far xs last queue) (turn room) ∙ ap (out_by (state own far xs last queue) (turn room)) turn_decided

-- ---- k opens from j on, and k turns from i on

abbrev pub opening : ℕ → ℕ → List Call
opening j k = map open_session (from j k)

abbrev pub opened_entries : ℕ → ℕ → List Entry
opened_entries j k = map (λ n. taken (open_session n) done []) (from j k)

abbrev pub served_entries : List ℕ → ℕ → ℕ → List Entry
served_entries room i k = map (served_entry room) (from i k)

-- a log's first entry, and the rest from the state that it leaves
step : (s t : State) (c : Call) (cs : List Call) (e : Entry) (es : List Entry) → out s c ≡ e → next s c ≡ t → log_of next out t cs ≡ es → log_of next out s (c ∷ cs) ≡ e ∷ es
unfolding log_of
step s t c cs e es p q r = rw (p, q, r)

module _ (own far : ℕ) (queue : List ℕ) where
  open_step : (j k : ℕ) → j + suc k ≡ 128
      → next (state own far (runs unsent blank j (suc k)) 127 queue) (open_session j) ≡ state own far (runs unsent blank (suc j) k) 127 queue
  open_step j k h =
      open_next own far (runs unsent blank j (suc k)) 127 queue j (formed_opening own far j (suc k)) (omega arith) (first_b unsent blank j k blank)
      ∙ ap (λ (l : List Session). state own far l 127 queue) (advance unsent blank j k)

  -- each is taken, and all that are opened are unsent
  pub opens_run : (j k : ℕ) → j + k ≡ 128
      → run next out (state own far (runs unsent blank j k) 127 queue) (opening j k) ≡ state own far (replicate 128 unsent) 127 queue
  unfolding run
  opens_run j zero h =
      let z : j ≡ 128 = omega arith in
      ap (λ (l : List Session). state own far l 127 queue) (append-nil (replicate j unsent)) ∙ ap (λ (n : ℕ). state own far (replicate n unsent) 127 queue) z
  opens_run j (suc k) h = ap (λ (s : State). run next out s (opening (suc j) k)) (open_step j k h) ∙ opens_run (suc j) k (omega arith)

  pub opens_log : (j k : ℕ) → j + k ≡ 128 → log_of next out (state own far (runs unsent blank j k) 127 queue) (opening j k) ≡ opened_entries j k
  unfolding log_of
  opens_log j zero h = refl
  opens_log j (suc k) h =
      step (state own far (runs unsent blank j (suc k)) 127 queue) (state own far (runs unsent blank (suc j) k) 127 queue) (open_session j) (opening (suc j) k)
      (taken (open_session j) done []) (opened_entries (suc j) k)
      (open_out own far (runs unsent blank j (suc k)) 127 queue j (formed_opening own far j (suc k)) (omega arith) (first_b unsent blank j k blank))
      (open_step j k h) (opens_log (suc j) k (omega arith))

-- the next number is one step on
gap_next : (i : ℕ) → i < 128 → gap i (suc i) ≡ 1
unfolding gap
gap_next i h = omega arith

module _ (own far : ℕ) (ho : own < 65_536) (hf : far < 65_536) (room : List ℕ) (r : turn_room ≤ length room) where
  abbrev sent_runs : ℕ → ℕ → List Session
  sent_runs i k = runs (begun (from_header own) (from_header far)) unsent i k

  turns_from : (i k last : ℕ) (queue : List ℕ) → i + k ≡ 128 → last < 128 → gap last i ≡ 1 → length queue ≡ queue_size
      → log_of next out (state own far (sent_runs i k) last queue) (replicate k (turn room)) ≡ served_entries room i k
  unfolding log_of
  turns_from i zero last queue h hl g q = refl
  turns_from i (suc k) last queue h hl g q =
      let w = formed_serving own far ho hf i (suc k) last hl in
      let e = first_b (begun (from_header own) (from_header far)) unsent i k blank in
      let hi : i < 128 = omega arith in
      let xs = sent_runs i (suc k) in
      step (state own far xs last queue) (state own far (sent_runs (suc i) k) i (emptied i queue)) (turn room) (replicate k (turn room))
      (served_entry room i) (served_entries room (suc i) k)
      (turn_out own far xs last queue i room w hi e hl g q r)
      (turn_next own far xs last queue i room w hi e hl g q r
      ∙ ap (λ (l : List Session). state own far l i (emptied i queue)) (advance (begun (from_header own) (from_header far)) unsent i k))
      (turns_from (suc i) k i (emptied i queue) (omega arith) hi (gap_next i hi)
      (with_length i (turn_slot 0 0 (slot i queue)) queue hi q (turn_length 0 0 (slot i queue) (omega arith))))

  -- each turn serves the number after the last one served
  pub turns_log : (queue : List ℕ) → length queue ≡ queue_size
      → log_of next out (state own far (replicate 128 unsent) 127 queue) (replicate 128 (turn room)) ≡ served_entries room 0 128
  unfolding gap
  turns_log queue q = turns_from 0 128 127 queue refl (omega arith) refl q
