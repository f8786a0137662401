-- All 128 numbers are ready at once, and the last is served by the 128th turn and not before: from what opens and turns do in order.
use Rattle.std.specs.Prelude.{None}
use mathlib.Core.Path.{◌≡◌, refl, sym, ap, subst, ◌∙◌}
use mathlib.Core.Bool.{true, false, not}
use mathlib.Core.List.{List, [], ◌∷◌, ◌++◌, append-nil}
use Prim.Native.Nat.{ℕ, zero, suc, ◌+◌, ◌≤◌, ◌<◌}
use native.Mathlib.Omega.{arith}
use lib.ListN.{length, replicate, get_or-replicate}
use Rattle.laws.specs.Result.{ok}
use Rattle.laws.specs.Runs.{run, log_of, Every, gather}
use Rattle.laws.proofs.Below.{below}
use Rattle.laws.proofs.Runs.{run_append, log_append}
use Rattle.laws.proofs.Tests.{T_true}
use Rattle.ration.specs.Ration.{from_header}
use Rattle.wire.specs.declared.Role.TheVariants as role
use Rattle.wire.specs.Connection.{connection_header}
use Rattle.wire.proofs.ConnectionLaws.{header_read_written}
use Rattle.state.specs.declared.Session.{Session}
use Rattle.state.specs.declared.Stage.TheVariants as stage
use Rattle.state.specs.declared.Connection.{Connection}
use Rattle.state.specs.declared.Setup.{Setup}
use Rattle.protocol.specs.Slot.{queue_size, turn_room}
use Rattle.protocol.specs.Queue.{slot}
use Rattle.protocol.specs.Plan.{settle}
use Rattle.protocol.specs.Message.{data_of}
use Rattle.state.specs.New.{blank}
use Rattle.protocol.specs.Connection.{well_formed, all_formed, session_formed}
use Rattle.protocol.specs.Judge.{done, header_received}
use Rattle.protocol.specs.Call.{start_rule, receive_rule, header_taken}
use Rattle.protocol.specs.Result.{bytes_of_all, start_call}
use Rattle.protocol.specs.Observed.{is_ready}
use Rattle.protocol.proofs.Views.{look}
use Rattle.history.specs.Log.{Call, turn, State, Entry, next, out, made, log}
use Rattle.history.proofs.Decisions.{decide, next_by, out_by, next_is, out_is}
use Rattle.history.specs.Claims.{ready, data_number, data_written, has, lapse, waits_on}
use Rattle.history.proofs.Good.{ready_at}
use Rattle.history.proofs.InOrder.{written_is}
use Rattle.history.proofs.Written.{numbered_read_back}
use Rattle.history.proofs.Fair.{ready_is}
use Rattle.history.proofs.Bounded.{bounded_waiting}
use Rattle.runs.proofs.Played.{played, starts, receives, taken, greets}
use Rattle.runs.proofs.Filling.{from, runs, unsent, state, opening, opened_entries, opens_run, opens_log, served_entry, served_entries, turns_log}

-- ---- the headers are exchanged; `own` and `far` are their numbers

abbrev pub client_of : ℕ → Setup
client_of own = record { role = role.Client; header = own }

abbrev exchange : ℕ → List Call
exchange far = starts ∷ receives (connection_header far) ∷ []

abbrev exchanged_entries : ℕ → ℕ → List Entry
exchanged_entries own far = taken starts done (connection_header own) ∷ greets (connection_header far) (header_received far) [] ∷ []

abbrev waits_for_header : ℕ → Connection
waits_for_header own = record { sessions = replicate 128 blank; stage = stage.Started; over = false; own = own; last = 127; ping = None }

module _ (own far : ℕ) (hf : far < 65_536) (queue : List ℕ) where
  abbrev started : State
  started = record { connection = waits_for_header own; queue = queue }

  start_next : next (made (client_of own) queue) starts ≡ started
  unfolding next start_call start_rule settle well_formed all_formed session_formed
  start_next = refl

  start_out : out (made (client_of own) queue) starts ≡ taken starts done (connection_header own)
  unfolding out start_call start_rule settle well_formed all_formed session_formed bytes_of_all
  start_out = refl

  header_decided : decide (waits_for_header own) queue (receives (connection_header far)) ≡ header_taken (waits_for_header own) role.Client (ok far)
  unfolding receive_rule settle well_formed all_formed session_formed
  header_decided = ap (header_taken (waits_for_header own) role.Client) (header_read_written far [] hf)

  header_next : next started (receives (connection_header far)) ≡ state own far (runs unsent blank 0 128) 127 queue
  header_next = next_is started (receives (connection_header far)) ∙ ap (next_by started (receives (connection_header far))) header_decided

  header_out : out started (receives (connection_header far)) ≡ greets (connection_header far) (header_received far) []
  unfolding bytes_of_all
  header_out = out_is started (receives (connection_header far)) ∙ ap (out_by started (receives (connection_header far))) header_decided

  exchange_run : run next out (made (client_of own) queue) (exchange far) ≡ state own far (runs unsent blank 0 128) 127 queue
  unfolding run
  exchange_run = ap (λ (s : State). next s (receives (connection_header far))) start_next ∙ header_next

  exchange_log : log (client_of own) queue (exchange far) ≡ exchanged_entries own far
  unfolding log_of
  exchange_log = rw (start_out, start_next, header_out)

-- ---- and the numbers 0 to 127 opened

abbrev pub all_opened : ℕ → List Call
all_opened far = exchange far ++ opening 0 128

abbrev pub opened_log : ℕ → ℕ → List Entry
opened_log own far = exchanged_entries own far ++ opened_entries 0 128

append_path : {a b c d : List Entry} → a ≡ b → c ≡ d → a ++ c ≡ b ++ d
append_path p q = rw (p, q)

module _ (own far : ℕ) (ho : own < 65_536) (hf : far < 65_536) (queue : List ℕ) where
  all_run : run next out (made (client_of own) queue) (all_opened far) ≡ state own far (replicate 128 unsent) 127 queue
  all_run =
      run_append next out (made (client_of own) queue) (exchange far) (opening 0 128)
      ∙ ap (λ (s : State). run next out s (opening 0 128)) (exchange_run own far hf queue) ∙ opens_run own far queue 0 128 refl

  -- each open is taken
  pub all_opened_log : log (client_of own) queue (all_opened far) ≡ opened_log own far
  all_opened_log =
      log_append next out (made (client_of own) queue) (exchange far) (opening 0 128)
      ∙ append_path (exchange_log own far hf queue)
      (ap (λ (s : State). log_of next out s (opening 0 128)) (exchange_run own far hf queue) ∙ opens_log own far queue 0 128 refl)

  -- all 128 numbers are ready
  pub all_ready : (n : ℕ) → n < 128 → ready (client_of own) n (opened_log own far) ≡ true
  all_ready n h =
      ap (ready (client_of own) n) (sym all_opened_log) ∙ ready_is (client_of own) ho queue (all_opened far) n h
      ∙ ap (λ (s : State). ready_at s n) all_run
      ∙ ap (λ (x : Session). is_ready (look (from_header far) x (slot n queue)).sends) (get_or-replicate 128 n unsent blank h)

-- ---- what the entries of the turns tell

module _ (own : ℕ) (room : List ℕ) where
  own_data : (i : ℕ) → i < 128 → data_written (client_of own) (served_entry room i) ≡ i ∷ []
  unfolding bytes_of_all gather
  own_data i h =
      ap (gather data_number) (written_is role.Client _ _ (numbered_read_back role.Client i (data_of 0 true false false false) [] h refl (omega arith) (omega arith)))

  served_numbers : (i k : ℕ) → i + k ≤ 128 → gather (data_written (client_of own)) (served_entries room i k) ≡ from i k
  unfolding gather
  served_numbers i zero h = refl
  served_numbers i (suc k) h = rw (own_data i (omega arith)) (ap (λ (l : List ℕ). i ∷ l) (served_numbers (suc i) k (omega arith)))

  -- 127 waits on each turn that serves another
  waits_on_lem : (i : ℕ) → i < 127 → waits_on (client_of own) 127 (served_entry room i) ≡ true
  unfolding played
  waits_on_lem i h = T_true _ (below (λ n. waits_on (client_of own) 127 (served_entry room n)) 127 tt i h)

  waits_on_all : (i k : ℕ) → i + k ≤ 127 → Every (waits_on (client_of own) 127) (served_entries room i k)
  unfolding Every
  waits_on_all i zero h = tt
  waits_on_all i (suc k) h = (waits_on_lem i (omega arith), waits_on_all (suc i) k (omega arith))

  -- no turn is a lapse
  no_lapse : (i : ℕ) → i < 128 → not (lapse (client_of own) 127 (served_entry room i)) ≡ true
  unfolding played
  no_lapse i h = T_true _ (below (λ n. not (lapse (client_of own) 127 (served_entry room n))) 128 tt i h)

  no_lapse_in : (i k : ℕ) → i + k ≤ 128 → Every (λ e. not (lapse (client_of own) 127 e)) (served_entries room i k)
  unfolding Every
  no_lapse_in i zero h = tt
  no_lapse_in i (suc k) h = (no_lapse i (omega arith), no_lapse_in (suc i) k (omega arith))

-- ---- 128 turns: of any header numbers, any queue of the right size and any room that is enough

-- n is ready after a, waits all through b and is ready still; b has 127 Data messages, as many as a wait may have
pub record Longest (s : Setup) (n : ℕ) (a b : List Entry) : Type 0 where
  pub is_ready_now : ready s n a ≡ true
  pub waits : Every (waits_on s n) b
  pub still_ready : ready s n (a ++ b) ≡ true
  pub all_others : length (gather (data_written s) b) ≡ 127

module _ (own far : ℕ) (ho : own < 65_536) (hf : far < 65_536) (queue : List ℕ) (q : length queue ≡ queue_size) (room : List ℕ) (r : turn_room ≤ length room) where
  abbrev full : List Call
  full = all_opened far ++ replicate 128 (turn room)

  -- they serve 0 to 127 in this order
  pub full_log : log (client_of own) queue full ≡ opened_log own far ++ served_entries room 0 128
  full_log =
      log_append next out (made (client_of own) queue) (all_opened far) (replicate 128 (turn room))
      ∙ append_path (all_opened_log own far ho hf queue)
      (ap (λ (s : State). log_of next out s (replicate 128 (turn room))) (all_run own far ho hf queue) ∙ turns_log own far ho hf room r queue q)

  pub full_numbers : gather (data_written (client_of own)) (log (client_of own) queue full) ≡ from 0 128
  unfolding played
  full_numbers = ap (gather (data_written (client_of own))) full_log ∙ served_numbers own room 0 128 (omega arith)

  -- number 127 is served by the 128th turn
  pub last_turn : log (client_of own) queue full ≡ opened_log own far ++ (served_entries room 0 127 ++ (served_entry room 127 ∷ []))
  last_turn = full_log

  -- and not before: its wait is as long as a wait may be
  pub longest : Longest (client_of own) 127 (opened_log own far) (served_entries room 0 127)
  longest =
      let h = all_ready own far ho hf queue 127 (omega arith) in
      let w = waits_on_all own room 0 127 (omega arith) in
      record {
        is_ready_now = h;
        waits = w;
        still_ready =
            ((bounded_waiting (client_of own) ho queue full).waits (opened_log own far) (served_entries room 0 127) (served_entry room 127 ∷ []) last_turn 127
            (omega arith) h w).still_ready;
        all_others = ap length (served_numbers own room 0 127 (omega arith));
      }

  -- as is claimed of every log, its own message is among 128
  pub own_comes : has 127 (gather (data_written (client_of own)) (served_entries room 0 128)) ≡ true
  own_comes =
      (bounded_waiting (client_of own) ho queue full).own_by_128 (opened_log own far) (served_entries room 0 128) []
      (full_log ∙ ap (λ (l : List Entry). opened_log own far ++ l) (sym (append-nil (served_entries room 0 128)))) 127 (omega arith)
      (all_ready own far ho hf queue 127 (omega arith)) (no_lapse_in own room 0 128 (omega arith))
      (subst (λ (l : List ℕ). 128 ≤ length l) (sym (served_numbers own room 0 128 (omega arith))) (omega arith))
