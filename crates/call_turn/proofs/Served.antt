-- The result of a turn: the message of the number that is served, with the first bytes of its slot, and the slot without them.
use mathlib.Core.Path.{◌≡◌, ap, ◌∙◌}
use mathlib.Core.Bool.{true, false}
use mathlib.Core.List.{List, [], ◌∷◌, map}
use Prim.Native.Nat.{ℕ, ◌+◌, ◌-◌, ◌*◌, ◌≤◌, ◌<◌}
use native.Mathlib.Omega.{arith}
use lib.ListN.{length, take, drop, length-append, length-take}
use borrow.Author.Tests.{eq-eqb, lt-ltb, le-leb, eqb-true, ltb-false}
use Rattle.std.specs.Prelude as prelude
use Rattle.std.specs.Prelude.{Option, Some, None, Ok, Err}
use Rattle.laws.specs.Result.{ok}
use Rattle.laws.proofs.Pick.{yes}
use Rattle.laws.proofs.Tests.{and_both, not_false}
use Rattle.refusal.specs.declared.Refusal.{Refusal}
use Rattle.refusal.specs.Number.{refusal_number}
use Rattle.wire.specs.declared.Message.{Message}
use Rattle.wire.specs.declared.Message.TheVariants as msg
use Rattle.wire.specs.Message.{body_length}
use Rattle.state.specs.declared.Connection.{Connection}
use Rattle.protocol.specs.Slot.{slot_size, queue_size, turn_room}
use Rattle.protocol.specs.Queue.{slot, with_slot, turn_slot}
use Rattle.protocol.specs.Plan.{take as taking}
use Rattle.protocol.specs.Message.{numbered}
use Rattle.protocol.specs.Connection.{at, well_formed}
use Rattle.protocol.specs.Judge.{Output, sent, served, refuse, setting_session}
use Rattle.protocol.specs.Call.{up_and_running, room_for, queue_of}
use Rattle.laws.specs.Room.{overlaid, at_front}
use Rattle.protocol.specs.Result.{Given, given, bytes_of_all}
use Rattle.protocol.proofs.Slots.{slot_length}
use Rattle.session.specs.declared.Sent.{Sent}
use Rattle.session.specs.declared.Sent.TheVariants as session
use Rattle.session.specs.declared.Taken.{Taken}
use Rattle.session.specs.Step.{sent_as, stepped_as}
use Rattle.call_checks.specs.Gate.{to_gate}
use Rattle.laws.proofs.Rooms.{fits}
use Rattle.connection_output.proofs.Rooms.{one_with}
use Rattle.call_slots.specs.Slots.{taken_from}
use Rattle.call_slots.proofs.Parts.{slot_part}
use Rattle.call_checks.specs.Deciding.{decision}
use Rattle.call_checks.proofs.Calls.{next_check}
use Rattle.call_turn.specs.Turned.{with_served, turn_gives}

-- ---- what is known behind the gate

pub record Behind (c : Connection) (queue room : ℕ) : Type 0 where
  pub formed : well_formed c ≡ true
  pub roomy : turn_room ≤ room
  pub whole : queue ≡ queue_size

pub gate_has : (c : Connection) (queue room : ℕ)
    → ok tt ≡ to_gate (up_and_running c (room_for turn_room room (queue_of queue (taking tt)))) → Behind c queue room
gate_has c queue room e =
    let formed = next_check _ _ _ e in
    let runs = next_check _ _ _ formed.1 in
    let up = next_check _ _ _ runs.1 in
    let roomy = next_check _ _ _ up.1 in
    let whole = next_check _ _ _ roomy.1 in
    record { formed = not_false _ formed.0; roomy = ltb-false room turn_room roomy.0; whole = eqb-true _ _ (not_false _ whole.0) }

-- ---- the message fits the room

message_fits : (payload : List ℕ) (m : Message) → length payload ≡ slot_size → length (bytes_of_all payload (sent m ∷ [])) ≤ turn_room
message_fits payload m e =
    let body : length (take (body_length m) payload) ≤ slot_size = simp length-take (omega arith) in
    rw (one_with, length-append) (omega arith)

sent_fits : (n : ℕ) (payload : List ℕ) (s : Option Sent) → length payload ≡ slot_size
    → length (bytes_of_all payload (map (λ m. sent (numbered n m)) (sent_as s))) ≤ turn_room
unfolding bytes_of_all
sent_fits n payload None e = omega arith
sent_fits n payload (Some (session.Data k opens eof)) e = message_fits payload (msg.Data opens false eof false n k) e
sent_fits n payload (Some (session.Increment k)) e = message_fits payload (msg.IncrementRation 0 n k) e
sent_fits n payload (Some (session.Abort partial)) e = message_fits payload (msg.Abort partial n 0) e
sent_fits n payload (Some session.Close) e = message_fits payload (msg.Close n) e

-- ---- a session's step that is taken or refused

abbrev pub reporting : Connection → ℕ → ℕ → Given
reporting c n wrote = record { connection = c; answer = ok (served n); used = 0; wrote = wrote; start = 0; end = 0 }

slot_without : (n w y : ℕ) (queue : List ℕ) → n < 128 → w ≤ slot_size → length queue ≡ queue_size
    → taken_from queue n w (w - y) ≡ with_slot n (turn_slot w (w - y) (slot n queue)) queue
unfolding taken_from
slot_without n w y queue number within whole =
    let less : w - y ≤ w = omega arith in
    yes _ _ _ (and_both (and_both (eq-eqb _ _ whole) (lt-ltb _ _ number)) (le-leb _ _ within)) ∙ yes _ _ _ (le-leb _ _ less)

module _ (c : Connection) (n : ℕ) (queue room : List ℕ) {x : prelude.Result Taken Refusal} {res : Given} where
  pub turn_refused : {r : Refusal} → x ≡ Err r → res ≡ given c [] (refuse (refusal_number r))
      → (res, queue, room) ≡ turn_gives c queue room (decision (setting_session c n n (served n)) (stepped_as x))
  turn_refused e g = rw (e, g)

  pub turn_taken : {w start : ℕ} {t : Taken} {next : Connection} {wrote k : ℕ} {left last : List ℕ} {outs : List Output} → n < 128 → w ≡ (at c n).waiting
      → w ≤ slot_size → length queue ≡ queue_size → turn_room ≤ length room
      → x ≡ Ok t → next ≡ with_served c n t.session → outs ≡ map (λ m. sent (numbered n m)) (sent_as t.sent)
      → start ≡ n * slot_size → (wrote, last) ≡ at_front (bytes_of_all (take (start + slot_size - start) (drop start queue)) outs) room
      → k ≡ w - t.session.waiting → left ≡ taken_from queue n w k → res ≡ reporting next n wrote
      → (res, left, last) ≡ turn_gives c queue room (decision (setting_session c n n (served n)) (stepped_as x))
  turn_taken {w} {start} {t} {next} {wrote} {k} {left} {last} {outs} number waits within whole roomy e is o begins wr less l g =
      let bytes = bytes_of_all (slot n queue) (map (λ m. sent (numbered n m)) (sent_as t.sent)) in
      let size = sent_fits n (slot n queue) t.sent (slot_length n queue number whole) in
      let out = rw (slot_part n queue begins, o) at wr ∙ fits bytes room (omega arith) in
      let count : wrote ≡ length (bytes_of_all (slot n queue) (map (λ m. sent (numbered n m)) (sent_as t.sent))) = ap (λ (p : ℕ × List ℕ). p.0) out in
      let rest : last ≡ overlaid (bytes_of_all (slot n queue) (map (λ m. sent (numbered n m)) (sent_as t.sent))) room = ap (λ (p : ℕ × List ℕ). p.1) out in
      let after : left ≡ with_slot n (turn_slot (at c n).waiting ((at c n).waiting - t.session.waiting) (slot n queue)) queue =
      l ∙ ap (taken_from queue n w) less ∙ slot_without n w t.session.waiting queue number within whole
      ∙ ap (λ (v : ℕ). with_slot n (turn_slot v (v - t.session.waiting) (slot n queue)) queue) waits in
      rw (e, g, is, count, rest, after)
