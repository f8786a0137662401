-- The result of a call behind its gate, from the result of the gate, what is asked of the session and what is written.
use mathlib.Core.Path.{◌≡◌, refl, sym, ap, ◌∙◌}
use mathlib.Core.Bool.{Bool, true, false}
use mathlib.Core.List.{List, [], ◌∷◌}
use Prim.Native.Nat.{ℕ, ◌≤◌}
use lib.ListN.{length}
use borrow.Author.Tests.{ltb-false}
use Rattle.std.specs.Prelude as prelude
use Rattle.std.specs.Prelude.{Ok, Err}
use Rattle.std.specs.Result.{result_and}
use native.Mathlib.Omega.{arith}
use Rattle.laws.specs.Result.{Result, ok, refused}
use Rattle.laws.proofs.Results.{refused_not_ok}
use Rattle.refusal.specs.declared.Refusal.{Refusal}
use Rattle.wire.specs.declared.Message.{Message}
use Rattle.state.specs.declared.Connection.{Connection}
use Rattle.protocol.specs.Plan.{Plan, stop, check, take, settle, and_then}
use Rattle.protocol.specs.Receipt.{Taken}
use Rattle.protocol.specs.Judge.{done, header_out, sent, Effect, refuse, accept, commit}
use Rattle.protocol.specs.Call.{running, up_and_running, room_for}
use Rattle.laws.specs.Room.{overlaid, at_front}
use Rattle.protocol.specs.Result.{Given, given, bytes_of_all, in_room, decided}
use Rattle.session.specs.declared.Taken as declared
use Rattle.session.specs.Step.{stepped_as, to_stepped}
use Rattle.call_checks.specs.Gate.{gate_as, to_gate, behind}
use Rattle.call_checks.proofs.Checks.{followed_by, gated}
use Rattle.laws.proofs.Rooms.{fits}
use Rattle.connection_output.proofs.Rooms.{one_message}
use Rattle.call_checks.specs.Deciding.{decision, after_checks}

-- ---- the gate

module _ (p : Plan Unit) (rest : Plan Effect) where
  pub passed : ok tt ≡ to_gate p → decided rest ≡ decided (followed_by p rest)
  passed e = ap (λ (r : Result Unit). behind r refuse (decided rest)) e ∙ gated refuse accept p rest

  pub stopped : {n : ℕ} → ◌≡◌ {A = Result Unit} (refused n) (to_gate p) → refuse n ≡ decided (followed_by p rest)
  stopped e = ap (λ (r : Result Unit). behind r refuse (decided rest)) e ∙ gated refuse accept p rest

-- a check that is passed does not hold, and the next ones are passed
pub next_check : (b : Bool) (n : ℕ) (p : Plan Unit) → ok tt ≡ to_gate (check b n p) → (b ≡ false) × (ok tt ≡ to_gate p)
unfolding settle
next_check true n p e = absurd (refused_not_ok (sym e))
next_check false n p e = (refl, e)

-- behind the gate there is the room that the call needs
module _ (c : Connection) (asked room : ℕ) (rest : Plan Unit) where
  pub roomy_running : ok tt ≡ to_gate (running c (room_for asked room rest)) → asked ≤ room
  roomy_running e =
      let formed = next_check _ _ _ e in
      let runs = next_check _ _ _ formed.1 in
      ltb-false room asked (next_check _ _ _ runs.1).0

  pub roomy : ok tt ≡ to_gate (up_and_running c (room_for asked room rest)) → asked ≤ room
  roomy e =
      let formed = next_check _ _ _ e in
      let runs = next_check _ _ _ formed.1 in
      let up = next_check _ _ _ runs.1 in
      ltb-false room asked (next_check _ _ _ up.1).0

-- a result behind a gate: it is there only if the gate passed
module _ {T : Type 0} where
  pub gate_passed : (g : prelude.Result Unit Refusal) (s : prelude.Result T Refusal) {t : T} → result_and g s ≡ Ok t → ok tt ≡ gate_as g
  gate_passed (Ok u) s e = refl
  gate_passed (Err r) s e = let z : ◌≡◌ {A = ℕ} 0 1 = cc in absurd (omega arith)

-- ---- what is asked of a session

module _ (effect : Taken → Effect) where
  pub step : (p : Plan Taken) → decision effect (to_stepped p) ≡ decided (and_then effect p)
  unfolding settle
  step (stop k) = refl
  step (check true k p) = refl
  step (check false k p) = step p
  step (take t) = refl

  -- a step behind a gate
  pub stepped_behind : (p : Plan Unit) (g : prelude.Result Unit Refusal) (s : prelude.Result declared.Taken Refusal) {r : prelude.Result declared.Taken Refusal}
      → gate_as g ≡ to_gate p → r ≡ result_and g s → decision effect (stepped_as r) ≡ after_checks p effect (stepped_as s)
  stepped_behind p g s {r} e q =
      ap (λ (x : prelude.Result declared.Taken Refusal). decision effect (stepped_as x)) q ∙ is g
      ∙ ap (λ (x : Result Unit). behind x refuse (decision effect (stepped_as s))) e
    where
      is : (g : prelude.Result Unit Refusal) → decision effect (stepped_as (result_and g s)) ≡ behind (gate_as g) refuse (decision effect (stepped_as s))
      is (Ok u) = refl
      is (Err r) = refl

  pub by_rule : (p : Plan Unit) (ask : Plan Taken) {r : Result Taken} → r ≡ to_stepped ask
      → after_checks p effect r ≡ decided (followed_by p (and_then effect ask))
  by_rule p ask e =
      ap (after_checks p effect) e ∙ ap (behind (to_gate p) refuse) (step ask) ∙ gated refuse accept p (and_then effect ask)

-- ---- the result of a call that is taken

abbrev pub giving : Connection → ℕ → Given
giving c wrote = record { connection = c; answer = ok done; used = 0; wrote = wrote; start = 0; end = 0 }

module _ (c : Connection) (e : Effect) (r : done ≡ e.report) {next : Connection} (q : next ≡ commit c e) where
  pub taken : {wrote : ℕ} → wrote ≡ length (bytes_of_all [] e.outs) → giving next wrote ≡ given c [] (accept e)
  taken w = rw (q, w, ← r)

  pub taken_in : (room : List ℕ) {wrote : ℕ} {last : List ℕ} → length (bytes_of_all [] e.outs) ≤ length room
      → (wrote, last) ≡ at_front (bytes_of_all [] e.outs) room → (giving next wrote, last) ≡ in_room c room (accept e)
  taken_in room {wrote} {last} h w =
      let whole = w ∙ fits (bytes_of_all [] e.outs) room h in
      let same : giving next wrote ≡ given c [] (accept e) = taken (ap (λ (x : ℕ × List ℕ). x.0) whole) in
      let rest : last ≡ overlaid (bytes_of_all [] e.outs) room = ap (λ (x : ℕ × List ℕ). x.1) whole in
      rw (same, rest)

-- the same, for a result that is known to be what is given
pub done_in : {x y : Given} {last : List ℕ} {z : Given × List ℕ} → x ≡ y → (y, last) ≡ z → (x, last) ≡ z
done_in e q = rw e q

-- a refusal leaves the room as lent
pub refusing_in : (c : Connection) (room : List ℕ) {x : Given} {n : ℕ} → x ≡ given c [] (refuse n) → (x, room) ≡ in_room c room (refuse n)
refusing_in c room e = rw e

-- ---- how many bytes are written

pub four : (m : Message) (room : List ℕ) → 4 ≤ length room → length (bytes_of_all [] (sent m ∷ [])) ≤ length room
four m room h = rw one_message h

pub eight : (n : ℕ) (room : List ℕ) → 8 ≤ length room → length (bytes_of_all [] (header_out n ∷ [])) ≤ length room
unfolding bytes_of_all
eight n room h = h

pub none : 0 ≡ length (bytes_of_all [] [])
unfolding bytes_of_all
none = refl
