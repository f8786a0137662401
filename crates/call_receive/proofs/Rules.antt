-- The result of a receive behind its gate, from the results of the gate and the reading.
use mathlib.Core.Path.{◌≡◌, refl, sym, ap, ◌∙◌}
use mathlib.Core.Bool.{true, false}
use mathlib.Core.List.{List, []}
use Prim.Native.Nat.{ℕ, ◌≤◌}
use lib.ListN.{length}
use borrow.Author.Tests.{ltb-false}
use Rattle.std.specs.Prelude as prelude
use Rattle.std.specs.Prelude.{Ok}
use Rattle.laws.specs.Result.{Result, ok, refused}
use Rattle.refusal.specs.declared.ReadError.{ReadError}
use Rattle.wire.specs.declared.Role.{Role}
use Rattle.wire_connection_header.specs.Answer.{header_read_as}
use Rattle.state.specs.declared.Stage.{Stage}
use Rattle.state.specs.declared.Stage.TheVariants as stage
use Rattle.state.specs.declared.Connection.{Connection}
use Rattle.protocol.specs.Plan.{Plan, stop, check, take, settle}
use Rattle.protocol.specs.Judge.{header_received, Output, Decision, refuse, violate, accept}
use Rattle.protocol.specs.Call.{answering, header_taken, reading, receive_gate, receive_rule}
use Rattle.protocol.specs.Result.{Given, given, bytes_of_all, in_room, receive_call}
use Rattle.call_checks.specs.Gate.{to_gate, behind}
use Rattle.state.specs.With.{with_stage}
use Rattle.call_checks.proofs.Calls.{next_check, refusing_in}
use Rattle.connection.proofs.Effects.{sets_stage}
use Rattle.connection_judge.specs.Verdict.{Verdict, verdict}
use Rattle.call_receive.specs.Replied.{replied}

-- ---- the reading

-- a good connection header
pub header_taken_lem : (c : Connection) (r : Role) {h : prelude.Result ℕ ReadError} {far : ℕ} {next : Connection} {outs : List Output} → h ≡ Ok far
    → next ≡ with_stage (stage.Up r far) c → outs ≡ answering r c.own
    → record { connection = next; answer = ok (header_received far); outs = outs } ≡ verdict c (header_taken c r (header_read_as h))
header_taken_lem c r {h} {far} e q o = rw (e, q ∙ sets_stage c (header_received far) (answering r c.own) (stage.Up r far), o)

-- what is read is what comes next at the stage
pub staged : (c : Connection) (input : List ℕ) {v : Verdict} {s : Stage} → c.stage ≡ s → v ≡ verdict c (reading c input s)
    → v ≡ verdict c (reading c input c.stage)
staged c input e h = h ∙ sym (ap (λ (s : Stage). verdict c (reading c input s)) e)

-- ---- the call

-- the verdict of a decision gives what the decision gives
same_given : (c : Connection) (room : List ℕ) (d : Decision) → replied (verdict c d) room ≡ in_room c room d
unfolding bytes_of_all
same_given c room (refuse n) = refl
same_given c room (violate b) = refl
same_given c room (accept e) = refl

by_gate : {B : Type 0} (bad : ℕ → B) (good : B) (p : Plan Unit) → behind (to_gate p) bad good ≡ settle bad (λ go. good) p
unfolding settle
by_gate bad good (stop n) = refl
by_gate bad good (check true n p) = refl
by_gate bad good (check false n p) = by_gate bad good p
by_gate bad good (take u) = refl

module _ (c : Connection) (input room : List ℕ) where
  decides : {r : Result Unit} → r ≡ to_gate (receive_gate c (length room)) → behind r refuse (reading c input c.stage) ≡ receive_rule c input (length room)
  unfolding receive_rule
  decides e =
      ap (λ (r : Result Unit). behind r refuse (reading c input c.stage)) e
      ∙ by_gate refuse (reading c input c.stage) (receive_gate c (length room))

  pub stopped : {n : ℕ} {x : Given} → ◌≡◌ {A = Result Unit} (refused n) (to_gate (receive_gate c (length room))) → x ≡ given c [] (refuse n)
      → (x, room) ≡ receive_call c input room
  unfolding receive_call
  stopped e h = refusing_in c room h ∙ ap (in_room c room) (decides e)

  module _ (e : ok tt ≡ to_gate (receive_gate c (length room))) where
    pub passed : {v : Verdict} {z : Given × List ℕ} → v ≡ verdict c (reading c input c.stage) → z ≡ replied v room
        → z ≡ receive_call c input room
    unfolding receive_call
    passed h k =
        k ∙ ap (λ (v : Verdict). replied v room) h ∙ same_given c room (reading c input c.stage) ∙ ap (in_room c room) (decides e)

    -- behind the gate there are 12 bytes of room
    pub roomy : 12 ≤ length room
    roomy =
        let formed = next_check _ _ _ e in
        let runs = next_check _ _ _ formed.1 in
        let started = next_check _ _ _ runs.1 in
        ltb-false (length room) 12 (next_check _ _ _ started.1).0
