-- `decide` meets its contract: each arm is a case of `reading`.
use mathlib.Core.Path.{ap, ◌∙◌}
use Prim.Native.Nat.{ℕ}
use Rattle.laws.specs.Result.{Result}
use Rattle.wire.specs.declared.Message.{Message}
use Rattle.wire.specs.declared.Role.{Role}
use Rattle.wire.specs.declared.Role.TheVariants as role
use Rattle.wire.specs.Message.{read_message}
use Rattle.protocol.specs.Call.{header_taken, message_taken}
use Rattle.connection_judge.specs.Verdict.{verdict}
use Rattle.call_receive.proofs.Rules.{staged}
use Rattle.call_receive.proofs.readings.decide.Goals as goal

pub returns-in-Fresh : goal.returns-in-Fresh
returns-in-Fresh c =
    let a = c.args in
    staged a.c a.input.now c.in-Fresh.is
    (c.take_header.ensures
    ∙ ap (λ (q : Result ℕ). verdict a.c (header_taken a.c c.in-Fresh.role q)) c.read_connection_header.ensures)

pub returns-in-Started : goal.returns-in-Started
returns-in-Started c =
    let a = c.args in
    staged a.c a.input.now c.in-Started.is
    (c.take_header-in-Started.ensures
    ∙ ap (λ (q : Result ℕ). verdict a.c (header_taken a.c role.Client q)) c.read_connection_header-in-Started.ensures)

pub returns-in-Up : goal.returns-in-Up
returns-in-Up c =
    let a = c.args in
    let reads = c.read_message.ensures ∙ ap (λ (r : Role). read_message r a.input.now) c.other_end.ensures in
    staged a.c a.input.now c.in-Up.is
    (c.take_message.ensures ∙ ap (λ (q : Result Message). verdict a.c (message_taken a.c q)) reads)
