-- What is wrong with a connection header or with the header of a message is told by a receive, in every state in which no check before it
-- refuses. From the laws of the readers.
use mathlib.Core.Path.{◌≡◌, refl, sym, ap, ◌∙◌}
use mathlib.Core.Bool.{true, false, not, false≢true}
use mathlib.Core.List.{List, []}
use Prim.Native.Nat.{ℕ, ◌≤◌}
use lib.Dec.{ltb}
use lib.ListN.{length, take}
use borrow.Author.Tests.{le-ltb}
use Rattle.laws.specs.Result.{Fault, Result, violation}
use Rattle.wire.specs.declared.Role.TheVariants as role
use Rattle.wire.specs.declared.Message.{Message}
use Rattle.wire.specs.Message.{read_message}
use Rattle.wire.specs.Connection.{read_connection_header}
use Rattle.wire.specs.Wrong.{MessageFault, HeaderFault}
use Rattle.wire.proofs.Places.{fault_message, fault_header}
use Rattle.state.specs.declared.Stage.{Stage}
use Rattle.state.specs.declared.Stage.TheVariants as stage
use Rattle.state.specs.declared.Connection.{Connection}
use Rattle.protocol.specs.Plan.{Plan, check, take as take-plan, settle}
use Rattle.protocol.specs.Connection.{other_end, role_of, exchanged, well_formed}
use Rattle.protocol.specs.Judge.{Decision, refuse}
use Rattle.protocol.specs.Call.{header_taken, message_taken, reading, unstarted, receive_rule}
use Rattle.protocol.specs.Result.{given, receive_call}
use Rattle.protocol.proofs.Plans.{passes}

module _ (c : Connection) (input room : List ℕ) (f : Fault) (formed : well_formed c ≡ true) (live : c.over ≡ false) (roomy : 12 ≤ length room) where
  past_gate : unstarted c.stage ≡ false → receive_rule c input (length room) ≡ reading c input c.stage
  unfolding receive_rule settle
  past_gate begun =
      let p4 : Plan Unit = take-plan tt in
      let p3 : Plan Unit = check (ltb (length room) 12) 8 p4 in
      let p2 : Plan Unit = check (unstarted c.stage) 1 p3 in
      let p1 : Plan Unit = check c.over 2 p2 in
      let g : Unit → Decision = λ go. reading c input c.stage in
      passes refuse g 14 p1 (ap not formed) ∙ passes refuse g 2 p2 live ∙ passes refuse g 1 p3 begun ∙ passes refuse g 8 p4 (le-ltb (length room) 12 roomy)

  bad_header_read : (st : Stage) → exchanged st ≡ false → read_connection_header input ≡ violation f → (given c [] (reading c input st)).answer ≡ violation f
  bad_header_read (stage.Fresh r) u e = ap (λ (h : Result ℕ). (given c [] (header_taken c r h)).answer) e
  bad_header_read stage.Started u e = ap (λ (h : Result ℕ). (given c [] (header_taken c role.Client h)).answer) e
  bad_header_read (stage.Up r far) u e = absurd (false≢true (sym u))

  bad_message_read : (st : Stage) → exchanged st ≡ true → read_message (other_end (role_of st)) input ≡ violation f → (given c [] (reading c input st)).answer ≡ violation f
  bad_message_read (stage.Fresh r) u e = absurd (false≢true u)
  bad_message_read stage.Started u e = absurd (false≢true u)
  bad_message_read (stage.Up r far) u e = ap (λ (h : Result Message). (given c [] (message_taken c h)).answer) e

  begun_up : (st : Stage) → exchanged st ≡ true → unstarted st ≡ false
  begun_up (stage.Fresh r) u = absurd (false≢true u)
  begun_up stage.Started u = refl
  begun_up (stage.Up r far) u = refl

  pub header_told : unstarted c.stage ≡ false → exchanged c.stage ≡ false → 8 ≤ length input → HeaderFault (take 8 input) f
      → (receive_call c input room).0.answer ≡ violation f
  unfolding receive_call
  header_told begun u l w =
      ap (λ (d : Decision). (given c [] d).answer) (past_gate begun) ∙ bad_header_read c.stage u (fault_header input f l w)

  pub message_told : exchanged c.stage ≡ true → 4 ≤ length input → MessageFault (other_end (role_of c.stage)) (take 4 input) f
      → (receive_call c input room).0.answer ≡ violation f
  unfolding receive_call
  message_told u l w =
      ap (λ (d : Decision). (given c [] d).answer) (past_gate (begun_up c.stage u))
      ∙ bad_message_read c.stage u (fault_message (other_end (role_of c.stage)) input f l w)
