-- What is wrong with the input of a receive that finds a violation, with the number and the place that say so.
use Rattle.std.specs.Prelude.{ℕ, ◌≤◌, ◌≡◌, Bool, false, List, length, take}
use Rattle.laws.specs.Result.{Fault, fault, ok}
use Rattle.wire.specs.declared.Role.{Role}
use Rattle.wire.specs.declared.Message.{Message}
use Rattle.wire.specs.Message.{read_message}
use Rattle.wire.specs.Wrong.{MessageFault, HeaderFault}
use Rattle.state.specs.declared.Stage.{Stage}
use Rattle.state.specs.declared.Stage.TheVariants as stage
use Rattle.protocol.specs.Message.{SessionMessage, data_of, increment_of, ping_ack_of, Scope, whole, of_session, scope}
use Rattle.protocol.specs.Connection.{other_end, exchanged}

-- a message that is read may not come: 25 at the session number of any session's message, 26 at the length of Data, 27 at the increment of
-- an IncrementRation, 28 at the cookie of a PingAck
pub data RuleFault : Scope → Fault → Type 0 where
  wrong_state : (i : ℕ) (m : SessionMessage) → RuleFault (of_session i m) (fault 25 1)
  above_ration : (i n : ℕ) (opens close eof ack : Bool) → RuleFault (of_session i (data_of n opens close eof ack)) (fault 26 2)
  past_largest : (i n : ℕ) → RuleFault (of_session i (increment_of n)) (fault 27 2)
  unasked_ack : (k : ℕ) → RuleFault (whole (ping_ack_of k)) (fault 28 2)

-- a header is due and eight bytes are no header; or four bytes are no header of a message from the other end; or a message may not come
pub data ReceiveFault (st : Stage) (input : List ℕ) : Fault → Type 0 where
  header_wrong : (f : Fault) → exchanged st ≡ false → 8 ≤ length input → HeaderFault (take 8 input) f → ReceiveFault st input f
  message_wrong : (r : Role) (far : ℕ) (f : Fault) → st ≡ stage.Up r far → 4 ≤ length input → MessageFault (other_end r) (take 4 input) f
      → ReceiveFault st input f
  rule_broken : (r : Role) (far : ℕ) (m : Message) (f : Fault) → st ≡ stage.Up r far → read_message (other_end r) input ≡ ok m
      → RuleFault (scope m) f → ReceiveFault st input f
