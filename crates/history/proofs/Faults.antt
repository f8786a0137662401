-- What the fault of a receive says: the header or message is read so, or a message is read that may not come; and each number of the rules
-- has its place and its type of message. From the laws of the readers.
use mathlib.Core.Path.{◌≡◌, refl}
use mathlib.Core.Logic.{◌⊎◌, inl, inr}
use mathlib.Core.Bool.{Bool, false}
use mathlib.Core.List.{List}
use Prim.Native.Nat.{ℕ}
use Rattle.laws.specs.Pick.{pick}
use Rattle.laws.specs.Result.{Fault, ok, violation}
use Rattle.wire.specs.declared.Role.{Role}
use Rattle.wire.specs.declared.Message.{Message}
use Rattle.wire.specs.Message.{read_message}
use Rattle.wire.specs.Connection.{read_connection_header}
use Rattle.wire.proofs.Places.{fault_message, fault_header}
use Rattle.state.specs.declared.Stage.{Stage}
use Rattle.state.specs.declared.Stage.TheVariants as stage
use Rattle.protocol.specs.Message.{SessionMessage, data_of, increment_of, ping_ack_of, Scope, whole, of_session, scope}
use Rattle.protocol.specs.Connection.{other_end, exchanged}
use Rattle.protocol.specs.Judge.{fault_of}
use Rattle.history.specs.Faults.{RuleFault, wrong_state, above_ration, past_largest, unasked_ack, ReceiveFault, header_wrong, message_wrong, rule_broken}

-- ---- what is read

-- the connection header, where one is due, or a message from the other end
abbrev pub ReadSo : Stage → List ℕ → Fault → Type 0
ReadSo st input f =
    ((exchanged st ≡ false) × (read_connection_header input ≡ violation f))
    ⊎ ((r : Role) × (far : ℕ) × (st ≡ stage.Up r far) × (read_message (other_end r) input ≡ violation f))

-- a message that is read and may not come
abbrev pub ReadAndUnfit : Stage → List ℕ → Fault → Type 0
ReadAndUnfit st input f =
    (r : Role) × (far : ℕ) × (m : Message) × (st ≡ stage.Up r far) × (read_message (other_end r) input ≡ ok m) × RuleFault (scope m) f

pub fault_read : (st : Stage) (input : List ℕ) (f : Fault) → ReceiveFault st input f → ReadSo st input f ⊎ ReadAndUnfit st input f
fault_read st input f (header_wrong g down long w) = inl (inl (down, fault_header input g long w))
fault_read st input f (message_wrong r far g up long w) = inl (inr (r, far, up, fault_message (other_end r) input g long w))
fault_read st input f (rule_broken r far m g up e w) = inr (r, far, m, up, e, w)

-- ---- the numbers of the rules

-- each has one place
pub rule_place : (z : Scope) (f : Fault) → RuleFault z f → f ≡ fault_of f.number
unfolding pick
rule_place z f (wrong_state i m) = refl
rule_place z f (above_ration i n o c e a) = refl
rule_place z f (past_largest i n) = refl
rule_place z f (unasked_ack k) = refl

-- 25 is of a session's message, 26 of Data, 27 of an IncrementRation, 28 of a PingAck
abbrev pub OfType : ℕ → Scope → Type 0
OfType n z =
    ((n ≡ 25) × (i : ℕ) × (m : SessionMessage) × (z ≡ of_session i m))
    ⊎ ((n ≡ 26) × (i size : ℕ) × (o c e a : Bool) × (z ≡ of_session i (data_of size o c e a)))
    ⊎ ((n ≡ 27) × (i amount : ℕ) × (z ≡ of_session i (increment_of amount)))
    ⊎ ((n ≡ 28) × (k : ℕ) × (z ≡ whole (ping_ack_of k)))

pub rule_type : (z : Scope) (f : Fault) → RuleFault z f → OfType f.number z
rule_type z f (wrong_state i m) = inl (refl, i, m, refl)
rule_type z f (above_ration i n o c e a) = inr (inl (refl, i, n, o, c, e, a, refl))
rule_type z f (past_largest i n) = inr (inr (inl (refl, i, n, refl)))
rule_type z f (unasked_ack k) = inr (inr (inr (refl, k, refl)))
