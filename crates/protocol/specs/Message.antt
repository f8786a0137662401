-- The messages of the connection as a whole, by what they do, and those of one session, without its number.
use Rattle.std.specs.Prelude.{ℕ, Bool}
use Rattle.wire.specs.declared.Message.{Message}
use Rattle.wire.specs.declared.Message.TheVariants as msg
use Rattle.wire.specs.Message.{effective_increment}

-- a detail does nothing
pub data ConnectionMessage : Type 0 where
  no_operation_of shutdown_of error_of : ConnectionMessage
  ping_of ping_ack_of : (cookie : ℕ) → ConnectionMessage

-- Data has a length and its flags: open, close, eof, ackRequired
pub data SessionMessage : Type 0 where
  data_of : ℕ → Bool → Bool → Bool → Bool → SessionMessage
  increment_of : ℕ → SessionMessage
  abort_of : Bool → SessionMessage
  close_of acknowledgment_of : SessionMessage

-- a message of the connection as a whole, or one of a session, with its number
pub data Scope : Type 0 where
  whole : ConnectionMessage → Scope
  of_session : ℕ → SessionMessage → Scope

-- an increment counts by its effective amount
abbrev pub scope : Message → Scope
scope (msg.NoOperation n) = whole no_operation_of
scope (msg.Shutdown n) = whole shutdown_of
scope (msg.Ping k) = whole (ping_of k)
scope (msg.PingAck k) = whole (ping_ack_of k)
scope (msg.Error n) = whole error_of
scope (msg.IncrementRation shift i n) = of_session i (increment_of (effective_increment shift n))
scope (msg.Abort partial i n) = of_session i (abort_of partial)
scope (msg.Close i) = of_session i close_of
scope (msg.Acknowledgment i) = of_session i acknowledgment_of
scope (msg.Data opens close eof ack i n) = of_session i (data_of n opens close eof ack)

-- the message that we write for a session: an increment unshifted, no detail
abbrev pub numbered : ℕ → SessionMessage → Message
numbered i (data_of n opens close eof ack) = msg.Data opens close eof ack i n
numbered i (increment_of n) = msg.IncrementRation 0 i n
numbered i (abort_of partial) = msg.Abort partial i 0
numbered i close_of = msg.Close i
numbered i acknowledgment_of = msg.Acknowledgment i
