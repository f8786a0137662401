-- The words of a message, its type and each item with its name; of a violation, its number and place; and of a failure.
use Rattle.std.specs.Prelude.{ℕ, List, ◌++◌}
use Rattle.refusal.specs.declared.Fault.{Fault}
use Rattle.refusal.specs.declared.Failure.{Failure}
use Rattle.refusal.specs.declared.Failure.TheVariants as failure
use Rattle.refusal.specs.Number.{refusal_number, fault_as}
use Rattle.wire.specs.declared.Message.{Message}
use Rattle.wire.specs.declared.Message.TheVariants.{NoOperation, Shutdown, Ping, PingAck, Error, IncrementRation, Abort, Close, Acknowledgment, Data}
use Rattle.text_line.specs.Line.{item_text, flag_text}

abbrev pub message_text : Message → List ℕ
message_text (NoOperation length) = item_text "noop length " length
message_text (Shutdown length) = item_text "shutdown length " length
message_text (Ping cookie) = item_text "ping cookie " cookie
message_text (PingAck cookie) = item_text "pingack cookie " cookie
message_text (Error length) = item_text "error length " length
message_text (IncrementRation shift session increment) =
    item_text "increment id " session ++ item_text " shift " shift ++ item_text " increment " increment
message_text (Abort partial session length) = item_text "abort id " session ++ flag_text " partial" partial ++ item_text " length " length
message_text (Close session) = item_text "close id " session
message_text (Acknowledgment session) = item_text "ack id " session
message_text (Data opens close eof ack session length) =
    item_text "data id " session ++ flag_text " open" opens ++ flag_text " close" close ++ flag_text " eof" eof ++ flag_text " ack" ack
    ++ item_text " length " length

abbrev pub fault_text : Fault → List ℕ
fault_text f = item_text " refused " (fault_as f).number ++ item_text " at " (fault_as f).place

abbrev pub failure_text : Failure → List ℕ
failure_text (failure.Refused r) = item_text " refused " (refusal_number r)
failure_text (failure.Violated f) = fault_text f
