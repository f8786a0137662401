-- What is read from a place until the first refusal, and the bytes of messages one after the other.
use Rattle.std.specs.Prelude.{ℕ, zero, suc, ◌+◌, ◌-◌, ◌<◌, ◌≡◌, true, List, [], ◌∷◌, ◌++◌, length, take, drop}
use Rattle.laws.specs.Result.{Result, ok, refused, violation}
use Rattle.wire.specs.declared.Role.{Role}
use Rattle.wire.specs.declared.Message.{Message}
use Rattle.wire.specs.Message.{body_length, header, number_of, writable}
use Rattle.capture_rules.specs.Place.{message_at, place_after}

-- a message with the bytes that follow its header
pub record WholeMessage : Type 0 where
  pub message : Message
  pub body : List ℕ

-- the bytes of messages that are written one after the other
abbrev pub whole_bytes : List WholeMessage → List ℕ
whole_bytes [] = []
whole_bytes (w ∷ ws) = header w.message ++ (w.body ++ whole_bytes ws)

-- the messages that were read, and the place where reading stopped
pub record MessagesRead : Type 0 where
  pub messages : List WholeMessage
  pub end : ℕ

-- a message that was read at a place, with the capture's bytes that follow its header
abbrev pub whole_at : List ℕ → ℕ → Message → WholeMessage
whole_at capture place m = record { message = m; body = take (body_length m) (drop (place + 4) capture) }

-- a message comes before what is read after it, and a refusal ends the reading
abbrev pub prepended : List ℕ → ℕ → Result Message → MessagesRead → MessagesRead
prepended capture place (ok m) rest = record { messages = whole_at capture place m ∷ rest.messages; end = rest.end }
prepended capture place (refused n) rest = record { messages = []; end = place }
prepended capture place (violation f) rest = record { messages = []; end = place }

-- reading from a place: no message past a refusal, and at most this many messages
unfoldable pub read_up_to : ℕ → Role → List ℕ → ℕ → MessagesRead
read_up_to zero from capture place = record { messages = []; end = place }
read_up_to (suc n) from capture place =
    prepended capture place (message_at from capture place)
    (read_up_to n from capture (place_after place (message_at from capture place)))

-- reading from a place until the first refusal: a capture has no more messages than bytes
unfoldable pub read_all : Role → List ℕ → ℕ → MessagesRead
read_all from capture place = read_up_to (length capture) from capture place

-- ---- what is claimed of a reading

-- each message is one that the writer writes with its body
abbrev pub EachWritable : Role → List WholeMessage → Type 0
EachWritable from [] = Unit {0}
EachWritable from (w ∷ ws) =
    (number_of w.message < 65_536) × (writable from w.message (length w.body) ≡ true) × EachWritable from ws

-- the messages' bytes, one after the other, are the capture's bytes from the place up to the end, and no message is at the end
pub record Exact (from : Role) (s : List ℕ) (place : ℕ) (r : MessagesRead) : Type 0 where
  pub each : EachWritable from r.messages
  pub bytes : whole_bytes r.messages ≡ take (r.end - place) (drop place s)
  pub ends : r.end ≡ place + length (whole_bytes r.messages)
  pub stops : (m : Message) → message_at from s r.end ≡ ok m → ⊥
