-- A reader of a capture: at its first message, and moved past one.
use Rattle.std.specs.Prelude.{ℕ, List}
use Rattle.std.specs.Borrow.{Bor}
use Rattle.laws.specs.Result.{Result}
use Rattle.wire.specs.declared.Role.{Role}
use Rattle.wire.specs.declared.Message.{Message}
use Rattle.capture_rules.specs.Place.{message_at, place_after}
use Rattle.capture_reader.specs.declared.Reader.{Reader}

-- the first message is at place 8
abbrev pub first_place : ℕ
first_place = 8

-- a reader at the first message of a capture
abbrev pub reader_at_first : Bor (List ℕ) → Reader
reader_at_first capture = record { capture = capture; place = first_place }

-- what is at a reader's place, and the reader at the place to read on from
abbrev pub advanced : Role → Reader → Result Message × Reader
advanced from r = (
  message_at from r.capture.now r.place,
  record { capture = r.capture; place = place_after r.place (message_at from r.capture.now r.place) },
)
