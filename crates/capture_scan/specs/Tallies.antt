-- A tally of what was read up to a place: with what is at its place, and with all that is read from its place on.
use Rattle.std.specs.Prelude.{ℕ, ◌+◌, ◌%◌, ◌^◌, List, length}
use Rattle.laws.specs.Result.{Result, ok, refused, violation}
use Rattle.wire.specs.declared.Role.{Role}
use Rattle.wire.specs.declared.Message.{Message}
use Rattle.capture_rules.specs.Place.{message_at, place_after}
use Rattle.capture_rules.specs.Reading.{MessagesRead, read_all}
use Rattle.capture_export.specs.Words.{result_number, fault_in}
use Rattle.capture_scan.specs.declared.Tally.{Tally}
use Rattle.capture_scan.specs.Scan.{packed, sum_of}

-- how many messages a result is
abbrev pub count_in : Result Message → ℕ
count_in (ok m) = 1
count_in (refused n) = 0
count_in (violation f) = 0

-- the message of a result in one number
abbrev pub packed_in : Result Message → ℕ
packed_in (ok m) = packed m
packed_in (refused n) = 0
packed_in (violation f) = 0

-- the tally with the result at its place
abbrev pub with_result : Tally → Result Message → Tally
with_result t r = record {
  number = result_number r;
  fault = fault_in r;
  place = place_after t.place r;
  messages = t.messages + count_in r;
  sum = (t.sum + packed_in r) % 2 ^ 64;
}

-- the tally with messages that were read from its place on
abbrev pub with_messages : Role → List ℕ → Tally → MessagesRead → Tally
with_messages from s t r = record {
  number = result_number (message_at from s r.end);
  fault = fault_in (message_at from s r.end);
  place = r.end;
  messages = t.messages + length r.messages;
  sum = (t.sum + sum_of r.messages) % 2 ^ 64;
}

-- the tally with all that is read from its place on
unfoldable pub completed : Role → List ℕ → Tally → Tally
completed from s t = with_messages from s t (read_all from s t.place)

-- a tally of nothing, at a place
abbrev pub empty_tally : ℕ → Tally
empty_tally place = record { number = 0; fault = 0; place = place; messages = 0; sum = 0 }
