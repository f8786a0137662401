-- What all messages of a capture come to, from the first place up to the first refusal or violation.
use Rattle.std.specs.Prelude.{ℕ, ◌+◌, ◌*◌, ◌%◌, ◌^◌, List, [], ◌∷◌, length}
use Rattle.wire.specs.declared.Role.{Role}
use Rattle.wire.specs.declared.Message.{Message}
use Rattle.wire.specs.Message.{second_byte, number_of, kind_of_message}
use Rattle.capture_rules.specs.Place.{message_at}
use Rattle.capture_rules.specs.Reading.{WholeMessage, MessagesRead, read_all}
use Rattle.capture_reader.specs.Capture.{first_place}
use Rattle.capture_export.specs.Words.{kind_number, flags_of, result_number, fault_in}

-- the words of a message in one number
abbrev pub packed : Message → ℕ
packed m = kind_number (kind_of_message m) + 16 * flags_of m + 256 * second_byte m + 65_536 * number_of m

-- the sum of the messages, each in one number
abbrev pub sum_of : List WholeMessage → ℕ
sum_of [] = 0
sum_of (w ∷ ws) = packed w.message + sum_of ws

-- what is at the end, the end, how many messages there are before it, and their sum in 64 bits
abbrev pub read_words : Role → List ℕ → MessagesRead → List ℕ
read_words from capture r =
    result_number (message_at from capture r.end) ∷ fault_in (message_at from capture r.end) ∷ r.end ∷ length r.messages
    ∷ sum_of r.messages % 2 ^ 64 ∷ []

-- all that is read from the first place on
unfoldable pub all_words : Role → List ℕ → List ℕ
all_words from capture = read_words from capture (read_all from capture first_place)
