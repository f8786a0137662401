-- The five words of a scan in numbers, for the capture of docs/CAPTURES.md.
use Rattle.std.proofs.Common.{◌≡◌, false, [], ◌∷◌, refl}
use Rattle.laws.specs.Pick.{pick}
use Rattle.wire.specs.FirstByte.{kind_of}
use Rattle.wire.specs.Layout.{first_wrong}
use Rattle.wire.specs.Message.{allowed, typed, parse_header, read_message}
use Rattle.capture_rules.specs.Place.{message_at}
use Rattle.capture_rules.specs.Reading.{read_up_to, read_all}
use Rattle.capture_export.specs.Words.{sender_of}
use Rattle.capture_export.proofs.Rows.{example}
use Rattle.capture_scan.specs.Scan.{all_words}

-- two messages up to place 19: the sum is 197,914 for the Data and 305,397,763 for the Ping
pub row_all : all_words (sender_of false) example ≡ 10 ∷ 0 ∷ 19 ∷ 2 ∷ 305_595_677 ∷ []
unfolding pick kind_of first_wrong read_message parse_header typed allowed message_at read_up_to read_all all_words
row_all = refl
