-- The seven words of a place in numbers, each kind of flag and of refusal once.
use mathlib.Core.Path.{◌≡◌, refl}
use mathlib.Core.Bool.{true, false}
use mathlib.Core.List.{List, [], ◌∷◌}
use Prim.Native.Nat.{ℕ}
use Rattle.laws.specs.Pick.{pick}
use Rattle.wire.specs.FirstByte.{kind_of}
use Rattle.wire.specs.Layout.{first_wrong}
use Rattle.wire.specs.Message.{allowed, typed, parse_header, read_message}
use Rattle.capture_rules.specs.Place.{message_at, step_at}
use Rattle.capture_export.specs.Words.{sender_of, step_words}

-- the capture of docs/CAPTURES.md: a header, a Data that opens session 5, and a Ping
abbrev pub example : List ℕ
example = 0x4A ∷ 0x6D ∷ 0x75 ∷ 0x78 ∷ 1 ∷ 0 ∷ 4 ∷ 0 ∷ 0x90 ∷ 5 ∷ 0 ∷ 3 ∷ 97 ∷ 98 ∷ 99 ∷ 4 ∷ 0 ∷ 0x12 ∷ 0x34 ∷ []

-- Data that opens session 5 with 3 bytes
pub row_data : step_words (step_at (sender_of false) example 8) ≡ 0 ∷ 0 ∷ 15 ∷ 10 ∷ 1 ∷ 5 ∷ 3 ∷ []
unfolding pick kind_of first_wrong read_message parse_header typed allowed message_at step_at
row_data = refl

-- nothing behind the last message: 10
pub row_end : step_words (step_at (sender_of false) example 19) ≡ 10 ∷ 0 ∷ 19 ∷ 0 ∷ 0 ∷ 0 ∷ 0 ∷ []
unfolding pick kind_of first_wrong read_message parse_header typed allowed message_at step_at
row_end = refl

-- the same Data from the server: 24 at byte 0
pub row_sender : step_words (step_at (sender_of true) example 8) ≡ 24 ∷ 0 ∷ 8 ∷ 0 ∷ 0 ∷ 0 ∷ 0 ∷ []
unfolding pick kind_of first_wrong read_message parse_header typed allowed message_at step_at
row_sender = refl

-- close, eof and ackRequired
pub row_flags : step_words (step_at (sender_of true) (0x8E ∷ 6 ∷ 0 ∷ 0 ∷ []) 0) ≡ 0 ∷ 0 ∷ 4 ∷ 10 ∷ 14 ∷ 6 ∷ 0 ∷ []
unfolding pick kind_of first_wrong read_message parse_header typed allowed message_at step_at
row_flags = refl

-- eof alone
pub row_eof : step_words (step_at (sender_of true) (0x84 ∷ 6 ∷ 0 ∷ 0 ∷ []) 0) ≡ 0 ∷ 0 ∷ 4 ∷ 10 ∷ 4 ∷ 6 ∷ 0 ∷ []
unfolding pick kind_of first_wrong read_message parse_header typed allowed message_at step_at
row_eof = refl

-- close and eof
pub row_close : step_words (step_at (sender_of true) (0x8C ∷ 6 ∷ 0 ∷ 0 ∷ []) 0) ≡ 0 ∷ 0 ∷ 4 ∷ 10 ∷ 6 ∷ 6 ∷ 0 ∷ []
unfolding pick kind_of first_wrong read_message parse_header typed allowed message_at step_at
row_close = refl

-- an IncrementRation with the largest shift
pub row_shift : step_words (step_at (sender_of false) (0x1E ∷ 6 ∷ 0 ∷ 1 ∷ []) 0) ≡ 0 ∷ 0 ∷ 4 ∷ 6 ∷ 7 ∷ 6 ∷ 1 ∷ []
unfolding pick kind_of first_wrong read_message parse_header typed allowed message_at step_at
row_shift = refl

-- a partial Abort with a detail of 1 byte
pub row_partial : step_words (step_at (sender_of true) (0x22 ∷ 6 ∷ 0 ∷ 1 ∷ 9 ∷ []) 0) ≡ 0 ∷ 0 ∷ 5 ∷ 7 ∷ 1 ∷ 6 ∷ 1 ∷ []
unfolding pick kind_of first_wrong read_message parse_header typed allowed message_at step_at
row_partial = refl

-- a Close whose byte 2 is not 0: 21 at byte 2
pub row_fault : step_words (step_at (sender_of true) (0 ∷ 0x30 ∷ 6 ∷ 1 ∷ 0 ∷ []) 1) ≡ 21 ∷ 2 ∷ 1 ∷ 0 ∷ 0 ∷ 0 ∷ 0 ∷ []
unfolding pick kind_of first_wrong read_message parse_header typed allowed message_at step_at
row_fault = refl

-- a place past the end: 14
pub row_past : step_words (step_at (sender_of true) (0 ∷ []) 2) ≡ 14 ∷ 0 ∷ 2 ∷ 0 ∷ 0 ∷ 0 ∷ 0 ∷ []
unfolding pick kind_of first_wrong read_message parse_header typed allowed message_at step_at
row_past = refl
