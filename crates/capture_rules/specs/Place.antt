-- What is at a place of a capture, and the place to read on from.
use Rattle.std.specs.Prelude as prelude
use Rattle.std.specs.Prelude.{ℕ, ◌+◌, List, length, drop, ltb, Ok, Err}
use Rattle.laws.specs.Pick.{pick}
use Rattle.laws.specs.Result.{Result, ok, refused, violation}
use Rattle.refusal.specs.Number.{refusal_number, fault_as}
use Rattle.refusal.specs.declared.Failure.{Failure}
use Rattle.refusal.specs.declared.Failure.TheVariants.{Refused, Violated}
use Rattle.wire.specs.declared.Role.{Role}
use Rattle.wire.specs.declared.Message.{Message}
use Rattle.wire.specs.Message.{body_length, read_message}
use Rattle.capture_rules.specs.declared.Step.{Step}

-- 14 for a place past the end, else what the message reader says about the bytes from there on
unfoldable pub message_at : Role → List ℕ → ℕ → Result Message
message_at from capture place = pick (ltb (length capture) place) (refused 14) (read_message from (drop place capture))

-- the place after a message that was read at a place; a refusal keeps its place
abbrev pub place_after : ℕ → Result Message → ℕ
place_after place (ok m) = place + 4 + body_length m
place_after place (refused n) = place
place_after place (violation f) = place

-- what is at a place, and the place to read on from
unfoldable pub step_at : Role → List ℕ → ℕ → Result Message × ℕ
step_at from capture place = (message_at from capture place, place_after place (message_at from capture place))

-- what each answer means, in the numbers and values of docs/PROTOCOL.md, "Captures"
abbrev pub next_as : prelude.Result Message Failure → Result Message
next_as (Ok m) = ok m
next_as (Err (Refused r)) = refused (refusal_number r)
next_as (Err (Violated f)) = violation (fault_as f)

abbrev pub step_as : Step → Result Message × ℕ
step_as s = (next_as s.next, s.place)
