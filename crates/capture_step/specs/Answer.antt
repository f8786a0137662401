-- What a message at a place means, with its size.
use Rattle.std.specs.Prelude as prelude
use Rattle.std.specs.Prelude.{ℕ, Ok, Err}
use Rattle.laws.specs.Result.{Result, ok}
use Rattle.refusal.specs.declared.Failure.{Failure}
use Rattle.wire.specs.declared.Message.{Message}
use Rattle.wire_read.specs.declared.Sized.{Sized}
use Rattle.capture_rules.specs.Place.{next_as}

abbrev pub sized_at_as : prelude.Result Sized Failure → Result Message × ℕ
sized_at_as (Ok s) = (ok s.message, s.size)
sized_at_as (Err f) = (next_as (Err f), 0)
