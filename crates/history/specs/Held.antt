-- What a state of a run holds, in the words of what a log tells.
use Rattle.std.specs.Prelude.{ℕ}
use Rattle.state.specs.declared.Connection.{Connection}
use Rattle.protocol.specs.Queue.{slot}
use Rattle.protocol.specs.Connection.{at, far_start}
use Rattle.protocol.specs.Observed.{Seen}
use Rattle.protocol.specs.Held.{look, greeting_of, pinging_of}
use Rattle.history.specs.Log.{State}
use Rattle.history.specs.Meaning.{Line}
use Rattle.history.specs.Account.{Account}

abbrev pub line_of : Connection → Line
line_of c = record { over = c.over; greeting = greeting_of c.stage; pinging = pinging_of c.ping }

-- what it holds of a number
abbrev pub holds : State → ℕ → Seen
holds s n = look (far_start s.connection) (at s.connection n) (slot n s.queue)

abbrev pub account_of : State → ℕ → Account
account_of s n = record { line = line_of s.connection; seen = holds s n }
