-- What a call decides that takes a step of one session, with 4 bytes of room to write in.
use Rattle.std.specs.Prelude.{ℕ}
use Rattle.laws.specs.Result.{Result}
use Rattle.state.specs.declared.Connection.{Connection}
use Rattle.protocol.specs.Plan.{Plan, take}
use Rattle.protocol.specs.Receipt.{Taken}
use Rattle.protocol.specs.Judge.{Decision, done, setting_session}
use Rattle.protocol.specs.Call.{up_and_running, room_for, number_in}
use Rattle.call_checks.specs.Deciding.{after_checks}

-- the checks of such a call before its own
abbrev pub checks : Connection → ℕ → ℕ → Plan Unit
checks c n room = up_and_running c (room_for 4 room (number_in n (take tt)))

-- the result of the step counts after these checks
abbrev pub stepped_in : Connection → ℕ → ℕ → Result Taken → Decision
stepped_in c n room r = after_checks (checks c n room) (setting_session c n c.last done) r
