-- The decision on a received message, from the step of its session.
use Rattle.std.specs.Prelude.{ℕ}
use Rattle.laws.specs.Result.{Result, ok, refused, violation}
use Rattle.wire.specs.declared.Message.{Message}
use Rattle.state.specs.declared.Connection.{Connection}
use Rattle.protocol.specs.Receipt.{Taken}
use Rattle.protocol.specs.Judge.{message, Decision, refuse, accept, setting_session, breach}

abbrev pub judged_by : Connection → Message → ℕ → Result Taken → Decision
judged_by c m n (ok t) = accept (setting_session c n c.last (message m t.late) t)
judged_by c m n (refused k) = refuse k
judged_by c m n (violation f) = breach c f
