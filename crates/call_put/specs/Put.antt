-- The result of a put, from its decision: the queue changes only if the put is taken.
use Rattle.std.specs.Prelude.{ℕ, List, []}
use Rattle.state.specs.declared.Connection.{Connection}
use Rattle.protocol.specs.Judge.{Decision}
use Rattle.protocol.specs.Result.{Given, given, if_taken}
use Rattle.call_slots.specs.Slots.{put_into}

abbrev pub putting : Connection → ℕ → ℕ → List ℕ → List ℕ → Decision → Given × List ℕ
putting c n waiting bytes queue d = (given c [] d, if_taken d (λ e. put_into queue n waiting bytes) queue)
