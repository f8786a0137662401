-- The result of a turn, from its decision: what the call gives, the queue and the room.
use Rattle.std.specs.Prelude.{ℕ, ◌≤◌, List}
use Rattle.state.specs.declared.Session.{Session}
use Rattle.state.specs.declared.Connection.{Connection}
use Rattle.state.specs.With.{with_session, with_last}
use Rattle.laws.specs.Result.{Result, ok, refused, violation}
use Rattle.protocol.specs.Receipt.{Taken}
use Rattle.protocol.specs.Judge.{Decision}
use Rattle.laws.specs.Room.{overlaid}
use Rattle.protocol.specs.Result.{Given, given, if_taken, turned, turn_payload, written_by}

-- the connection with another session for the number that is served, which is now the number served last
abbrev pub with_served : Connection → ℕ → Session → Connection
with_served c n x = with_last n (with_session n x c)

-- a step that is taken leaves no more bytes waiting
abbrev pub Shrinks : ℕ → Result Taken → Type 0
Shrinks waiting (ok t) = t.session.waiting ≤ waiting
Shrinks waiting (refused k) = Unit {0}
Shrinks waiting (violation f) = Unit {0}

abbrev pub turn_gives : Connection → List ℕ → List ℕ → Decision → Given × List ℕ × List ℕ
turn_gives c queue room d =
    (given c (turn_payload queue d) d, if_taken d (turned c queue) queue, overlaid (written_by (turn_payload queue d) d) room)
