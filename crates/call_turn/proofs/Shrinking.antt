-- A turn leaves no more bytes waiting than there were.
use mathlib.Core.Bool.{Bool, true, false, not}
use Prim.Native.Nat.{ℕ}
use native.Mathlib.Omega.{arith}
use Rattle.ration.specs.declared.Ration.{Ration}
use Rattle.state.specs.declared.Session.{Session}
use Rattle.state.specs.declared.Side.{Side}
use Rattle.state.specs.declared.Side.TheVariants as side
use Rattle.state.specs.declared.Sides.{Sides}
use Rattle.state.specs.declared.Sides.TheVariants as sides
use Rattle.protocol.specs.Plan.{check, settle}
use Rattle.protocol.specs.Ask.{due, sendable, sending, turn_of, turn_ask}
use Rattle.session.specs.Step.{to_stepped}
use Rattle.call_turn.specs.Turned.{Shrinks}

checked : (b : Bool) (x : Session) (theirs : Side) (out in' : Ration) (n : ℕ) → Shrinks x.waiting (to_stepped (check b 9 (sending x false theirs out in' n)))
unfolding settle
checked true x theirs out in' n = tt
checked false x theirs out in' n = omega arith

turned : (own far : Ration) (x : Session) (z : Sides) → Shrinks x.waiting (to_stepped (turn_of own far x z))
unfolding settle
turned own far x sides.Idle = tt
turned own far x (sides.Opening b) = omega arith
turned own far x (sides.Live side.Open theirs) =
    checked (not (due x.waiting x.outbound x.finish)) x theirs x.outbound x.inbound (sendable x.waiting x.outbound)
turned own far x (sides.Live side.Finished theirs) = tt
turned own far x (sides.Live side.Ended theirs) = tt

pub turn_shrinks : (own far : Ration) (x : Session) → Shrinks x.waiting (to_stepped (turn_ask own far x))
unfolding turn_ask
turn_shrinks own far x = turned own far x x.sides
