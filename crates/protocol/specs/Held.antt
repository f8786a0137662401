-- What the state holds of a session number and of the connection, in the words of what is observed of them.
use Rattle.std.specs.Prelude.{ℕ, Bool, true, false, List, take, Option, Some, None}
use Rattle.ration.specs.declared.Ration.{Ration}
use Rattle.state.specs.declared.Side.TheVariants as side
use Rattle.state.specs.declared.Before.TheVariants as before
use Rattle.state.specs.declared.Sides.{Sides}
use Rattle.state.specs.declared.Sides.TheVariants as sides
use Rattle.state.specs.declared.Session.{Session}
use Rattle.state.specs.declared.Stage.{Stage}
use Rattle.state.specs.declared.Stage.TheVariants as stage
use Rattle.protocol.specs.Observed.{Greeting, no_header, own_header, both_headers, Pinging, no_ping, pinged, Sending, silent, sending, Ends, unused, ends, Seen}

-- ---- about a session number

-- an opening keeps the ends of the session before it
abbrev pub ends_of : Sides → Ends
ends_of sides.Idle = unused
ends_of (sides.Opening before.Idle) = unused
ends_of (sides.Opening before.Finished) = ends side.Finished side.Ended
ends_of (sides.Opening before.Ended) = ends side.Ended side.Ended
ends_of (sides.Live o t) = ends o t

-- an unsent opening has the start that the far header grants
abbrev pub sends_of : Ration → Sides → List ℕ → Ration → Bool → Sending
sends_of far sides.Idle waiting r finish = silent
sends_of far (sides.Opening b) waiting r finish = sending true waiting far finish
sends_of far (sides.Live side.Open t) waiting r finish = sending false waiting r finish
sends_of far (sides.Live side.Finished t) waiting r finish = silent
sends_of far (sides.Live side.Ended t) waiting r finish = silent

-- the session x, whose slot holds the bytes s
abbrev pub look : Ration → Session → List ℕ → Seen
look far x s =
    record {
      standing = ends_of x.sides;
      sends = sends_of far x.sides (take x.waiting s) x.outbound x.finish;
      inbound = x.inbound;
    }

-- ---- about the connection

abbrev pub greeting_of : Stage → Greeting
greeting_of (stage.Fresh r) = no_header
greeting_of stage.Started = own_header
greeting_of (stage.Up r far) = both_headers far

abbrev pub pinging_of : Option ℕ → Pinging
pinging_of None = no_ping
pinging_of (Some k) = pinged k
