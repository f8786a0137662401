-- A session and a connection with some parts set. Only these definitions and `New` make one from all its parts.
use Rattle.std.specs.Prelude.{ℕ, Bool, List, set, Option}
use Rattle.ration.specs.declared.Ration.{Ration}
use Rattle.state.specs.declared.Sides.{Sides}
use Rattle.state.specs.declared.Outcome.{Outcome}
use Rattle.state.specs.declared.Session.{Session}
use Rattle.state.specs.declared.Stage.{Stage}
use Rattle.state.specs.declared.Connection.{Connection}

-- ---- a session

abbrev pub with_sides : Sides → Session → Session
with_sides z x =
    record { sides = z; outbound = x.outbound; inbound = x.inbound; waiting = x.waiting; finish = x.finish; outcome = x.outcome }

-- the outbound and the inbound ration
abbrev pub with_rations : Ration → Ration → Session → Session
with_rations out in' x =
    record { sides = x.sides; outbound = out; inbound = in'; waiting = x.waiting; finish = x.finish; outcome = x.outcome }

-- how many bytes wait, and whether a finish is asked for
abbrev pub with_waiting : ℕ → Bool → Session → Session
with_waiting n finish x =
    record { sides = x.sides; outbound = x.outbound; inbound = x.inbound; waiting = n; finish = finish; outcome = x.outcome }

abbrev pub with_outcome : Outcome → Session → Session
with_outcome o x =
    record { sides = x.sides; outbound = x.outbound; inbound = x.inbound; waiting = x.waiting; finish = x.finish; outcome = o }

-- ---- a connection

abbrev pub with_sessions : List Session → Connection → Connection
with_sessions xs c = record { sessions = xs; stage = c.stage; over = c.over; own = c.own; last = c.last; ping = c.ping }

-- the session of one number
abbrev pub with_session : ℕ → Session → Connection → Connection
with_session n x c = with_sessions (set c.sessions n x) c

abbrev pub with_stage : Stage → Connection → Connection
with_stage s c = record { sessions = c.sessions; stage = s; over = c.over; own = c.own; last = c.last; ping = c.ping }

abbrev pub with_over : Bool → Connection → Connection
with_over over c = record { sessions = c.sessions; stage = c.stage; over = over; own = c.own; last = c.last; ping = c.ping }

-- the number that a turn served last
abbrev pub with_last : ℕ → Connection → Connection
with_last n c = record { sessions = c.sessions; stage = c.stage; over = c.over; own = c.own; last = n; ping = c.ping }

abbrev pub with_ping : Option ℕ → Connection → Connection
with_ping p c = record { sessions = c.sessions; stage = c.stage; over = c.over; own = c.own; last = c.last; ping = p }
