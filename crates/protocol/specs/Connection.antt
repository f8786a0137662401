-- One end of a connection: its parts, when it is well formed, and how it ends.
use Rattle.std.specs.Prelude.{ℕ, Bool, true, false, not, ◌&&◌, List, [], ◌∷◌, map, get_or, eqb, ltb, leb}
use Rattle.ration.specs.declared.Ration.{Ration}
use Rattle.ration.specs.Ration.{from_header, in_range}
use Rattle.wire.specs.declared.Role.{Role}
use Rattle.wire.specs.declared.Role.TheVariants as role
use Rattle.wire.specs.Message.{is_client, only_if}
use Rattle.state.specs.declared.Side.TheVariants as side
use Rattle.state.specs.declared.Sides.{Sides}
use Rattle.state.specs.declared.Sides.TheVariants as sides
use Rattle.state.specs.declared.Outcome.{Outcome}
use Rattle.state.specs.declared.Outcome.TheVariants as outcome
use Rattle.state.specs.declared.Session.{Session}
use Rattle.state.specs.declared.Stage.{Stage}
use Rattle.state.specs.declared.Stage.TheVariants as stage
use Rattle.state.specs.declared.Connection.{Connection}
use Rattle.state.specs.With.{with_sessions, with_over}
use Rattle.protocol.specs.Slot.{slot_size}
use Rattle.state.specs.New.{blank}
use Rattle.protocol.specs.Session.{settled}
use Rattle.protocol.specs.Ask.{sends}

-- the session of a number
abbrev pub at : Connection → ℕ → Session
at c n = get_or c.sessions n blank

abbrev pub other_end : Role → Role
other_end role.Client = role.Server
other_end role.Server = role.Client

abbrev pub role_of : Stage → Role
role_of (stage.Fresh r) = r
role_of stage.Started = role.Client
role_of (stage.Up r far) = r

-- the headers are exchanged
abbrev pub exchanged : Stage → Bool
exchanged (stage.Fresh r) = false
exchanged stage.Started = false
exchanged (stage.Up r far) = true

-- the starting rations that our header and the far one grant
abbrev pub own_start : Connection → Ration
own_start c = from_header c.own

abbrev pub far_number : Stage → ℕ
far_number (stage.Fresh r) = 0
far_number stage.Started = 0
far_number (stage.Up r far) = far

abbrev pub far_start : Connection → Ration
far_start c = from_header (far_number c.stage)

-- ---- well formed

-- at most a slot of bytes waits
abbrev pub waiting_fits : Session → Bool
waiting_fits x = leb x.waiting slot_size

-- no bytes wait unless our side is opening or open
abbrev pub waiting_placed : Session → Bool
waiting_placed x = only_if (not (sends x.sides)) (eqb x.waiting 0)

-- finish is asked for only while our side is opening or open
abbrev pub finish_placed : Session → Bool
finish_placed x = only_if x.finish (sends x.sides)

-- no opening at a server, and all numbers idle before the headers
abbrev pub placed : Role → Bool → Sides → Bool
placed r up sides.Idle = true
placed r up (sides.Opening b) = is_client r && up
placed r up (sides.Live ours theirs) = up

-- finite rations in range, and the items above
unfoldable pub session_formed : Role → Bool → Session → Bool
session_formed r up x =
    in_range x.outbound && in_range x.inbound && waiting_fits x && waiting_placed x && finish_placed x && placed r up x.sides

unfoldable pub all_formed : Role → Bool → List Session → Bool
all_formed r up [] = true
all_formed r up (x ∷ xs) = session_formed r up x && all_formed r up xs

-- the number served last is at most 127, and all sessions are well formed
unfoldable pub well_formed : Connection → Bool
well_formed c = ltb c.last 128 && all_formed (role_of c.stage) (exchanged c.stage) c.sessions

-- ---- how a connection ends

pub data Cause : Type 0 where
  shutdown_received error_received own_shutdown line_lost : Cause

-- a lost line: a session that was sent must not be retried, an opening may be; in a run no idle number has a running outcome
abbrev pub unless_sent : Sides → Outcome
unless_sent sides.Idle = outcome.MustNotRetry
unless_sent (sides.Opening b) = outcome.MayRetry
unless_sent (sides.Live ours theirs) = outcome.MustNotRetry

-- an Error received: a session whose far side is finished is complete, the others are as with a lost line
abbrev pub unless_finished : Sides → Outcome
unless_finished sides.Idle = unless_sent sides.Idle
unless_finished (sides.Opening b) = unless_sent (sides.Opening b)
unless_finished (sides.Live ours side.Open) = unless_sent (sides.Live ours side.Open)
unless_finished (sides.Live ours side.Finished) = outcome.Complete
unless_finished (sides.Live ours side.Ended) = unless_sent (sides.Live ours side.Ended)

-- what becomes of a session that runs when the connection ends
abbrev pub ending : Cause → Session → Session
ending shutdown_received x = settled outcome.MayRetry x
ending error_received x = settled (unless_finished x.sides) x
ending own_shutdown x = x
ending line_lost x = settled (unless_sent x.sides) x

-- the connection is over; nothing else changes except outcomes
abbrev pub ended : Cause → Connection → Connection
ended cause c = with_over true (with_sessions (map (ending cause) c.sessions) c)
