-- What a local call does to its session, and with which message; or its refusal with 4, 5, 6, 7, 9 or 12.
use Rattle.std.specs.Prelude.{ℕ, ◌-◌, min, Bool, true, false, not, ◌&&◌, ◌||◌, [], ◌∷◌, eqb, ltb}
use Rattle.laws.specs.Pick.{pick}
use Rattle.ration.specs.declared.Ration.{Ration}
use Rattle.ration.specs.declared.Ration.TheVariants as ration
use Rattle.ration.specs.Ration.{grantable, minus}
use Rattle.wire.specs.declared.Role.{Role}
use Rattle.wire.specs.Message.{is_client, is_server}
use Rattle.state.specs.declared.Side.{Side}
use Rattle.state.specs.declared.Side.TheVariants as side
use Rattle.state.specs.declared.Before.{Before}
use Rattle.state.specs.declared.Before.TheVariants as before
use Rattle.state.specs.declared.Sides.{Sides}
use Rattle.state.specs.declared.Sides.TheVariants as sides
use Rattle.state.specs.declared.Outcome.TheVariants as outcome
use Rattle.state.specs.declared.Session.{Session}
use Rattle.protocol.specs.Slot.{slot_size}
use Rattle.protocol.specs.Plan.{Plan, stop, check, take}
use Rattle.protocol.specs.Message.{SessionMessage, data_of, increment_of, abort_of, close_of}
use Rattle.state.specs.With.{with_sides, with_rations, with_waiting, with_outcome}
use Rattle.protocol.specs.Session.{dropped, settled, extended, queued, finishing, after_data}
use Rattle.protocol.specs.Receipt.{Taken}

abbrev pub writing : SessionMessage → Session → Plan Taken
writing m x = take (record { session = x; sent = m ∷ []; late = false })

abbrev pub silently : Session → Plan Taken
silently x = take (record { session = x; sent = []; late = false })

-- ---- open: an idle number, or one whose far side is ended and whose own side is finished or ended

-- an open starts the outcome anew and leaves the rations alone
abbrev pub opened : Before → Session → Session
opened b x = with_outcome outcome.Running (dropped (with_sides (sides.Opening b) x))

abbrev pub open_of : Session → Sides → Plan Taken
open_of x sides.Idle = silently (opened before.Idle x)
open_of x (sides.Opening b) = stop 5
open_of x (sides.Live side.Open theirs) = stop 5
open_of x (sides.Live side.Finished side.Open) = stop 5
open_of x (sides.Live side.Finished side.Finished) = stop 5
open_of x (sides.Live side.Finished side.Ended) = silently (opened before.Finished x)
open_of x (sides.Live side.Ended side.Open) = stop 5
open_of x (sides.Live side.Ended side.Finished) = stop 5
open_of x (sides.Live side.Ended side.Ended) = silently (opened before.Ended x)

unfoldable pub open_ask : Role → Session → Plan Taken
open_ask r x = check (is_server r) 4 (open_of x x.sides)

-- ---- put and finish need our side opening or open, and no finish asked for before

abbrev pub sends : Sides → Bool
sends sides.Idle = false
sends (sides.Opening b) = true
sends (sides.Live side.Open theirs) = true
sends (sides.Live side.Finished theirs) = false
sends (sides.Live side.Ended theirs) = false

-- 6 for more bytes than the slot has left
unfoldable pub put_ask : Session → ℕ → Plan Taken
put_ask x n = check (not (sends x.sides) || x.finish) 5 (check (ltb (slot_size - x.waiting) n) 6 (silently (queued n x)))

unfoldable pub finish_ask : Session → Plan Taken
finish_ask x = check (not (sends x.sides) || x.finish) 5 (silently (finishing x))

-- ---- grant needs our side open or finished, and theirs open

abbrev pub may_grant : Sides → Bool
may_grant sides.Idle = false
may_grant (sides.Opening b) = false
may_grant (sides.Live side.Open side.Open) = true
may_grant (sides.Live side.Open side.Finished) = false
may_grant (sides.Live side.Open side.Ended) = false
may_grant (sides.Live side.Finished side.Open) = true
may_grant (sides.Live side.Finished side.Finished) = false
may_grant (sides.Live side.Finished side.Ended) = false
may_grant (sides.Live side.Ended theirs) = false

-- the amount is 1 to 65,535, and is written unshifted
unfoldable pub grant_ask : Session → ℕ → Plan Taken
grant_ask x n =
    check (not (may_grant x.sides)) 5
    (check (eqb n 0 || ltb 65_535 n) 12 (check (not (grantable x.inbound n)) 7 (writing (increment_of n) (extended n x))))

-- ---- abort needs our side opening, or open or finished with theirs not ended, or theirs ended and ours open

-- the sides before the open
abbrev pub restored : Before → Sides
restored before.Idle = sides.Idle
restored before.Finished = sides.Live side.Finished side.Ended
restored before.Ended = sides.Live side.Ended side.Ended

-- our side ends, and what waited is dropped
abbrev pub aborting : Bool → Side → Session → Plan Taken
aborting partial theirs x =
    writing (abort_of partial) (dropped (with_sides (sides.Live side.Ended theirs) (settled outcome.MustNotRetry x)))

abbrev pub abort_plan : Session → Bool → Sides → Plan Taken
abort_plan x partial sides.Idle = stop 5
abort_plan x partial (sides.Opening b) = silently (dropped (with_sides (restored b) (settled outcome.MayRetry x)))
abort_plan x partial (sides.Live side.Open theirs) = aborting partial theirs x
abort_plan x partial (sides.Live side.Finished side.Open) = aborting partial side.Open x
abort_plan x partial (sides.Live side.Finished side.Finished) = aborting partial side.Finished x
abort_plan x partial (sides.Live side.Finished side.Ended) = stop 5
abort_plan x partial (sides.Live side.Ended theirs) = stop 5

-- 4 for partial from a client
unfoldable pub abort_ask : Role → Session → Bool → Plan Taken
abort_ask r x partial = check (partial && is_client r) 4 (abort_plan x partial x.sides)

-- ---- close (server): own side finished

abbrev pub close_plan : Session → Sides → Plan Taken
close_plan x sides.Idle = stop 5
close_plan x (sides.Opening b) = stop 5
close_plan x (sides.Live side.Open theirs) = stop 5
close_plan x (sides.Live side.Finished theirs) = writing close_of (with_sides (sides.Live side.Ended theirs) x)
close_plan x (sides.Live side.Ended theirs) = stop 5

unfoldable pub close_ask : Role → Session → Plan Taken
close_ask r x = check (is_client r) 4 (close_plan x x.sides)

-- ---- turn

abbrev pub positive : Ration → Bool
positive (ration.Finite n) = ltb 0 n
positive ration.Endless = true

-- bytes wait and the ration is above 0, or none wait and finish was asked for
abbrev pub due : ℕ → Ration → Bool → Bool
due waiting r finish = pick (eqb waiting 0) finish (positive r)

-- ready: opening; or open with bytes waiting and ration above 0; or open with none waiting and finish asked for
abbrev pub ready_in : Session → Sides → Bool
ready_in x sides.Idle = false
ready_in x (sides.Opening b) = true
ready_in x (sides.Live side.Open theirs) = due x.waiting x.outbound x.finish
ready_in x (sides.Live side.Finished theirs) = false
ready_in x (sides.Live side.Ended theirs) = false

unfoldable pub ready_session : Session → Bool
ready_session x = ready_in x x.sides

-- the smaller of waiting and ration
abbrev pub sendable : ℕ → Ration → ℕ
sendable waiting (ration.Finite n) = min waiting n
sendable waiting ration.Endless = waiting

-- eof exactly if finish was asked for and nothing remains
abbrev pub last_data : Session → ℕ → Bool
last_data x n = x.finish && eqb (x.waiting - n) 0

-- a Data message of n bytes is sent: the rations that it leaves, and its flags
abbrev pub sending : Session → Bool → Side → Ration → Ration → ℕ → Plan Taken
sending x opens theirs outbound inbound n =
    writing (data_of n opens false (last_data x n) false)
    (with_sides (sides.Live (after_data false (last_data x n)) theirs)
    (with_rations (minus outbound n) inbound (with_waiting (x.waiting - n) (x.finish && not (last_data x n)) x)))

abbrev pub turn_of : Ration → Ration → Session → Sides → Plan Taken
turn_of own far x sides.Idle = stop 9
turn_of own far x (sides.Opening b) = sending x true side.Open far own (sendable x.waiting far)
turn_of own far x (sides.Live side.Open theirs) =
    check (not (due x.waiting x.outbound x.finish)) 9
    (sending x false theirs x.outbound x.inbound (sendable x.waiting x.outbound))
turn_of own far x (sides.Live side.Finished theirs) = stop 9
turn_of own far x (sides.Live side.Ended theirs) = stop 9

-- `own` and `far` are the starting rations that our header and theirs grant; the message has the open flag if the session is opening
unfoldable pub turn_ask : Ration → Ration → Session → Plan Taken
turn_ask own far x = turn_of own far x x.sides
