-- What a received message does to its session, late or not, and with which reply; or its violation, 25, 26 or 27.
use Rattle.std.specs.Prelude.{ℕ, Bool, true, false, not, List, [], ◌∷◌}
use Rattle.ration.specs.declared.Ration.{Ration}
use Rattle.ration.specs.Ration.{allows, in_range, plus, minus}
use Rattle.wire.specs.declared.Role.{Role}
use Rattle.wire.specs.declared.Role.TheVariants as role
use Rattle.wire.specs.Message.{is_server}
use Rattle.state.specs.declared.Side.{Side}
use Rattle.state.specs.declared.Side.TheVariants as side
use Rattle.state.specs.declared.Sides.{Sides}
use Rattle.state.specs.declared.Sides.TheVariants as sides
use Rattle.state.specs.declared.Outcome.{Outcome}
use Rattle.state.specs.declared.Outcome.TheVariants as outcome
use Rattle.state.specs.declared.Session.{Session}
use Rattle.protocol.specs.Plan.{Plan, stop, check, take}
use Rattle.protocol.specs.Message.{SessionMessage, data_of, increment_of, abort_of, close_of, acknowledgment_of}
use Rattle.state.specs.New.{blank}
use Rattle.state.specs.With.{with_sides, with_rations}
use Rattle.protocol.specs.Session.{Move, to, wrong, follow, after_data, dropped, settled, inbound_spent, incremented}

-- the session after the message, the replies, and whether the message was late
pub record Taken : Type 0 where
  pub session : Session
  pub sent : List SessionMessage
  pub late : Bool

abbrev pub quietly : Session → Plan Taken
quietly x = take (record { session = x; sent = []; late = false })

abbrev pub lately : Session → Plan Taken
lately x = take (record { session = x; sent = []; late = true })

-- a reply Abort ends our side and drops what waited; a server's sets partial
abbrev pub replying : Role → Side → Session → Plan Taken
replying r theirs x =
    take (record { session = dropped (with_sides (sides.Live side.Ended theirs) x); sent = abort_of (is_server r) ∷ []; late = false })

-- the outcome after Data: a close flag completes
abbrev pub closed : Bool → Session → Session
closed true x = settled outcome.Complete x
closed false x = x

-- the outcome after an Abort, by its partial flag
abbrev pub aborted : Bool → Outcome
aborted true = outcome.MustNotRetry
aborted false = outcome.MayRetry

-- Data to our ended side is late: it is not counted and not checked for 26; a close flag gets a reply if our side is open
abbrev pub data_to : Role → Session → ℕ → Bool → Side → Side → Plan Taken
data_to r x n close side.Ended theirs = lately (closed close (with_sides (sides.Live side.Ended theirs) x))
data_to r x n close side.Finished theirs =
    check (not (allows x.inbound n)) 26 (quietly (closed close (inbound_spent n (with_sides (sides.Live side.Finished theirs) x))))
data_to r x n true side.Open theirs =
    check (not (allows x.inbound n)) 26 (replying r theirs (settled outcome.Complete (inbound_spent n x)))
data_to r x n false side.Open theirs =
    check (not (allows x.inbound n)) 26 (quietly (inbound_spent n (with_sides (sides.Live side.Open theirs) x)))

-- an increment to our finished or ended side is late and changes nothing
abbrev pub increment_to : Session → ℕ → Side → Side → Plan Taken
increment_to x n side.Open theirs =
    check (not (in_range (plus x.outbound n))) 27 (quietly (incremented n (with_sides (sides.Live side.Open theirs) x)))
increment_to x n side.Finished theirs = lately (with_sides (sides.Live side.Finished theirs) x)
increment_to x n side.Ended theirs = lately (with_sides (sides.Live side.Ended theirs) x)

-- an Abort gets a reply if our side is open, or is a server's finished side
abbrev pub abort_to : Role → Session → Side → Side → Plan Taken
abort_to r x side.Open theirs = replying r theirs x
abort_to role.Client x side.Finished theirs = quietly (with_sides (sides.Live side.Finished theirs) x)
abort_to role.Server x side.Finished theirs = replying role.Server theirs x
abort_to r x side.Ended theirs = quietly (with_sides (sides.Live side.Ended theirs) x)

-- a Close gets a reply if our side is open
abbrev pub close_to : Role → Session → Side → Side → Plan Taken
close_to r x side.Open theirs = replying r theirs x
close_to r x side.Finished theirs = quietly (with_sides (sides.Live side.Finished theirs) x)
close_to r x side.Ended theirs = quietly (with_sides (sides.Live side.Ended theirs) x)

-- a message to our side, with the move of the side that sent it
abbrev pub arriving : Role → Session → SessionMessage → Side → Move → Plan Taken
arriving r x m ours wrong = stop 25
arriving r x (data_of n opens close eof ack) ours (to theirs) = data_to r x n close ours theirs
arriving r x (increment_of n) ours (to theirs) = increment_to x n ours theirs
arriving r x (abort_of partial) ours (to theirs) = abort_to r (settled (aborted partial) x) ours theirs
arriving r x close_of ours (to theirs) = close_to r (settled outcome.Complete x) ours theirs
arriving r x acknowledgment_of ours (to theirs) = quietly (with_sides (sides.Live ours theirs) x)

-- a message other than an open Data for an idle or opening number is in the wrong state
abbrev pub other : Role → Session → SessionMessage → Sides → Plan Taken
other r x m sides.Idle = stop 25
other r x m (sides.Opening b) = stop 25
other r x m (sides.Live ours theirs) = arriving r x m ours (follow theirs m)

-- a server accepts an open for an idle number, or one whose own side is ended and whose far side is finished or ended
abbrev pub acceptable : Sides → Bool
acceptable sides.Idle = true
acceptable (sides.Opening b) = false
acceptable (sides.Live side.Open theirs) = false
acceptable (sides.Live side.Finished theirs) = false
acceptable (sides.Live side.Ended side.Open) = false
acceptable (sides.Live side.Ended side.Finished) = true
acceptable (sides.Live side.Ended side.Ended) = true

-- a session just accepted: both rations are set from the headers, then the length is spent; nothing of the earlier session is kept
abbrev pub accepted : Ration → Ration → ℕ → Bool → Bool → Session
accepted own far n close eof =
    with_sides (sides.Live side.Open (after_data close eof)) (with_rations far (minus own n) blank)

-- `own` and `far` are the starting rations that our header and theirs grant
unfoldable pub receipt : Role → Ration → Ration → Session → SessionMessage → Plan Taken
receipt r own far x (data_of n true close eof ack) =
    check (not (acceptable x.sides)) 25 (check (not (allows own n)) 26 (quietly (accepted own far n close eof)))
receipt r own far x (data_of n false close eof ack) = other r x (data_of n false close eof ack) x.sides
receipt r own far x (increment_of n) = other r x (increment_of n) x.sides
receipt r own far x (abort_of partial) = other r x (abort_of partial) x.sides
receipt r own far x close_of = other r x close_of x.sides
receipt r own far x acknowledgment_of = other r x acknowledgment_of x.sides
