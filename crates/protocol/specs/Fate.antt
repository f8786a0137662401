-- What becomes of a client's session, its fate (docs/PROTOCOL.md, "Outcomes"); told from calls, answers and messages.
use Rattle.std.specs.Prelude.{Bool, true, false}
use Rattle.laws.specs.Pick.{pick}
use Rattle.state.specs.declared.Outcome.{Outcome}
use Rattle.state.specs.declared.Outcome.TheVariants as outcome
use Rattle.protocol.specs.Message.{data_of, increment_of, abort_of, close_of, acknowledgment_of}
use Rattle.protocol.specs.Observed.{Event, opens, finishes, aborts, puts, received, wrote, Ends, unused, ends, Seen, finished}
use Rattle.protocol.specs.Asked.{is_unsent}

pub data Fate : Type 0 where
  no_fate running complete may_be_retried must_not_be_retried : Fate

-- the names of the outcomes that a session holds
abbrev pub fate_of : Outcome → Fate
fate_of outcome.None = no_fate
fate_of outcome.Running = running
fate_of outcome.Complete = complete
fate_of outcome.MayRetry = may_be_retried
fate_of outcome.MustNotRetry = must_not_be_retried

-- only a running fate changes
abbrev pub if_running : Fate → Fate → Fate
if_running no_fate new = no_fate
if_running running new = new
if_running complete new = complete
if_running may_be_retried new = may_be_retried
if_running must_not_be_retried new = must_not_be_retried

-- what was sent must not be retried, an open that is unsent may be
abbrev pub unless_unsent : Bool → Fate
unless_unsent true = may_be_retried
unless_unsent false = must_not_be_retried

-- the partial flag of a received Abort decides
abbrev pub by_partial : Bool → Fate
by_partial true = must_not_be_retried
by_partial false = may_be_retried

-- a close flag completes
abbrev pub by_close : Bool → Fate → Fate
by_close true f = if_running f complete
by_close false f = f

-- an open starts it anew, and a session that a server accepts has no fate; `unsent` says whether an open of ours is unsent
abbrev pub fate_after : Bool → Fate → Event → Fate
fate_after unsent f opens = running
fate_after unsent f finishes = f
fate_after unsent f aborts = if_running f (unless_unsent unsent)
fate_after unsent f (puts bytes) = f
fate_after unsent f (received (data_of n true close eof ack)) = no_fate
fate_after unsent f (received (data_of n false close eof ack)) = by_close close f
fate_after unsent f (received (increment_of n)) = f
fate_after unsent f (received (abort_of partial)) = if_running f (by_partial partial)
fate_after unsent f (received close_of) = if_running f complete
fate_after unsent f (received acknowledgment_of) = f
fate_after unsent f (wrote m) = f

-- ---- the end of the connection

pub data Ended : Type 0 where
  not_ended by_shutdown by_error by_own_shutdown by_lost_line : Ended

-- the far end has finished the session that the number last named, and has not terminated it
abbrev pub far_finished : Ends → Bool
far_finished unused = false
far_finished (ends o t) = finished t

-- a Shutdown received: may be retried; an Error received: complete if the far end has finished, otherwise as by a lost line;
-- a lost line: not to be retried if it was sent; our own shutdown changes nothing
abbrev pub fate_ended : Seen → Ended → Fate → Fate
fate_ended v not_ended f = f
fate_ended v by_shutdown f = if_running f may_be_retried
fate_ended v by_error f = if_running f (pick (far_finished v.standing) complete (unless_unsent (is_unsent v.sends)))
fate_ended v by_own_shutdown f = f
fate_ended v by_lost_line f = if_running f (unless_unsent (is_unsent v.sends))
