-- A session, seen from one end: its sides, how a message moves the side that sends it, and the ways in which a session changes.
use Rattle.std.specs.Prelude.{ℕ, ◌+◌, Bool, true, false}
use Rattle.ration.specs.Ration.{plus, minus}
use Rattle.state.specs.declared.Side.{Side}
use Rattle.state.specs.declared.Side.TheVariants as side
use Rattle.state.specs.declared.Outcome.{Outcome}
use Rattle.state.specs.declared.Outcome.TheVariants as outcome
use Rattle.state.specs.declared.Session.{Session}
use Rattle.state.specs.With.{with_rations, with_waiting, with_outcome}
use Rattle.protocol.specs.Message.{SessionMessage, data_of, increment_of, abort_of, close_of, acknowledgment_of}

-- ---- a side's movement

-- Data with close ends its sender, Data with eof finishes it
abbrev pub after_data : Bool → Bool → Side
after_data true eof = side.Ended
after_data false true = side.Finished
after_data false false = side.Open

-- how a message other than an open Data moves the side that sends it
pub data Move : Type 0 where
  to : Side → Move
  wrong : Move

-- any message from an ended side is wrong, and so are Data from a finished side, Close from an unfinished one, and an open Data
abbrev pub follow : Side → SessionMessage → Move
follow side.Open (data_of n true close eof ack) = wrong
follow side.Open (data_of n false close eof ack) = to (after_data close eof)
follow side.Open (increment_of n) = to side.Open
follow side.Open (abort_of partial) = to side.Ended
follow side.Open close_of = wrong
follow side.Open acknowledgment_of = to side.Open
follow side.Finished (data_of n opens close eof ack) = wrong
follow side.Finished (increment_of n) = to side.Finished
follow side.Finished (abort_of partial) = to side.Ended
follow side.Finished close_of = to side.Ended
follow side.Finished acknowledgment_of = to side.Finished
follow side.Ended m = wrong

-- ---- outcomes

-- only a running outcome changes
abbrev pub becomes : Outcome → Outcome → Outcome
becomes outcome.None new = outcome.None
becomes outcome.Running new = new
becomes outcome.Complete new = outcome.Complete
becomes outcome.MayRetry new = outcome.MayRetry
becomes outcome.MustNotRetry new = outcome.MustNotRetry

-- ---- the ways in which a session changes

-- nothing waits and no finish is asked for
abbrev pub dropped : Session → Session
dropped x = with_waiting 0 false x

abbrev pub settled : Outcome → Session → Session
settled new x = with_outcome (becomes x.outcome new) x

-- n bytes of the inbound ration are spent
abbrev pub inbound_spent : ℕ → Session → Session
inbound_spent n x = with_rations x.outbound (minus x.inbound n) x

-- the outbound ration has grown by n
abbrev pub incremented : ℕ → Session → Session
incremented n x = with_rations (plus x.outbound n) x.inbound x

-- the inbound ration has grown by n
abbrev pub extended : ℕ → Session → Session
extended n x = with_rations x.outbound (plus x.inbound n) x

-- n more bytes wait
abbrev pub queued : ℕ → Session → Session
queued n x = with_waiting (x.waiting + n) x.finish x

abbrev pub finishing : Session → Session
finishing x = with_waiting x.waiting true x
