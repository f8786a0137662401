-- The words of the current state.
use Rattle.std.specs.Prelude.{ℕ, Bool, true, false, List, [], ◌++◌, Option, Some, None, codes}
use Rattle.ration.specs.declared.Ration.{Ration}
use Rattle.state.specs.declared.Connection.{Connection}
use Rattle.state.specs.declared.Outcome.{Outcome}
use Rattle.state.specs.declared.Outcome.TheVariants as outcome
use Rattle.state.specs.declared.Session.{Session}
use Rattle.state.specs.declared.Side.{Side}
use Rattle.state.specs.declared.Side.TheVariants as side
use Rattle.state.specs.declared.Sides.{Sides}
use Rattle.state.specs.declared.Sides.TheVariants as sides
use Rattle.state.specs.declared.Stage.{Stage}
use Rattle.state.specs.declared.Stage.TheVariants as stage
use Rattle.text_state.specs.Parts.{role_text, sides_text, outcome_text, ration_text}
use Rattle.text_line.specs.Line.{item_text, flag_text}

-- ---- a connection

abbrev pub stage_text : Stage → List ℕ
stage_text (stage.Fresh r) = role_text r ++ codes " fresh"
stage_text stage.Started = codes " client started"
stage_text (stage.Up r far) = role_text r ++ item_text " up " far

abbrev pub ping_text : Option ℕ → List ℕ
ping_text None = codes " ping none"
ping_text (Some cookie) = item_text " ping " cookie

abbrev pub connection_text : Connection → List ℕ
connection_text c = codes "connection" ++ stage_text c.stage ++ flag_text " over" c.over ++ item_text " last " c.last ++ ping_text c.ping

-- ---- a session

abbrev pub waiting_text : ℕ → Bool → List ℕ
waiting_text n finish = item_text " waiting " n ++ flag_text " finish" finish

-- the inbound ration counts if their side is open
abbrev pub in_text : Side → Ration → List ℕ
in_text side.Open r = codes " in " ++ ration_text r
in_text side.Finished r = []
in_text side.Ended r = []

abbrev pub out_text : Ration → List ℕ
out_text r = codes " out " ++ ration_text r

-- what counts of a session with two sides: both rations and what waits if ours is open, the inbound one if it is finished
abbrev pub live_text : Side → Side → Session → List ℕ
live_text side.Open theirs x = out_text x.outbound ++ in_text theirs x.inbound ++ waiting_text x.waiting x.finish
live_text side.Finished theirs x = in_text theirs x.inbound
live_text side.Ended theirs x = []

abbrev pub counts_text : Sides → Session → List ℕ
counts_text sides.Idle x = []
counts_text (sides.Opening b) x = waiting_text x.waiting x.finish
counts_text (sides.Live ours theirs) x = live_text ours theirs x

abbrev pub session_text : ℕ → Session → List ℕ
session_text n x = item_text "session " n ++ sides_text x.sides ++ outcome_text x.outcome ++ counts_text x.sides x

-- ---- which sessions are shown

abbrev pub has_outcome : Outcome → Bool
has_outcome outcome.None = false
has_outcome outcome.Running = true
has_outcome outcome.Complete = true
has_outcome outcome.MayRetry = true
has_outcome outcome.MustNotRetry = true

-- one that is not idle, or has an outcome
abbrev pub shown_by : Sides → Outcome → Bool
shown_by sides.Idle o = has_outcome o
shown_by (sides.Opening b) o = true
shown_by (sides.Live ours theirs) o = true
