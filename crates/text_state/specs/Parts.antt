-- The words of the parts of a state, by the script format.
use Rattle.std.specs.Prelude.{ℕ, List, ◌++◌, codes}
use Rattle.ration.specs.declared.Ration.{Ration}
use Rattle.ration.specs.declared.Ration.TheVariants as ration
use Rattle.wire.specs.declared.Role.{Role}
use Rattle.wire.specs.declared.Role.TheVariants as role
use Rattle.state.specs.declared.Outcome.{Outcome}
use Rattle.state.specs.declared.Outcome.TheVariants as outcome
use Rattle.state.specs.declared.Side.{Side}
use Rattle.state.specs.declared.Side.TheVariants as side
use Rattle.state.specs.declared.Sides.{Sides}
use Rattle.state.specs.declared.Sides.TheVariants as sides
use Rattle.std.specs.Fmt.{decimal}

abbrev pub role_text : Role → List ℕ
role_text role.Client = codes " client"
role_text role.Server = codes " server"

abbrev pub side_text : Side → List ℕ
side_text side.Open = codes " open"
side_text side.Finished = codes " finished"
side_text side.Ended = codes " ended"

abbrev pub sides_text : Sides → List ℕ
sides_text sides.Idle = codes " idle none"
sides_text (sides.Opening b) = codes " opening none"
sides_text (sides.Live ours theirs) = side_text ours ++ side_text theirs

abbrev pub outcome_text : Outcome → List ℕ
outcome_text outcome.None = codes " outcome none"
outcome_text outcome.Running = codes " outcome running"
outcome_text outcome.Complete = codes " outcome complete"
outcome_text outcome.MayRetry = codes " outcome retry"
outcome_text outcome.MustNotRetry = codes " outcome no-retry"

abbrev pub ration_text : Ration → List ℕ
ration_text (ration.Finite n) = decimal n
ration_text ration.Endless = codes "endless"
