-- What a well-formed state is, item by item, in numbers and cases: finite rations in range, waiting at most 512 and 0 unless our side
-- is opening or open, finish asked only there, last served at most 127, no opening at a server, all numbers idle before the headers.
use Rattle.std.specs.Prelude.{ℕ, ◌≤◌, ◌<◌, ◌≡◌, false, length, get_or}
use Rattle.ration.specs.declared.Ration.TheVariants as ration
use Rattle.wire.specs.declared.Role.{Role}
use Rattle.wire.specs.declared.Role.TheVariants as role
use Rattle.state.specs.declared.Side.TheVariants as side
use Rattle.state.specs.declared.Before.{Before}
use Rattle.state.specs.declared.Sides.{Sides}
use Rattle.state.specs.declared.Sides.TheVariants as sides
use Rattle.state.specs.declared.Session.{Session}
use Rattle.state.specs.declared.Stage.{Stage}
use Rattle.state.specs.declared.Stage.TheVariants as stage
use Rattle.state.specs.declared.Connection.{Connection}
use Rattle.state.specs.New.{blank}

-- what must hold of a number unless our side is opening or open
abbrev pub Unless : Sides → Type 0 → Type 0
Unless sides.Idle item = item
Unless (sides.Opening b) item = Unit {0}
Unless (sides.Live side.Open theirs) item = Unit {0}
Unless (sides.Live side.Finished theirs) item = item
Unless (sides.Live side.Ended theirs) item = item

-- the items of one session number; before the headers the stage is `Fresh`, or at a client `Started`
pub record SessionItems (st : Stage) (x : Session) : Type 0 where
  pub outbound : (left : ℕ) → x.outbound ≡ ration.Finite left → left ≤ 2_147_483_647
  pub inbound : (left : ℕ) → x.inbound ≡ ration.Finite left → left ≤ 2_147_483_647
  pub waiting : x.waiting ≤ 512
  pub none_waits : Unless x.sides (x.waiting ≡ 0)
  pub no_finish : Unless x.sides (x.finish ≡ false)
  pub no_opening : (far : ℕ) (b : Before) → st ≡ stage.Up role.Server far → x.sides ≡ sides.Opening b → ⊥
  pub idle_fresh : (r : Role) → st ≡ stage.Fresh r → x.sides ≡ sides.Idle
  pub idle_started : st ≡ stage.Started → x.sides ≡ sides.Idle

-- the items of a connection: last served, and every number of its table
pub record Items (c : Connection) : Type 0 where
  pub last : c.last ≤ 127
  pub each : (n : ℕ) → n < length c.sessions → SessionItems c.stage (get_or c.sessions n blank)
