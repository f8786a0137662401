-- A session number that was never used, and a connection just made.
use Rattle.std.specs.Prelude.{false, replicate, None}
use Rattle.ration.specs.declared.Ration.TheVariants as ration
use Rattle.state.specs.declared.Sides.TheVariants as sides
use Rattle.state.specs.declared.Outcome.TheVariants as outcome
use Rattle.state.specs.declared.Session.{Session}
use Rattle.state.specs.declared.Stage.TheVariants as stage
use Rattle.state.specs.declared.Connection.{Connection}
use Rattle.state.specs.declared.Setup.{Setup}

-- a number that is idle and was never used
abbrev pub blank : Session
blank =
    record {
      sides = sides.Idle;
      outbound = ration.Finite 0;
      inbound = ration.Finite 0;
      waiting = 0;
      finish = false;
      outcome = outcome.None;
    }

-- a connection just made: number 0 is first in turn
abbrev pub fresh : Setup → Connection
fresh s =
    record {
      sessions = replicate 128 blank;
      stage = stage.Fresh s.role;
      over = false;
      own = s.header;
      last = 127;
      ping = None;
    }
