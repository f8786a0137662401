-- What each cause of a connection's end means.
use Rattle.protocol.specs.Connection as rule
use Rattle.connection.specs.declared.Cause.{Cause}
use Rattle.connection.specs.declared.Cause.TheVariants as cause

abbrev pub cause_as : Cause → rule.Cause
cause_as cause.ShutdownReceived = rule.shutdown_received
cause_as cause.ErrorReceived = rule.error_received
cause_as cause.OwnShutdown = rule.own_shutdown
cause_as cause.LineLost = rule.line_lost
