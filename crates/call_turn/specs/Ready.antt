-- The flag of a session: 1 if it is ready.
use Rattle.std.specs.Prelude.{ℕ}
use Rattle.laws.specs.Pick.{pick}
use Rattle.state.specs.declared.Session.{Session}
use Rattle.protocol.specs.Ask.{ready_session}

unfoldable pub flag_of : Session → ℕ
flag_of x = pick (ready_session x) 1 0
