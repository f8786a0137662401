-- `ended` meets its contract: each session of the mapped table is one that has ended.
use Rattle.std.proofs.Common.{rules, ◌≡◌, ap, List, length, true}
use Rattle.state.specs.declared.Session.{Session}
use Rattle.state.specs.With.{with_sessions, with_over}
use Rattle.connection.specs.Cause.{cause_as}
use Rattle.protocol.specs.Connection.{ending}
use Rattle.connection.proofs.Tables.{map_of}
use Rattle.connection.proofs.ending.ended.Goals as goal

pub returns : goal.returns
returns c =
    let a = c.args in
    let long : length a.c.sessions ≡ 128 = search rules in
    ap (λ (l : List Session). with_over true (with_sessions l a.c))
    (map_of _ (ending (cause_as a.cause)) _ (λ x y q k. search rules) a.c.sessions c.map.result 128 long c.map.ensures.items)
