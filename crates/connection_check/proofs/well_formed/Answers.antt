-- `well_formed` meets its contract: the test of the last number served, and then the test of every session.
use Rattle.std.proofs.Common.{rules, tests, ◌∙◌, sym, refl, ap, Bool}
use Rattle.std.specs.Prelude.{◌&&◌}
use Rattle.std.proofs.lemmas.Iterator.{YieldsList-from_slice}
use Rattle.std.proofs.lemmas.Iterator.Search.{all_from_yields_List}
use borrow.Author.Tests.{lt-ltb, le-ltb}
use Rattle.protocol.specs.Connection.{well_formed, session_formed, role_of, exchanged, all_formed}
use Rattle.connection_check.proofs.Tests.{all_is}
use Rattle.connection_check.proofs.well_formed.Goals as goal

pub returns-then-numbered : goal.returns-then-numbered
unfolding well_formed
returns-then-numbered c =
    let a = c.args.c in
    let test = session_formed (role_of a.stage) (exchanged a.stage) in
    all_from_yields_List test _ _ c.all.result c.all.ensures.ran (YieldsList-from_slice a.sessions cc) (λ x b q k. search (rules, tests))
    ∙ all_is (role_of a.stage) (exchanged a.stage) a.sessions
    ∙ ap (λ (b : Bool). b && all_formed (role_of a.stage) (exchanged a.stage) a.sessions) (sym (lt-ltb _ _ c.if-numbered.true))

pub returns-else-numbered : goal.returns-else-numbered
unfolding well_formed
returns-else-numbered c = rw (le-ltb _ _ c.if-numbered.false) refl
