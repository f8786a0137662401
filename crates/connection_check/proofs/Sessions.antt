-- What holds of a well-formed connection: no more bytes wait for a number than a slot holds.
use mathlib.Core.Path.{◌≡◌}
use mathlib.Core.Bool.{Bool, true, not, ◌&&◌}
use mathlib.Core.List.{List, [], ◌∷◌}
use Prim.Native.Nat.{ℕ, zero, suc, ◌≤◌}
use native.Mathlib.Omega.{arith}
use lib.ListN.{get_or}
use lib.Dec.{eqb, ltb, leb}
use borrow.Author.Tests.{leb-true}
use Rattle.laws.proofs.Tests.{and_first, and_second}
use Rattle.ration.specs.Ration.{in_range}
use Rattle.wire.specs.declared.Role.{Role}
use Rattle.wire.specs.Message.{only_if}
use Rattle.state.specs.declared.Session.{Session}
use Rattle.state.specs.declared.Connection.{Connection}
use Rattle.protocol.specs.Slot.{slot_size}
use Rattle.state.specs.New.{blank}
use Rattle.protocol.specs.Ask.{sends}
use Rattle.protocol.specs.Connection.{at, role_of, exchanged, placed, session_formed, all_formed, well_formed}

-- the third test of a well formed session
session_fits : (r : Role) (up : Bool) (x : Session) → session_formed r up x ≡ true → x.waiting ≤ slot_size
unfolding session_formed
session_fits r up x e =
    let A = in_range x.outbound && in_range x.inbound in
    let C = leb x.waiting slot_size in
    let D = only_if (not (sends x.sides)) (eqb x.waiting 0) in
    let E = only_if x.finish (sends x.sides) in
    let F = placed r up x.sides in
    leb-true _ _ (and_second A C (and_first (A && C) D (and_first (A && C && D) E (and_first (A && C && D && E) F e))))

each_fits : (r : Role) (up : Bool) (l : List Session) (n : ℕ) → all_formed r up l ≡ true → (get_or l n blank).waiting ≤ slot_size
unfolding all_formed
each_fits r up [] n e = omega arith
each_fits r up (x ∷ l) zero e = session_fits r up x (and_first (session_formed r up x) (all_formed r up l) e)
each_fits r up (x ∷ l) (suc n) e = each_fits r up l n (and_second (session_formed r up x) (all_formed r up l) e)

pub waiting_fits_lem : (c : Connection) (n : ℕ) → well_formed c ≡ true → (at c n).waiting ≤ slot_size
unfolding well_formed
waiting_fits_lem c n e =
    each_fits (role_of c.stage) (exchanged c.stage) c.sessions n
    (and_second (ltb c.last 128) (all_formed (role_of c.stage) (exchanged c.stage) c.sessions) e)
