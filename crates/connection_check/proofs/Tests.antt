-- The test of every session is the test of a list, session by session.
use mathlib.Core.Path.{◌≡◌, refl, ap}
use mathlib.Core.Bool.{Bool, ◌&&◌}
use mathlib.Core.List.{List, [], ◌∷◌}
use Rattle.std.specs.List.{list_all}
use Rattle.wire.specs.declared.Role.{Role}
use Rattle.state.specs.declared.Session.{Session}
use Rattle.protocol.specs.Connection.{session_formed, all_formed}

pub all_is : (r : Role) (up : Bool) (l : List Session) → list_all (session_formed r up) l ≡ all_formed r up l
unfolding all_formed
all_is r up [] = refl
all_is r up (x ∷ l) = ap (λ (b : Bool). session_formed r up x && b) (all_is r up l)
