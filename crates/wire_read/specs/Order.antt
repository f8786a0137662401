-- The order of the numbers for a header whose first byte names a type.
use Rattle.std.specs.Prelude.{ℕ, Bool}
use Rattle.laws.specs.Pick.{pick}
use Rattle.laws.specs.Result.{fault, Result, ok, violation}
use Rattle.wire.specs.declared.Message.{Message}

-- 21 at a place for reserved bits that are not clear, then 23 for the sender, and 24 for its flags
unfoldable pub in_order : Bool → ℕ → Bool → Bool → Message → Result Message
in_order clear place sends flags m =
    pick clear (pick sends (pick flags (ok m) (violation (fault 24 0))) (violation (fault 23 0)))
    (violation (fault 21 place))
