-- The numbers at a place of a capture: 0 stands for a message, 1 to 19 are refusals, and violations are from 20 up.
use mathlib.Core.Bool.{Bool, true, false}
use mathlib.Core.List.{List}
use Prim.Native.Nat.{ℕ, ◌≤◌, ◌<◌}
use native.Mathlib.Omega.{arith}
use lib.Dec.{ltb}
use lib.ListN.{length, drop}
use borrow.Author.Tests.{leb-true}
use Rattle.laws.specs.Pick.{pick}
use Rattle.laws.specs.Result.{Result, ok, refused, violation}
use Rattle.wire.specs.declared.Role.{Role}
use Rattle.wire.specs.declared.Message.{Message}
use Rattle.wire.specs.Message.{read_message}
use Rattle.wire.proofs.Bounds.{ShortOnly, message_short}
use Rattle.capture_rules.specs.Place.{message_at}

abbrev pub InRange : Result Message → Type 0
InRange (ok m) = Unit {0}
InRange (refused n) = (0 < n) × (n < 20)
InRange (violation f) = 20 ≤ f.number

pub in_range_lem : (from : Role) (s : List ℕ) (place : ℕ) → InRange (message_at from s place)
unfolding message_at pick
in_range_lem from s place = go (ltb (length s) place) (read_message from (drop place s)) (message_short from (drop place s))
  where
    go : (b : Bool) (r : Result Message) → ShortOnly r → InRange (pick b (refused 14) r)
    go true r h = (omega arith, omega arith)
    go false (ok m) h = tt
    go false (refused n) h = (omega arith, omega arith)
    go false (violation f) h = leb-true 20 f.number h
