-- A ration allows the smaller of it and what waits, so that it is spent.
use mathlib.Core.Path.{◌≡◌, refl}
use Prim.Native.Nat.{ℕ, min}
use native.Mathlib.Omega.{arith}
use borrow.Author.Tests.{le-leb}
use Rattle.std.specs.Prelude.{Some}
use Rattle.ration.specs.declared.Ration.{Ration}
use Rattle.ration.specs.declared.Ration.TheVariants.{Finite, Endless}
use Rattle.ration.specs.Ration.{minus, spend}
use Rattle.ration.proofs.Laws.{spend_allowed}
use Rattle.protocol.specs.Ask.{sendable}

pub spend_sendable : (w : ℕ) (r : Ration) → spend r (sendable w r) ≡ Some (minus r (sendable w r))
spend_sendable w (Finite n) = spend_allowed (Finite n) (min w n) (le-leb (min w n) n (omega arith))
spend_sendable w Endless = spend_allowed Endless w refl
