-- `following` meets its contract: the sum fits 16 bits and the remainder 8.
use mathlib.Core.Path.{refl}
use Rattle.laws.specs.Circle.{following}
use Rattle.call_search.proofs.following.Goals as goal

pub returns : goal.returns
unfolding following
returns c = refl
