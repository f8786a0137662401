-- `flag_of` meets its contract: a test that holds is 1.
use Rattle.std.specs.Prelude.{◌≡◌, Bool, true, false}
use mathlib.Core.Path.{refl, ap, ◌∙◌}
use mir.Val.{bool_byte}
use Rattle.laws.specs.Pick.{pick}
use Rattle.call_turn.specs.Ready.{flag_of}
use Rattle.call_turn.proofs.flags.flag_of.Goals as goal

byte_is : (b : Bool) → bool_byte b ≡ pick b 1 0
unfolding pick
byte_is true = refl
byte_is false = refl

pub returns : goal.returns
unfolding flag_of
returns c = c.from.ensures ∙ ap bool_byte c.ready.ensures ∙ byte_is _
