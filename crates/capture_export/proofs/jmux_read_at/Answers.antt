-- `jmux_read_at` meets its contract: the words that it leaves are those of what it found, which is the step at the place.
use mathlib.Core.Path.{ap, ◌∙◌}
use Rattle.wire.specs.declared.Role.{Role}
use Rattle.capture_rules.specs.Place.{step_at}
use Rattle.capture_export.specs.Words.{step_words}
use Rattle.capture_export.proofs.jmux_read_at.Goals as goal

pub returns : goal.returns
returns c =
    let a = c.args in
    let from = c.sender.ensures in
    c.found_in-there.ensures ∙ ap step_words (c.read_at.ensures ∙ ap (λ (r : Role). step_at r a.capture.now a.place) from)
