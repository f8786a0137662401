-- `read_first` meets its contract: what a reader there gives, with the place after it.
use Rattle.std.proofs.Common.{ap, ◌∙◌}
use Rattle.laws.specs.Result.{Result}
use Rattle.wire.specs.declared.Message.{Message}
use Rattle.capture_rules.specs.Place.{step_at}
use Rattle.capture_reader.specs.declared.Reader.{Reader}
use Rattle.capture_reader.proofs.Laws.{same_step}
use Rattle.capture_reader.proofs.read_first.Goals as goal

pub returns : goal.returns
returns c =
    ap (λ (x : Result Message × Reader). (x.0, x.1.place)) c.next-next.ensures
    ∙ same_step c.args.from c.new-reader.result
    ∙ ap (λ (r : Reader). step_at c.args.from r.capture.now r.place) c.new-reader.ensures
