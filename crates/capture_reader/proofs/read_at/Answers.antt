-- `read_at` meets its contract: what a reader there gives, with the place after it.
use Rattle.std.proofs.Common.{ap, ◌∙◌}
use Rattle.laws.specs.Result.{Result}
use Rattle.wire.specs.declared.Message.{Message}
use Rattle.capture_reader.specs.declared.Reader.{Reader}
use Rattle.capture_reader.proofs.Laws.{same_step}
use Rattle.capture_reader.proofs.read_at.Goals as goal

pub returns : goal.returns
returns c =
    let reader : Reader = record { capture = c.args.capture; place = c.args.place } in
    ap (λ (x : Result Message × Reader). (x.0, x.1.place)) c.next-next.ensures ∙ same_step c.args.from reader
