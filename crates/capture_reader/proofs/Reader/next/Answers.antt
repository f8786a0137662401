-- `Reader::next` meets its contract: what `next_at` tells of the reader's place is what the reader gives, and where it then is.
use Rattle.std.proofs.Common.{ℕ, ap}
use Rattle.laws.specs.Result.{Result}
use Rattle.wire.specs.declared.Message.{Message}
use Rattle.capture_rules.specs.Place.{step_at}
use Rattle.capture_reader.specs.declared.Reader.{Reader}
use Rattle.capture_reader.proofs.Reader.next.Goals as goal

pub returns : goal.returns
unfolding step_at
returns c =
    let moved : ℕ → Reader = λ n. record { capture = c.args.self.now.capture; place = n } in
    ap (λ (x : Result Message × ℕ). (x.0, moved x.1)) c.next_at-step.ensures
