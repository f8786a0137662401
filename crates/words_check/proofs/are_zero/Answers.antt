-- `are_zero` meets its contract: what holds of each word holds of their list.
use Rattle.std.proofs.Common.{rules, ◌≡◌, ◌↔◌, IsTrue, EachIndex, slice_index}
use Rattle.words_check.proofs.Formed.{zero_is}
use Rattle.words_check.proofs.are_zero.Goals as goal

pub returns : goal.returns
returns c =
    let ws = c.args.words.now in
    let e : IsTrue c.all.result ↔ EachIndex c.args.words.now (λ k. slice_index c.args.words.now k ≡ 0) = search rules in
    zero_is c.all.result ws e
