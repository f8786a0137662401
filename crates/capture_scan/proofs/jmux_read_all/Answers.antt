-- `jmux_read_all` meets its contract: the words that it leaves are those of the tally of all messages.
use Rattle.std.proofs.Common.{ap, ◌∙◌}
use Rattle.wire.specs.declared.Role.{Role}
use Rattle.capture_scan.specs.Scan.{all_words}
use Rattle.capture_scan.proofs.Tallies.{tally_words, whole_words}
use Rattle.capture_scan.proofs.jmux_read_all.Goals as goal

pub returns : goal.returns
returns c =
    let s = c.args.capture.now in
    ap tally_words c.tally_all-tally.ensures ∙ whole_words _ s ∙ ap (λ (from : Role). all_words from s) c.sender.ensures
