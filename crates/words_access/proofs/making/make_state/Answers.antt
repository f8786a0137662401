-- `make_state` meets its contract: zeros, and the three words that are not zero.
use Rattle.std.proofs.Common.{◌≡◌, ℕ, refl, ap, ◌∙◌, set, replicate, rules}
use Rattle.state.specs.declared.Setup.{Setup}
use Rattle.state.specs.declared.Stage.TheVariants as stage
use Rattle.state.specs.New.{fresh}
use Rattle.words.specs.Session.{status_word}
use Rattle.words.specs.State.{stage_at, own_at, last_at, word_count, stage_number, words_of}
use Rattle.words_access.proofs.making.make_state.Goals as goal

-- on zeros these are the words of a connection just made
made : (s : Setup) → set (set (set (replicate word_count 0) stage_at (stage_number (stage.Fresh s.role))) own_at s.header) last_at 127 ≡ words_of (fresh s)
unfolding words_of status_word
made s = refl

pub returns : goal.returns
returns c =
    let zeros : c.fill.new.self ≡ replicate word_count 0 = c.fill.ensures.after (λ y e. search rules) ∙ ap (λ (n : ℕ). replicate n 0) c.told-state in
    rw (c.stage_number.ensures, c.from.ensures, zeros) (made c.args.setup)
