-- `head_fits` meets its contract where all words before the spare ones fit: these are the words up to the end.
use Rattle.std.proofs.Common.{◌≡◌, get_or, ltb, ap, sym, ◌∙◌, true, lt-ltb, le-ltb}
use Rattle.laws.proofs.Tests.{true_false}
use Rattle.words.specs.State.{head_in_range, all_zero, stage_cases, numbers16, ping_cases, stage_at, over_at, own_at, ping_at}
use Rattle.words_check.proofs.Formed.{spare_is}
use Rattle.words_check.proofs.head_fits.Goals as goal
use Rattle.words_check.proofs.head_fits.Goals.{then-state-lt-STAGE_CASES, else-state-lt-STAGE_CASES, then-state-lt2, else-state-lt2, then-state-lt-NUMBERS16, else-state-lt-NUMBERS16}

pub returns-then-state-lt-PING_CASES : goal.returns-then-state-lt-PING_CASES
unfolding head_in_range
returns-then-state-lt-PING_CASES c =
    let w = c.args.state.now in
    let spare = c.are_zero.ensures ∙ ap all_zero (spare_is c.args.state.now c.told-state) in
    elim c.if-state-lt-NUMBERS16.branch [
      | then-state-lt-NUMBERS16 p ↦ elim c.if-state-lt2.branch [
        | then-state-lt2 q ↦ elim c.if-state-lt-STAGE_CASES.branch [
          | then-state-lt-STAGE_CASES s ↦
              (let stage : ltb (get_or w stage_at 0) stage_cases ≡ true = lt-ltb _ _ s.if-state-lt-STAGE_CASES.true in
              let over : ltb (get_or w over_at 0) 2 ≡ true = sym s.value-is ∙ q.if-state-lt2.true in
              let own : ltb (get_or w own_at 0) numbers16 ≡ true = sym q.value-is ∙ p.if-state-lt-NUMBERS16.true in
              let ping : ltb (get_or w ping_at 0) ping_cases ≡ true = sym p.value-is ∙ c.if-state-lt-PING_CASES.true in
              rw (spare, stage, over, own, ping))
          | else-state-lt-STAGE_CASES s ↦ absurd (true_false q.if-state-lt2.true (s.value-is ∙ le-ltb _ _ s.if-state-lt-STAGE_CASES.false))
        ]
        | else-state-lt2 q ↦ absurd (true_false p.if-state-lt-NUMBERS16.true (q.value-is ∙ q.if-state-lt2.false))
      ]
      | else-state-lt-NUMBERS16 p ↦ absurd (true_false c.if-state-lt-PING_CASES.true (p.value-is ∙ p.if-state-lt-NUMBERS16.false))
    ]
