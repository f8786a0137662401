-- A line is its head, or its head, a space and its tail; and no space is in its head.
use Rattle.std.proofs.Common.{◌≡◌, ℕ, ◌<◌, Bool, true, false, eqb, List, ◌∷◌, ◌++◌, length, get_or, ap, ◌∙◌, arith}
use borrow.Author.Tests.{eqb-true, eq-eqb, ltb-true, ltb-false}
use lib.Seq.{take_all}
use Rattle.std.proofs.lemmas.List.{length-take}
use Rattle.std.proofs.lemmas.List.Sums.{split_at_first, passes_at_first, fails_before_first}
use Rattle.laws.proofs.Tests.{true_false}
use Rattle.script_words.specs.Words.{space_of, head_of, tail_of, has_more}

abbrev is_space : ℕ → Bool
is_space b = eqb b 32

pub head_and_tail : (s : List ℕ) → has_more s ≡ true → s ≡ head_of s ++ 32 ∷ tail_of s
unfolding has_more head_of tail_of
head_and_tail s h =
    let found = ltb-true (space_of s) (length s) h in
    split_at_first is_space s 0 found ∙ ap (λ (b : ℕ). head_of s ++ b ∷ tail_of s) (eqb-true _ 32 (passes_at_first is_space s 0 found))

pub head_alone : (s : List ℕ) → has_more s ≡ false → head_of s ≡ s
unfolding has_more head_of
head_alone s h = take_all (space_of s) s (ltb-false (space_of s) (length s) h)

pub no_space_before : (s : List ℕ) (k : ℕ) → k < length (head_of s) → get_or s k 0 ≡ 32 → ⊥
unfolding head_of
no_space_before s k h q =
    true_false (eq-eqb (get_or s k 0) 32 q) (fails_before_first is_space s k 0 (omega (arith, length-take (space_of s) s)))
