-- The lines of some entries more: those of the entries before them, and then that of the next one.
use mathlib.Core.Path.{◌≡◌, sym, ap, ◌∙◌}
use Prim.Native.Nat.{ℕ, zero, suc, ◌+◌, ◌<◌}
use native.Mathlib.Numerals.{add-one}
use native.Mathlib.Omega.{arith}
use Rattle.std.specs.Prelude.{List, [], ◌∷◌, ◌++◌, take, length, get_or}
use Rattle.std.proofs.lemmas.List.{append_assoc, append-nil}
use Rattle.journal_read.specs.declared.Entry.{Entry}
use Rattle.journal_text.specs.Texts.{entry_line, entry_lines}

next_line : (es : List Entry) (k i : ℕ) (d : Entry) → i < length es
    → entry_lines k (take (suc i) es) ≡ entry_lines k (take i es) ++ entry_line (k + i) (get_or es i d)
next_line [] k i d h = absurd (omega arith)
next_line (e ∷ es) k zero d h =
    let same : k + 0 ≡ k = omega arith in
    append-nil (entry_line k e) ∙ ap (λ (n : ℕ). entry_line n e) (sym same)
next_line (e ∷ es) k (suc i) d h =
    let same : suc k + i ≡ k + suc i = omega arith in
    let front = entry_lines (suc k) (take i es) in
    ap (λ (t : List ℕ). entry_line k e ++ t) (next_line es (suc k) i d (omega arith))
    ∙ sym (append_assoc (entry_line k e) front (entry_line (suc k + i) (get_or es i d)))
    ∙ ap (λ (n : ℕ). (entry_line k e ++ front) ++ entry_line n (get_or es i d)) same

-- the words in front, the lines so far and the next one
pub more_lines : (words : List ℕ) (es : List Entry) (i : ℕ) (d : Entry) → i < length es
    → (words ++ entry_lines 1 (take i es)) ++ entry_line (i + 1) (get_or es i d) ≡ words ++ entry_lines 1 (take (i + 1) es)
more_lines words es i d h =
    let serial : 1 + i ≡ i + 1 = omega arith in
    append_assoc words (entry_lines 1 (take i es)) (entry_line (i + 1) (get_or es i d))
    ∙ ap (λ (n : ℕ). words ++ (entry_lines 1 (take i es) ++ entry_line n (get_or es i d))) (sym serial)
    ∙ ap (λ (t : List ℕ). words ++ t) (sym (next_line es 1 i d h))
    ∙ ap (λ (n : ℕ). words ++ entry_lines 1 (take n es)) (sym (add-one i))
