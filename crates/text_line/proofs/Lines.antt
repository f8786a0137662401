-- A line with text behind its end: the first bytes of the text, as many as there is room for, and one text behind another.
use Rattle.std.proofs.Common.{◌≡◌, ℕ, zero, suc, ◌+◌, ◌-◌, min, List, [], ◌∷◌, ◌++◌, length, take, refl, sym, ap, ◌∙◌, arith}
use Rattle.std.proofs.Math.Seq.{take-append-add}
use Rattle.std.proofs.lemmas.List.{append_assoc, take_min, length-take-le}
use Rattle.text_line.specs.declared.line.Line.{Line}
use Rattle.text_line.specs.Line.{line_text, added, LineIs}

-- the first bytes of a text, as many as fit, behind those of a line
pub fitting_added : (bytes words : List ℕ) (len at : ℕ) → length bytes ≡ 128 → at ≡ min len 128
    → take at bytes ++ take (128 - at) words ≡ added (take len bytes) words
unfolding added
fitting_added bytes words len at whole e =
    let front : at ≡ min len (length bytes) = omega arith in
    let front_length : length (take at bytes) ≡ at = length-take-le at bytes (omega arith) in
    let sum : length (take at bytes) + (128 - at) ≡ 128 = omega arith in
    sym (take-append-add (take at bytes) words (128 - at))
    ∙ ap (λ (n : ℕ). take n (take at bytes ++ words)) sum
    ∙ ap (λ (l : List ℕ). take 128 (l ++ words)) (ap (λ (n : ℕ). take n bytes) front ∙ take_min len bytes)

-- what is cut off may be cut off twice
take_twice : (k : ℕ) (a b : List ℕ) → take k (take k a ++ b) ≡ take k (a ++ b)
take_twice zero a b = refl
take_twice (suc k) [] b = refl
take_twice (suc k) (x ∷ a) b = ap (λ (l : List ℕ). x ∷ l) (take_twice k a b)

-- a line with a text is one with the same text in other words
pub same_text : {line : Line} {a b : List ℕ} → LineIs line a → a ≡ b → LineIs line b
same_text h e = record { reads = h.reads ∙ e; fits = h.fits }

pub added_twice : {p q : Line} (l a b : List ℕ) → LineIs p (added l a) → LineIs q (added (line_text p) b) → LineIs q (added l (a ++ b))
unfolding added
added_twice l a b e f =
    same_text f (ap (λ (p : List ℕ). take 128 (p ++ b)) e.reads ∙ take_twice 128 (l ++ a) b ∙ ap (take 128) (append_assoc l a b))
