-- Digits and bytes one by one, laid at the start of a place.
use Rattle.std.proofs.Common.{◌≡◌, ℕ, zero, suc, ◌+◌, ◌*◌, ◌/◌, ◌%◌, ◌<◌, List, [], ◌∷◌, length, get_or, refl, ap, sym, ◌∙◌, arith}
use lib.ListN.{set}
use Rattle.script_words.specs.Hex.{byte_of, bytes_from_hex, glyph_of, text_of, laid}

laid_step : (j : ℕ) (d s : List ℕ) → j < length d → j < length s → set (laid d s j) j (get_or s j 0) ≡ laid d s (suc j)
laid_step j [] s h k = absurd (omega arith)
laid_step j (x ∷ d) [] h k = absurd (omega arith)
laid_step zero (x ∷ d) (y ∷ s) h k = refl
laid_step (suc j) (x ∷ d) (y ∷ s) h k = ap (λ (l : List ℕ). y ∷ l) (laid_step j d s (omega arith) (omega arith))

-- ---- bytes from digits

bytes_length : (s : List ℕ) → length (bytes_from_hex s) ≡ length s / 2
unfolding bytes_from_hex
bytes_length [] = refl
bytes_length (a ∷ []) = refl
bytes_length (a ∷ b ∷ s) = let r = bytes_length s in omega arith

bytes_at : (i : ℕ) (s : List ℕ) → 2 * i + 1 < length s → get_or (bytes_from_hex s) i 0 ≡ byte_of (get_or s (2 * i) 0) (get_or s (2 * i + 1) 0)
unfolding bytes_from_hex
bytes_at i [] h = absurd (omega arith)
bytes_at i (a ∷ []) h = absurd (omega arith)
bytes_at zero (a ∷ b ∷ s) h = refl
bytes_at (suc i) (a ∷ b ∷ s) h =
    let e : 2 * suc i ≡ suc (suc (2 * i)) = omega arith in
    let f : 2 * suc i + 1 ≡ suc (suc (2 * i + 1)) = omega arith in
    bytes_at i s (omega arith)
    ∙ sym (ap (λ (k : ℕ). byte_of (get_or (a ∷ b ∷ s) k 0) (get_or (a ∷ b ∷ s) (2 * suc i + 1) 0)) e ∙ ap (λ (k : ℕ). byte_of (get_or s (2 * i) 0) (get_or (a ∷ b ∷ s) k 0)) f)

-- the byte at a place
pub bytes_more : (i : ℕ) (d s : List ℕ) (b : ℕ) → i < length d → 2 * i + 1 < length s → b ≡ byte_of (get_or s (2 * i) 0) (get_or s (2 * i + 1) 0)
    → set (laid d (bytes_from_hex s) i) i b ≡ laid d (bytes_from_hex s) (i + 1)
bytes_more i d s b h k p =
    let n = bytes_length s in
    let e : suc i ≡ i + 1 = omega arith in
    ap (set (laid d (bytes_from_hex s) i) i) (p ∙ sym (bytes_at i s k)) ∙ laid_step i d (bytes_from_hex s) h (omega arith) ∙ ap (laid d (bytes_from_hex s)) e

-- ---- digits from bytes

text_length : (s : List ℕ) → length (text_of s) ≡ 2 * length s
unfolding text_of
text_length [] = refl
text_length (a ∷ s) = let r = text_length s in omega arith

text_even : (i : ℕ) (s : List ℕ) → i < length s → get_or (text_of s) (2 * i) 0 ≡ glyph_of (get_or s i 0 / 16)
unfolding text_of
text_even i [] h = absurd (omega arith)
text_even zero (a ∷ s) h = refl
text_even (suc i) (a ∷ s) h =
    let e : 2 * suc i ≡ suc (suc (2 * i)) = omega arith in
    ap (λ (k : ℕ). get_or (text_of (a ∷ s)) k 0) e ∙ text_even i s (omega arith)

text_odd : (i : ℕ) (s : List ℕ) → i < length s → get_or (text_of s) (2 * i + 1) 0 ≡ glyph_of (get_or s i 0 % 16)
unfolding text_of
text_odd i [] h = absurd (omega arith)
text_odd zero (a ∷ s) h = refl
text_odd (suc i) (a ∷ s) h =
    let e : 2 * suc i + 1 ≡ suc (suc (2 * i + 1)) = omega arith in
    ap (λ (k : ℕ). get_or (text_of (a ∷ s)) k 0) e ∙ text_odd i s (omega arith)

-- the two digits of a byte
pub text_more : (i : ℕ) (d s : List ℕ) (a b : ℕ) → i < length s → 2 * i + 1 < length d → a ≡ glyph_of (get_or s i 0 / 16) → b ≡ glyph_of (get_or s i 0 % 16)
    → set (set (laid d (text_of s) (2 * i)) (2 * i) a) (2 * i + 1) b ≡ laid d (text_of s) (2 * (i + 1))
text_more i d s a b h k p q =
    let n = text_length s in
    let e : 2 * i + 1 ≡ suc (2 * i) = omega arith in
    let f : suc (2 * i + 1) ≡ 2 * (i + 1) = omega arith in
    let first : set (laid d (text_of s) (2 * i)) (2 * i) a ≡ laid d (text_of s) (2 * i + 1) =
    ap (set (laid d (text_of s) (2 * i)) (2 * i)) (p ∙ sym (text_even i s h))
    ∙ laid_step (2 * i) d (text_of s) (omega arith) (omega arith)
    ∙ ap (laid d (text_of s)) (sym e) in
    ap (λ (l : List ℕ). set l (2 * i + 1) b) first
    ∙ ap (set (laid d (text_of s) (2 * i + 1)) (2 * i + 1)) (q ∙ sym (text_odd i s h))
    ∙ laid_step (2 * i + 1) d (text_of s) (omega arith) (omega arith)
    ∙ ap (laid d (text_of s)) f
