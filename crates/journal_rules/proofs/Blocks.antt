-- Blocks of a region: when one is good, and what bytes pasted into the region leave of each.
use mathlib.Core.Path.{◌≡◌, refl, sym, ap, ap₂, ◌∙◌}
use mathlib.Core.Bool.{Bool, true, false}
use mathlib.Core.List.{List, [], ◌∷◌, ◌++◌, append_assoc}
use Prim.Native.Nat.{ℕ, suc, ◌+◌, ◌-◌, ◌*◌, ◌≤◌, ◌<◌}
use native.Mathlib.Omega.{arith}
use borrow.Author.Tests.{eqb-true, eq-eqb}
use lib.Dec.{eqb}
use lib.ListN.{length, get_or, take, drop, length-take, length-drop, length-append, get_or-append}
use lib.Seq.{paste, ext_get_or, get_or-take, get_or-drop, drop-paste, drop_at, take_at, take_all}
use Rattle.laws.proofs.Tests.{and_first, and_second, and_both}
use Rattle.journal_rules.specs.Block.{JournalEntry, checked_bytes, block_of, storable}
use Rattle.journal_rules.specs.Region.{block_at, entry_in, equal_bytes, good}
use Rattle.journal_rules.specs.Claims.{IsBlock, GoodExactly}

-- ---- the test of two lists

pub same_refl : (s : List ℕ) → equal_bytes s s ≡ true
unfolding equal_bytes
same_refl [] = refl
same_refl (x ∷ xs) = and_both (eq-eqb x x refl) (same_refl xs)

pub same_eq : (s t : List ℕ) → equal_bytes s t ≡ true → s ≡ t
unfolding equal_bytes
same_eq [] [] h = refl
same_eq [] (y ∷ ys) h = cc
same_eq (x ∷ xs) [] h = cc
same_eq (x ∷ xs) (y ∷ ys) h =
    ap₂ ◌∷◌ (eqb-true x y (and_first (eqb x y) (equal_bytes xs ys) h)) (same_eq xs ys (and_second (eqb x y) (equal_bytes xs ys) h))

-- ---- good and bad blocks

pub length_block : (serial : ℕ) (e : JournalEntry) → length (block_of serial e) ≡ 512
unfolding block_of checked_bytes
length_block serial e = refl

pub mark : (serial : ℕ) (e : JournalEntry) → get_or (block_of serial e) 511 0 ≡ 0xa5
unfolding block_of checked_bytes
mark serial e = refl

pub entry_of : (serial : ℕ) (e : JournalEntry) → entry_in (block_of serial e) ≡ e
unfolding block_of checked_bytes
entry_of serial e = refl

-- the block of a proper entry is good at its place
pub good_block : (k : ℕ) (e : JournalEntry) (b : List ℕ) → storable e ≡ true → b ≡ block_of (suc k) e → good k b ≡ true
unfolding good
good_block k e b v h =
    let q : entry_in b ≡ e = ap entry_in h ∙ entry_of (suc k) e in
    and_both (ap storable q ∙ v)
    (ap (equal_bytes b) (ap (block_of (suc k)) q ∙ sym h) ∙ same_refl b)

good_is : (k : ℕ) (b : List ℕ) → good k b ≡ true → IsBlock (suc k) b
unfolding good
good_is k b h =
    record {
      held = entry_in b;
      is_storable = and_first (storable (entry_in b)) (equal_bytes b (block_of (suc k) (entry_in b))) h;
      is = same_eq b (block_of (suc k) (entry_in b)) (and_second (storable (entry_in b)) (equal_bytes b (block_of (suc k) (entry_in b))) h);
    }

pub good_exactly : GoodExactly
good_exactly k b = (good_is k b, λ g. good_block k g.held b g.is_storable g.is)

-- a block whose last byte is zero is bad
pub bad_block : (k : ℕ) (b : List ℕ) → get_or b 511 0 ≡ 0 → good k b ≡ false
bad_block k b z = go (good k b) refl
  where
    go : (t : Bool) → good k b ≡ t → good k b ≡ false
    go false e = e
    go true e =
        let g : IsBlock (suc k) b = good_is k b e in
        let q : ◌≡◌ {A = ℕ} 0 0xa5 = sym z ∙ ap (λ (l : List ℕ). get_or l 511 0) g.is ∙ mark (suc k) g.held in
        absurd (omega arith)

-- ---- a region after a paste

module _ (d : List ℕ) (at : ℕ) (s : List ℕ) (n : ℕ) (hd : at ≤ length d) (hs : n ≤ length s) where
  pub paste_before : (m : ℕ) → m < at → get_or (paste d at s n) m 0 ≡ get_or d m 0
  paste_before m h =
      let l : length (take at d) ≡ at = length-take at d ∙ omega arith in
      get_or-append (take at d ++ take n s) (drop (at + n) d) 0 m
      (omega (arith, length-append (take at d) (take n s)))
      ∙ get_or-append (take at d) (take n s) 0 m (omega arith)
      ∙ get_or-take at d m 0 h

  pub paste_after : (m : ℕ) → at + n ≤ m → get_or (paste d at s n) m 0 ≡ get_or d m 0
  paste_after m h =
      let e : at + n + (m - (at + n)) ≡ m = omega arith in
      ap (λ (k : ℕ). get_or (paste d at s n) k 0) (sym e)
      ∙ sym (get_or-drop (at + n) (paste d at s n) (m - (at + n)) 0)
      ∙ ap (λ (l : List ℕ). get_or l (m - (at + n)) 0) (drop-paste d at s n hd hs)
      ∙ get_or-drop (at + n) d (m - (at + n)) 0
      ∙ ap (λ (k : ℕ). get_or d k 0) e

  pub paste_in : (x m : ℕ) → at ≤ m → m < at + n → get_or (paste d at s n) m x ≡ get_or s (m - at) x
  paste_in x m a b =
      let l : length (take at d) ≡ at = length-take at d ∙ omega arith in
      let t : length (take n s) ≡ n = length-take n s ∙ omega arith in
      let e : at + (m - at) ≡ m = omega arith in
      get_or-append (take at d ++ take n s) (drop (at + n) d) x m (omega (arith, length-append (take at d) (take n s)))
      ∙ ap (λ (k : ℕ). get_or (take at d ++ take n s) k x) (sym e)
      ∙ sym (get_or-drop at (take at d ++ take n s) (m - at) x)
      ∙ ap (λ (y : List ℕ). get_or y (m - at) x) (drop_at (take at d) (take n s) at l)
      ∙ get_or-take n s (m - at) x (omega arith)

-- the block that a whole paste writes
pub block_pasted : (r s : List ℕ) (k : ℕ) → 512 * k ≤ length r → length s ≡ 512 → block_at (paste r (512 * k) s 512) k ≡ s
block_pasted r s k h l =
    let lt : length (take (512 * k) r) ≡ 512 * k = length-take (512 * k) r ∙ omega arith in
    let ts : take 512 s ≡ s = take_all 512 s (omega arith) in
    ap (λ (x : List ℕ). take 512 (drop (512 * k) x)) (append_assoc (take (512 * k) r) (take 512 s) (drop (512 * k + 512) r))
    ∙ ap (take 512) (drop_at (take (512 * k) r) (take 512 s ++ drop (512 * k + 512) r) (512 * k) lt)
    ∙ take_at (take 512 s) (drop (512 * k + 512) r) 512 (ap length ts ∙ l)
    ∙ ts

-- a block is the same where its bytes are
pub block_same : (a b : List ℕ) (k : ℕ) → length a ≡ length b
    → ((m : ℕ) → m < 512 → get_or a (512 * k + m) 0 ≡ get_or b (512 * k + m) 0) → block_at a k ≡ block_at b k
block_same a b k l h =
    ext_get_or 0 (block_at a k) (block_at b k) (simp (length-take, length-drop, l))
    (λ m hm.
    let m512 : m < 512 = omega (arith, length-take 512 (drop (512 * k) a)) in
    get_or-take 512 (drop (512 * k) a) m 0 m512 ∙ get_or-drop (512 * k) a m 0
    ∙ h m m512
    ∙ sym (get_or-take 512 (drop (512 * k) b) m 0 m512 ∙ get_or-drop (512 * k) b m 0))

pub last_byte : (r : List ℕ) (k : ℕ) → get_or (block_at r k) 511 0 ≡ get_or r (512 * k + 511) 0
last_byte r k = get_or-take 512 (drop (512 * k) r) 511 0 (omega arith) ∙ get_or-drop (512 * k) r 511 0
