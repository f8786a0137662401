-- A slot that is changed is the one that was meant, and no other, and ends in zeros: laws of the queue, from its definitions.
use mathlib.Core.Path.{◌≡◌, sym, ap, ◌∙◌}
use mathlib.Core.Logic.{◌≢◌}
use mathlib.Core.List.{List, ◌++◌}
use Prim.Native.Nat.{ℕ, ◌+◌, ◌-◌, ◌*◌, ◌≤◌, ◌<◌}
use native.Mathlib.Decide.{dec_lt}
use native.Mathlib.Omega.{arith}
use lib.ListN.{length, take, drop, get_or, length-append, length-take, length-drop, length-replicate, get_or-replicate}
use lib.Seq.{get_or-append-add, take_at, drop_at, length-take-le, take-append-le, drop-append-le, drop-append-add, drop-drop, take-take}
use Rattle.laws.proofs.Lists.{take_drop}
use Rattle.protocol.specs.Slot.{slot_size, queue_size}
use Rattle.protocol.specs.Queue.{slot, with_slot, padded, after_put, put_slot, after_turn, turn_slot}

pub padded_length : (bytes : List ℕ) → length bytes ≤ slot_size → length (padded bytes) ≡ slot_size
padded_length bytes h = length-append bytes _ ∙ simp length-replicate (omega arith)

pub put_length : (w : ℕ) (bytes s : List ℕ) → w + length bytes ≤ slot_size → w ≤ length s → length (put_slot w bytes s) ≡ slot_size
put_length w bytes s h k =
    padded_length (after_put w bytes s) (simp (length-append, length-take) (omega arith))

pub turn_length : (w n : ℕ) (s : List ℕ) → w ≤ slot_size → length (turn_slot w n s) ≡ slot_size
turn_length w n s h = padded_length (after_turn w n s) (simp length-take (omega arith))

-- a slot that is served has zeros behind its bytes, up to its end
pub padded_zeros : (bytes : List ℕ) (k : ℕ) → length bytes ≤ k → k < slot_size → get_or (padded bytes) k 1 ≡ 0
padded_zeros bytes k h l =
    let at : length bytes + (k - length bytes) ≡ k = omega arith in
    ap (λ (i : ℕ). get_or (padded bytes) i 1) (sym at) ∙ get_or-append-add bytes _ (k - length bytes) 1
    ∙ get_or-replicate (slot_size - length bytes) (k - length bytes) 0 1 (omega arith)

pub put_zeros : (w : ℕ) (bytes s : List ℕ) (k : ℕ) → w ≤ length s → w + length bytes ≤ k → k < slot_size → get_or (put_slot w bytes s) k 1 ≡ 0
put_zeros w bytes s k h g l = padded_zeros (after_put w bytes s) k (simp (length-append, length-take) (omega arith)) l

pub turn_zeros : (w n : ℕ) (s : List ℕ) (k : ℕ) → w - n ≤ k → k < slot_size → get_or (turn_slot w n s) k 1 ≡ 0
turn_zeros w n s k g l = padded_zeros (after_turn w n s) k (simp length-take (omega arith)) l

pub slot_length : (n : ℕ) (q : List ℕ) → n < 128 → length q ≡ queue_size → length (slot n q) ≡ slot_size
slot_length n q h e = length-take-le slot_size (drop (n * slot_size) q) (simp length-drop (omega arith))

module _ (n : ℕ) (s q : List ℕ) (hn : n < 128) (hq : length q ≡ queue_size) (hs : length s ≡ slot_size) where
  front : length (take (n * slot_size) q) ≡ n * slot_size
  front = length-take-le (n * slot_size) q (omega arith)

  front_slot : length (take (n * slot_size) q ++ s) ≡ n * slot_size + slot_size
  front_slot = let e = front in length-append (take (n * slot_size) q) s ∙ omega arith

  pub with_length : length (with_slot n s q) ≡ queue_size
  with_length =
      let e = front_slot in
      length-append (take (n * slot_size) q ++ s) _ ∙ simp length-drop (omega arith)

  pub slot_same : slot n (with_slot n s q) ≡ s
  slot_same =
      ap (take slot_size) (drop-append-le (n * slot_size) (take (n * slot_size) q ++ s) _ (let e = front_slot in omega arith)
      ∙ ap (λ (l : List ℕ). l ++ drop (n * slot_size + slot_size) q) (drop_at (take (n * slot_size) q) s (n * slot_size) front))
      ∙ take_at s _ slot_size hs

  below : (m : ℕ) → m < n → slot m (with_slot n s q) ≡ slot m q
  below m h =
      let P = take (n * slot_size) q in
      let lp = front in
      let X = drop (m * slot_size) P in
      let lx : length (drop (m * slot_size) (take (n * slot_size) q)) ≡ n * slot_size - m * slot_size = length-drop (m * slot_size) P ∙ ap (λ (k : ℕ). k - m * slot_size) lp in
      let lps = front_slot in
      ap (take slot_size)
      (drop-append-le (m * slot_size) (P ++ s) _ (omega arith)
      ∙ ap (λ (l : List ℕ). l ++ drop (n * slot_size + slot_size) q) (drop-append-le (m * slot_size) P s (omega arith)))
      ∙ take-append-le slot_size (X ++ s) _ (let e = length-append X s in omega arith)
      ∙ take-append-le slot_size X s (omega arith)
      ∙ ap (take slot_size) (sym (take_drop (n * slot_size) (m * slot_size) q (omega arith)))
      ∙ take-take slot_size (n * slot_size - m * slot_size) (drop (m * slot_size) q) (omega arith)

  above : (m : ℕ) → n < m → slot m (with_slot n s q) ≡ slot m q
  above m h =
      let lps = front_slot in
      let k = m * slot_size - (n * slot_size + slot_size) in
      let split : m * slot_size ≡ length (take (n * slot_size) q ++ s) + (m * slot_size - (n * slot_size + slot_size)) = omega arith in
      let whole : n * slot_size + slot_size + (m * slot_size - (n * slot_size + slot_size)) ≡ m * slot_size = omega arith in
      ap (take slot_size)
      (ap (λ (i : ℕ). drop i (with_slot n s q)) split ∙ drop-append-add (take (n * slot_size) q ++ s) _ k
      ∙ drop-drop k (n * slot_size + slot_size) q ∙ ap (λ (i : ℕ). drop i q) whole)

  pub slot_other : (m : ℕ) → m ≢ n → slot m (with_slot n s q) ≡ slot m q
  slot_other m d = elim (dec_lt m n) [ yes h ↦ below m h | no h ↦ above m (omega arith) ]
