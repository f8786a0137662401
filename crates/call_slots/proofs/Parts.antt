-- The slot that a put or a turn serves, in the queue and back in it.
use mathlib.Core.Path.{◌≡◌, sym, ap, ◌∙◌}
use mathlib.Core.List.{List, ◌++◌, append_assoc}
use Prim.Native.Nat.{ℕ, ◌+◌, ◌-◌, ◌*◌, ◌≤◌, ◌<◌}
use native.Mathlib.Omega.{arith}
use lib.ListN.{length, take, drop}
use lib.Dec.{eqb, ltb, leb}
use mathlib.Core.Bool.{true, false, ◌&&◌}
use borrow.Author.Tests.{eqb-true, ltb-true, leb-true, le-leb, lt-leb}
use borrow.Rule.Slice.PartMut.{put_mid, Post-is}
use Rattle.laws.proofs.Pick.{yes, no}
use Rattle.laws.proofs.Tests.{and_first, and_second}
use Rattle.protocol.specs.Slot.{slot_size, queue_size}
use Rattle.protocol.specs.Queue.{slot, with_slot, put_slot, turn_slot}
use Rattle.call_slots.specs.Slots.{servable, put_into, taken_from}

-- ---- the slot in the queue

-- where a slot can be served
pub record Servable (queue n waiting : ℕ) : Type 0 where
  pub whole : queue ≡ queue_size
  pub number : n < 128
  pub within : waiting ≤ slot_size

pub servable_has : (queue n waiting : ℕ) → servable queue n waiting ≡ true → Servable queue n waiting
servable_has queue n waiting e =
    let A = eqb queue queue_size in
    let B = ltb n 128 in
    let C = leb waiting slot_size in
    let ab = and_first (A && B) C e in
    record {
      whole = eqb-true _ _ (and_first A B ab);
      number = ltb-true _ _ (and_second A B ab);
      within = leb-true _ _ (and_second (A && B) C e);
    }

module _ (n : ℕ) (q : List ℕ) where
  module _ {start : ℕ} (begins : start ≡ n * slot_size) where
    same_size : start + slot_size - start ≡ slot_size
    same_size = omega arith

    pub slot_part : take (start + slot_size - start) (drop start q) ≡ slot n q
    slot_part = ap (λ (k : ℕ). take k (drop start q)) same_size ∙ ap (λ (k : ℕ). take slot_size (drop k q)) begins

    slot_back : (s : List ℕ) → put_mid start (start + slot_size - start) q s ≡ with_slot n s q
    slot_back s =
        ap (λ (r : List ℕ). take start q ++ (s ++ r)) (Post-is start (start + slot_size) q (omega arith))
        ∙ sym (append_assoc (take start q) s (drop (start + slot_size) q))
        ∙ ap (λ (k : ℕ). take k q ++ s ++ drop (k + slot_size) q) begins

    module _ (w : ℕ) (served : servable (length q) n w ≡ true) where
      pub put_into_is : (src : List ℕ) {s : List ℕ} → length src ≤ slot_size - w → s ≡ put_slot w src (take (start + slot_size - start) (drop start q))
          → put_mid start (start + slot_size - start) q s ≡ put_into q n w src
      unfolding put_into
      put_into_is src {s} h e =
          slot_back s ∙ ap (λ (r : List ℕ). with_slot n r q) (e ∙ ap (put_slot w src) slot_part) ∙ sym (yes _ _ _ served ∙ yes _ _ _ (le-leb _ _ h))

      pub take_from_is : (k : ℕ) {s : List ℕ} → k ≤ w → s ≡ turn_slot w k (take (start + slot_size - start) (drop start q))
          → put_mid start (start + slot_size - start) q s ≡ taken_from q n w k
      unfolding taken_from
      take_from_is k {s} h e =
          slot_back s ∙ ap (λ (r : List ℕ). with_slot n r q) (e ∙ ap (turn_slot w k) slot_part) ∙ sym (yes _ _ _ served ∙ yes _ _ _ (le-leb _ _ h))

  module _ (w : ℕ) (served : servable (length q) n w ≡ true) where
    pub put_too_many : (src : List ℕ) → slot_size - w < length src → q ≡ put_into q n w src
    unfolding put_into
    put_too_many src h = sym (yes _ _ _ served ∙ no _ _ _ (lt-leb _ _ h))

    pub take_too_many : (k : ℕ) → w < k → q ≡ taken_from q n w k
    unfolding taken_from
    take_too_many k h = sym (yes _ _ _ served ∙ no _ _ _ (lt-leb _ _ h))

  pub put_unserved : (w : ℕ) (src : List ℕ) → servable (length q) n w ≡ false → q ≡ put_into q n w src
  unfolding put_into
  put_unserved w src e = sym (no _ _ _ e)

  pub take_unserved : (w k : ℕ) → servable (length q) n w ≡ false → q ≡ taken_from q n w k
  unfolding taken_from
  take_unserved w k e = sym (no _ _ _ e)
