-- The room after the four bytes of a header and a body are copied to its front.
use mathlib.Core.Path.{◌≡◌, sym, ap, ◌∙◌}
use mathlib.Core.List.{List, ◌++◌, append_assoc}
use Prim.Native.Nat.{ℕ, ◌+◌, ◌-◌, ◌≤◌}
use native.Mathlib.Omega.{arith}
use lib.ListN.{length, drop, length-append}
use lib.Seq.{take_at, drop_at, drop-drop}
use borrow.Rule.Slice.PartMut.{put_mid}
use Rattle.laws.specs.Room.{overlaid, at_front}
use Rattle.laws.proofs.Rooms.{both, fits}

module _ (head body room : List ℕ) (long : length head ≡ 4) where
  overlaid_is : put_mid 4 (4 + length body - 4) (head ++ drop 4 room) body ≡ overlaid (head ++ body) room
  overlaid_is =
      let count : 4 + length body - 4 ≡ length body = omega arith in
      let size : 4 + length body ≡ length (head ++ body) = sym (length-append head body ∙ omega arith) in
      ap (λ (l : List ℕ). l ++ (body ++ drop (4 + length body - 4) (drop 4 (head ++ drop 4 room)))) (take_at head (drop 4 room) 4 long)
      ∙ ap (λ (l : List ℕ). head ++ (body ++ drop (4 + length body - 4) l)) (drop_at head (drop 4 room) 4 long)
      ∙ ap (λ (k : ℕ). head ++ (body ++ drop k (drop 4 room))) count
      ∙ ap (λ (l : List ℕ). head ++ (body ++ l)) (drop-drop (length body) 4 room)
      ∙ sym (append_assoc head body (drop (4 + length body) room))
      ∙ ap (λ (k : ℕ). (head ++ body) ++ drop k room) size

  pub copied : {front part : List ℕ} → 4 ≤ length room → length body ≤ length room - 4 → front ≡ head → part ≡ body
      → (4 + length body, put_mid 4 (4 + length body - 4) (front ++ drop 4 room) part) ≡ at_front (head ++ body) room
  copied h l p q =
      let size : 4 + length body ≡ length (head ++ body) = sym (length-append head body ∙ omega arith) in
      rw (p, q) (both size overlaid_is ∙ sym (fits (head ++ body) room (omega arith)))
