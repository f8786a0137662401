-- The room after bytes are written at its front: it holds them, or it is too small.
use mathlib.Core.Path.{◌≡◌, sym, ap, ◌∙◌}
use mathlib.Core.List.{List, [], ◌++◌, append_assoc, append-nil}
use Prim.Native.Nat.{ℕ, ◌+◌, ◌-◌, ◌≤◌, ◌<◌}
use native.Mathlib.Omega.{arith}
use lib.ListN.{length, take, drop, length-append, length-drop, drop_of_length-le}
use borrow.Rule.Slice.PartMut.{put_mid}
use lib.Seq.{take-length, take_all, take_at, drop_at, drop-drop}
use borrow.Author.Tests.{le-leb, lt-leb}
use Rattle.laws.specs.Room.{overlaid, at_front}
use Rattle.laws.proofs.Pick.{yes, no}

-- a room that holds the bytes
pub fits : (bytes room : List ℕ) → length bytes ≤ length room → at_front bytes room ≡ (length bytes, overlaid bytes room)
unfolding at_front
fits bytes room h = yes _ _ _ (le-leb _ _ h)

pub too_small : (bytes room : List ℕ) → length room < length bytes → at_front bytes room ≡ (0, room)
unfolding at_front
too_small bytes room h = no _ _ _ (lt-leb _ _ h)

pub both : {a b : ℕ} {s t : List ℕ} → a ≡ b → s ≡ t → ◌≡◌ {A = ℕ × List ℕ} (a, s) (b, t)
both p q = cc

-- a header of four bytes and a body behind it
module _ (head body room : List ℕ) (long : length head ≡ 4) where
  whole : length (head ++ body) ≡ 4 + length body
  whole = length-append head body ∙ omega arith

  pub too_long : length room < 4 + length body → (0, room) ≡ at_front (head ++ body) room
  too_long h = let e = whole in sym (too_small (head ++ body) room (omega arith))

  pub copied : {mid part : List ℕ} → 4 + length body ≤ length room → mid ≡ take (length head) head ++ drop (length head) room
      → part ≡ take (length body) body ++ drop (length body) (take (length mid - 4) (drop 4 mid))
      → (4 + length body, put_mid 4 (length mid - 4) mid part) ≡ at_front (head ++ body) room
  copied {mid} {part} h first second =
      let front : mid ≡ head ++ drop 4 room = first ∙ ap (λ (l : List ℕ). l ++ drop (length head) room) (take-length head) ∙ ap (λ (k : ℕ). head ++ drop k room) long in
      let behind : drop 4 mid ≡ drop 4 room = ap (drop 4) front ∙ drop_at head (drop 4 room) 4 long in
      let size : length (drop 4 mid) ≤ length mid - 4 = simp length-drop (omega arith) in
      let all : take (length mid - 4) (drop 4 mid) ≡ drop 4 room = take_all (length mid - 4) (drop 4 mid) size ∙ behind in
      let none : drop (length mid - 4) (drop 4 mid) ≡ [] = drop_of_length-le (drop 4 mid) size in
      let is : part ≡ body ++ drop (4 + length body) room =
      second
      ∙ ap (λ (l : List ℕ). l ++ drop (length body) (take (length mid - 4) (drop 4 mid))) (take-length body)
      ∙ ap (λ (l : List ℕ). body ++ drop (length body) l) all ∙ ap (λ (l : List ℕ). body ++ l) (drop-drop (length body) 4 room) in
      let last : put_mid 4 (length mid - 4) mid part ≡ overlaid (head ++ body) room =
      ap (λ (l : List ℕ). l ++ (part ++ drop (length mid - 4) (drop 4 mid))) (ap (take 4) front ∙ take_at head (drop 4 room) 4 long)
      ∙ ap (λ (l : List ℕ). head ++ (part ++ l)) none
      ∙ ap (λ (l : List ℕ). head ++ l) (append-nil part ∙ is)
      ∙ sym (append_assoc head body (drop (4 + length body) room))
      ∙ ap (λ (k : ℕ). (head ++ body) ++ drop k room) (sym whole) in
      let e = whole in
      both (sym whole) last ∙ sym (fits (head ++ body) room (omega arith))
