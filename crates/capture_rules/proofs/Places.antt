-- Where a step leaves the place: a refusal and a violation keep it, a message moves it past its 4 header bytes and its body; with which
-- numbers it refuses; and what a violation says of the bytes there.
use mathlib.Core.Path.{◌≡◌, refl, sym, ap, ◌∙◌}
use mathlib.Core.Logic.{◌⊎◌, inl, inr}
use mathlib.Core.Bool.{Bool, true, false}
use mathlib.Core.List.{List}
use Prim.Native.Nat.{ℕ, ◌+◌, ◌≤◌}
use native.Mathlib.Omega.{arith}
use borrow.Author.Tests.{le-ltb}
use lib.ListN.{length, take, drop, length-drop}
use lib.Dec.{ltb}
use Rattle.laws.specs.Pick.{pick}
use Rattle.laws.specs.Result.{Fault, Result, ok, refused, violation}
use Rattle.laws.proofs.Pick.{no}
use Rattle.laws.proofs.Results.{refused_same, violation_same, refused_not_ok, violation_not_ok, violation_not_refused}
use Rattle.wire.specs.declared.Role.{Role}
use Rattle.wire.specs.declared.Message.{Message}
use Rattle.wire.specs.Message.{body_length, read_message}
use Rattle.wire.specs.Wrong.{MessageFault}
use Rattle.wire.proofs.Bounds.{Only, is_readers, message_numbers}
use Rattle.wire.proofs.Places.{message_fault, fault_message}
use Rattle.capture_rules.specs.Place.{message_at, place_after, step_at}

pub refusal_stays : (place : ℕ) (r : Result Message) → ((m : Message) → r ≡ ok m → ⊥) → place_after place r ≡ place
refusal_stays place (ok m) none = absurd (none m refl)
refusal_stays place (refused n) none = refl
refusal_stays place (violation f) none = refl

module _ (from : Role) (s : List ℕ) (place : ℕ) where
  -- a step that gives no message keeps its place
  pub keeps_place : ((m : Message) → (step_at from s place).0 ≡ ok m → ⊥) → (step_at from s place).1 ≡ place
  unfolding step_at
  keeps_place none = refusal_stays place (message_at from s place) none

  pub moves_past : (m : Message) → (step_at from s place).0 ≡ ok m → (step_at from s place).1 ≡ place + 4 + body_length m
  unfolding step_at
  moves_past m e = ap (place_after place) e

  -- 14 past the end, else 10, or a violation that the reader of messages finds
  pub step_numbers : (n : ℕ) (f : Fault)
      → ((step_at from s place).0 ≡ refused n → (n ≡ 14) ⊎ (n ≡ 10)) × ((step_at from s place).0 ≡ violation f → is_readers f.number ≡ true)
  unfolding step_at message_at pick
  step_numbers n f = go (ltb (length s) place) (read_message from (drop place s)) (message_numbers from (drop place s))
    where
      go : (b : Bool) (r : Result Message) → Only is_readers r
          → (pick b (refused 14) r ≡ refused n → (n ≡ 14) ⊎ (n ≡ 10)) × (pick b (refused 14) r ≡ violation f → is_readers f.number ≡ true)
      go true r h = ((λ e. inl (sym (refused_same e))), λ e. absurd (violation_not_refused (sym e)))
      go false (ok m) h = ((λ e. absurd (refused_not_ok (sym e))), λ e. absurd (violation_not_ok (sym e)))
      go false (refused k) h = ((λ e. inr (sym (refused_same e) ∙ h)), λ e. absurd (violation_not_refused (sym e)))
      go false (violation k) h = ((λ e. absurd (violation_not_refused e)), λ e. sym (ap (λ (z : Fault). is_readers z.number) (violation_same e)) ∙ h)

  -- a violation says what is wrong with the four bytes at the reader's place, and which of the four
  pub step_fault : (f : Fault) → (step_at from s place).0 ≡ violation f → MessageFault from (take 4 (drop place s)) f
  unfolding step_at message_at pick
  step_fault f e = go (ltb (length s) place) e
    where
      go : (b : Bool) → pick b (refused 14) (read_message from (drop place s)) ≡ violation f → MessageFault from (take 4 (drop place s)) f
      go true q = absurd (violation_not_refused (sym q))
      go false q = (message_fault from (drop place s) f q).1

  -- and what is wrong with four bytes there is what it says
  pub fault_step : (f : Fault) → place + 4 ≤ length s → MessageFault from (take 4 (drop place s)) f → (step_at from s place).0 ≡ violation f
  unfolding step_at message_at
  fault_step f h w =
      let long : 4 ≤ length (drop place s) = simp length-drop (omega arith) in
      let within : place ≤ length s = omega arith in
      no _ _ _ (le-ltb (length s) place within) ∙ fault_message from (drop place s) f long w
