-- The definition of a step, one law for each way through its check; callers cite these.
use mathlib.Core.Path.{◌≡◌, ap, sym, ◌∙◌}
use mathlib.Core.List.{List}
use Prim.Native.Nat.{ℕ, ◌-◌, ◌≤◌, ◌<◌}
use native.Mathlib.Omega.{arith}
use lib.ListN.{length, take, drop, length-drop}
use lib.Seq.{take_all}
use borrow.Author.Tests.{lt-ltb, le-ltb}
use Rattle.laws.specs.Result.{Result, refused}
use Rattle.laws.proofs.Pick.{yes, no}
use Rattle.wire.specs.declared.Role.{Role}
use Rattle.wire.specs.declared.Message.{Message}
use Rattle.wire.specs.Message.{read_message}
use Rattle.capture_rules.specs.Place.{message_at, place_after, step_at}

module _ (from : Role) (s : List ℕ) (place : ℕ) where
  pub past_end : length s < place → refused 14 ≡ message_at from s place
  unfolding message_at
  past_end h = sym (yes _ _ _ (lt-ltb _ _ h))

  pub within : place ≤ length s → read_message from (drop place s) ≡ message_at from s place
  unfolding message_at
  within h = sym (no _ _ _ (le-ltb _ _ h))

  -- the same for the slice that starts at the place
  pub in_slice : {r : Result Message} → place ≤ length s → r ≡ read_message from (take (length s - place) (drop place s)) → r ≡ message_at from s place
  in_slice h e =
      let all : take (length s - place) (drop place s) ≡ drop place s = take_all (length s - place) (drop place s) (simp length-drop (omega arith)) in
      e ∙ ap (read_message from) all ∙ within h

  -- what was read, with the place after it
  pub stepped : {r : Result Message} → r ≡ message_at from s place → (r, place_after place r) ≡ step_at from s place
  unfolding step_at
  stepped e = ap (λ (r : Result Message). (r, place_after place r)) e
