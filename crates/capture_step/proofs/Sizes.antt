-- The place after what was read, by its size.
use Rattle.std.specs.Prelude.{Err}
use mathlib.Core.Path.{◌≡◌, refl, sym, ap, ◌∙◌}
use mathlib.Core.List.{List}
use Prim.Native.Nat.{ℕ, ◌+◌, ◌-◌, ◌≤◌}
use native.Mathlib.Omega.{arith}
use lib.ListN.{length, take, drop, length-drop}
use lib.Seq.{length-take-le}
use Rattle.laws.specs.Result.{Result, ok, refused, violation}
use Rattle.refusal.specs.declared.ReadError.{ReadError}
use Rattle.refusal.specs.declared.ReadError.TheVariants as read
use Rattle.refusal.specs.declared.Failure.{Failure}
use Rattle.refusal.specs.declared.Failure.TheVariants as failure
use Rattle.refusal.specs.Failure.{or_failed, failure_of}
use Rattle.wire.specs.declared.Role.{Role}
use Rattle.wire.specs.declared.Message.{Message}
use Rattle.wire.specs.Message.{read_message}
use Rattle.wire_read.specs.Answer.{size_in, with_size}
use Rattle.wire_read.proofs.Answers.{size_within}
use Rattle.capture_rules.specs.Place.{message_at, place_after, step_at, next_as}
use Rattle.capture_rules.proofs.Laws.{stands}
use Rattle.capture_rules.proofs.Steps.{within, stepped}

after_size : (place : ℕ) (r : Result Message) → place + size_in r ≡ place_after place r
after_size place (ok m) = omega arith
after_size place (refused n) = omega arith
after_size place (violation f) = omega arith

-- a message ends within the capture
pub ends_within : (from : Role) (s : List ℕ) (place : ℕ) {r : Result Message} {n : ℕ} → place ≤ length s
    → (r, n) ≡ with_size (message_at from s place) → place + n ≤ length s
ends_within from s place {r} {n} h e =
    let sized : n ≡ size_in (message_at from s place) = ap (λ (p : Result Message × ℕ). p.1) e in
    let same : message_at from s place ≡ read_message from (drop place s) = sym (within from s place h) in
    let sizes : size_in (message_at from s place) ≡ size_in (read_message from (drop place s)) = ap size_in same in
    let short = size_within from (drop place s) in
    omega (arith, length-drop place s)

-- what was read, with the place after it
pub sized_step : (from : Role) (s : List ℕ) (place : ℕ) {r : Result Message} {n : ℕ}
    → (r, n) ≡ with_size (message_at from s place) → (r, place + n) ≡ step_at from s place
sized_step from s place {r} {n} e =
    let q = ap (λ (p : Result Message × ℕ). p.0) e in
    let sized : n ≡ size_in r = ap (λ (p : Result Message × ℕ). p.1) e ∙ ap size_in (sym q) in
    ap (λ (k : ℕ). (r, place + k)) sized
    ∙ ap (λ (k : ℕ). (r, k)) (after_size place r)
    ∙ stepped from s place q

-- a message has a size, so that its place is not past the end
pub not_past : (from : Role) (s : List ℕ) (place : ℕ) {m : Message} → ok m ≡ message_at from s place → place ≤ length s
not_past from s place {m} e = let h = (stands from s place m (sym e)).long in omega arith

-- a failure to read means at a place what it means to the reader
pub same_failure : (e : ReadError) → next_as (Err (failure_of e)) ≡ or_failed (λ (m : Message). m) (Err (failure_of e))
same_failure read.Incomplete = refl
same_failure (read.Violated f) = refl

-- a failure keeps its place
pub stays : (place : ℕ) (f : Failure) → place_after place (next_as (Err f)) ≡ place
stays place (failure.Refused r) = refl
stays place (failure.Violated f) = refl

-- a failure and its place are what is at the place
pub failed_step : (from : Role) (s : List ℕ) (place : ℕ) (f : Failure) → (next_as (Err f), 0) ≡ with_size (message_at from s place)
    → (next_as (Err f), place) ≡ step_at from s place
failed_step from s place f e =
    ap (λ (k : ℕ). (next_as (Err f), k)) (sym (stays place f)) ∙ stepped from s place (ap (λ (p : Result Message × ℕ). p.0) e)
