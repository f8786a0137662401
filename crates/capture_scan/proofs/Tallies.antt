-- A tally with what is at its place, and with all that is read from its place on: what the code's answers are, and that one step more
-- leaves the same to come to.
use Rattle.std.proofs.Common.{◌≡◌, ℕ, ◌+◌, ◌-◌, ◌%◌, ◌^◌, ◌<◌, ◌≤◌, Err, List, [], ◌∷◌, length, sym, refl, ap, ◌∙◌, subst, zero-add, arith}
use Rattle.refusal.specs.declared.Failure.{Failure}
use Rattle.refusal.specs.declared.Failure.TheVariants.{Refused, Violated}
use Rattle.laws.specs.Result.{fault, Result, ok, refused, violation}
use Rattle.laws.proofs.Results.{refused_not_ok, violation_not_ok}
use Rattle.wire.specs.declared.Role.{Role}
use Rattle.wire.specs.declared.Message.{Message}
use Rattle.wire.specs.Message.{body_length}
use Rattle.capture_rules.specs.declared.Step.{Step}
use Rattle.capture_rules.specs.Place.{message_at, place_after, step_at, next_as, step_as}
use Rattle.capture_rules.specs.Reading.{prepended, read_all}
use Rattle.capture_rules.proofs.Laws.{stands, reads_on, reads_none}
use Rattle.capture_export.proofs.Numbers.{InRange, in_range_lem}
use Rattle.capture_reader.specs.Capture.{first_place}
use Rattle.capture_export.specs.Words.{result_number, fault_in}
use Rattle.capture_scan.specs.declared.Tally.{Tally}
use Rattle.capture_scan.specs.Scan.{packed, sum_of, all_words}
use Rattle.capture_scan.specs.Tallies.{with_result, completed, empty_tally}

-- a sum in 64 bits of one in 64 bits
sum_again : (a b c : ℕ) → ((a + b) % 2 ^ 64 + c) % 2 ^ 64 ≡ (a + (b + c)) % 2 ^ 64
sum_again a b c = omega arith

-- a failure is no message, and keeps its place
pub failure_stays : (t : Tally) (f : Failure) → t.messages ≤ t.place
    → (with_result t (next_as (Err f))).messages ≤ (with_result t (next_as (Err f))).place
failure_stays t (Refused r) h = omega arith
failure_stays t (Violated v) h = omega arith

module _ (from : Role) (s : List ℕ) (t : Tally) where
  abbrev here : Result Message
  here = message_at from s t.place

  -- ---- a step at the tally's place

  module _ (step : Step) (told : step_as step ≡ step_at from s t.place) where
    pub found_here : here ≡ next_as step.next
    unfolding step_at
    found_here = sym (ap (λ (p : Result Message × ℕ). p.0) told)

    pub place_after_lem : step.place ≡ place_after t.place (next_as step.next)
    unfolding step_at
    place_after_lem = ap (λ (p : Result Message × ℕ). p.1) told ∙ ap (place_after t.place) found_here

  -- ---- one step more

  -- after a message the same is left to come to
  goes_on : (m : Message) → here ≡ ok m → completed from s (with_result t (ok m)) ≡ completed from s t
  unfolding completed
  goes_on m e =
      let rest = read_all from s (t.place + 4 + body_length m) in
      let all : read_all from s t.place ≡ prepended s t.place (ok m) rest = reads_on from s t.place m e in
      let count : t.messages + 1 + length rest.messages ≡ t.messages + length (prepended s t.place (ok m) rest).messages = omega arith in
      let sum = sum_again t.sum (packed m) (sum_of rest.messages) in
      rw (all, count, sum)

  -- without a message the tally is completed
  ends : ((m : Message) → here ≡ ok m → ⊥) → with_result t here ≡ completed from s t
  unfolding completed
  ends none = rw (reads_none from s t.place none) (go here none)
    where
      go : (r : Result Message) → ((m : Message) → r ≡ ok m → ⊥) → with_result t r ≡ with_result t (violation (fault (result_number r) (fault_in r)))
      go (ok m) not = absurd (not m refl)
      go (refused n) not = refl
      go (violation f) not = refl

-- a tally comes to another: while its number is 0 with all that is read from its place on, else as it is
pub record ComesTo (from : Role) (s : List ℕ) (whole t : Tally) : Type 0 where
  pub reading : t.number ≡ 0 → completed from s t ≡ whole
  pub done : (t.number ≡ 0 → ⊥) → t ≡ whole

-- how often a tally can still be asked for what is at its place, at most
abbrev pub left : List ℕ → Tally → ℕ
left s t = (1 - t.number) + (length s - t.place)

module _ (from : Role) (s : List ℕ) (t : Tally) where
  -- the step of a tally that is read on comes to the same, and leaves less
  pub stepped : t.number ≡ 0 → ComesTo from s (completed from s t) (with_result t (here from s t)) × (left s (with_result t (here from s t)) < left s t)
  stepped z = go (here from s t) refl
    where
      go : (r : Result Message) → here from s t ≡ r → ComesTo from s (completed from s t) (with_result t r) × (left s (with_result t r) < left s t)
      go (ok m) e =
          let long = (stands from s t.place m e).long in
          (record { reading = λ _. goes_on from s t m e; done = λ not. absurd (not refl) }, omega arith)
      go (refused n) e =
          let number = subst InRange e (in_range_lem from s t.place) in
          let same = ap (with_result t) (sym e) ∙ ends from s t (λ m q. refused_not_ok (sym e ∙ q)) in
          (record { reading = λ o. absurd (omega arith); done = λ _. same }, omega arith)
      go (violation f) e =
          let number = subst InRange e (in_range_lem from s t.place) in
          let same = ap (with_result t) (sym e) ∙ ends from s t (λ m q. violation_not_ok (sym e ∙ q)) in
          (record { reading = λ o. absurd (omega arith); done = λ _. same }, omega arith)

-- ---- the words of a tally

abbrev pub tally_words : Tally → List ℕ
tally_words t = t.number ∷ t.fault ∷ t.place ∷ t.messages ∷ t.sum ∷ []

-- a tally of nothing at the first place comes to all words
pub whole_words : (from : Role) (s : List ℕ) → tally_words (completed from s (empty_tally first_place)) ≡ all_words from s
unfolding completed all_words
whole_words from s = simp zero-add
