use Rattle.std.proofs.Common.{◌≡◌, ℕ, ◌+◌, List, ◌∷◌, [], ◌++◌, length, sym, ap, ◌∙◌, append_assoc, append-nil, arith, length-append}
use Rattle.arrayvec.specs.ArrayVec.{ArrayVec}
use Rattle.laws.proofs.Pick.{yes, no}
use Rattle.journal_rules.specs.Listing.{not_to_retry}
use Rattle.journal_read.proofs.Steps.{from, from_end, rest_is, list_on}
use Rattle.journal_read.proofs.open_starts.Goals as goal
use Rattle.journal_read.proofs.open_starts.Goals.{then-begins_open, else-begins_open}

pub loop-place-preserved : goal.loop-place-preserved
loop-place-preserved c =
    let es = c.args.entries.now in
    let v = c.loop-place.invariant in
    let k : ℕ = c.loop-place.place in
    let before : List ℕ = c.loop-place.serials.items in
    let rest : List ℕ = not_to_retry (k + 1) (from (k + 1) es) in
    let on = list_on es k (record { number = 0; kind = 0 }) c.loop-place-test.true in
    let told = c.begins_open.ensures ∙ rest_is es k in
    elim c.if-begins_open.branch [
      | then-begins_open w ↦
          let now : c.if-begins_open.serials.items ≡ before ++ (k + 1) ∷ [] = ap (λ (v : ArrayVec ℕ). v.items) w.serials-is ∙ w.push.ensures.items in
          record {
            few = omega (arith, v.few, ap length now, length-append before ((k + 1) ∷ []));
            all =
                ap (λ (l : List ℕ). l ++ rest) now ∙ append_assoc before ((k + 1) ∷ []) rest
                ∙ ap (λ (l : List ℕ). before ++ l) (sym (on ∙ yes _ _ _ (sym told ∙ w.if-begins_open.true)))
                ∙ v.all;
          }
      | else-begins_open w ↦
          let now : c.if-begins_open.serials.items ≡ before = ap (λ (v : ArrayVec ℕ). v.items) w.serials-is in
          record {
            few = omega (arith, v.few, ap length now);
            all =
                ap (λ (l : List ℕ). l ++ rest) now
                ∙ ap (λ (l : List ℕ). before ++ l) (sym (on ∙ no _ _ _ (sym told ∙ w.if-begins_open.false)))
                ∙ v.all;
          }
    ]

pub returns : goal.returns
unfolding not_to_retry
returns c =
    let es = c.args.entries.now in
    let v = c.loop-place.invariant in
    let all : List ℕ = c.loop-place.serials.items in
    c.of.ensures ∙ sym (append-nil all)
    ∙ ap (λ (l : List ℕ). all ++ l) (ap (not_to_retry c.loop-place.place) (sym (from_end c.loop-place.place es c.loop-place-test.false)))
    ∙ v.all
