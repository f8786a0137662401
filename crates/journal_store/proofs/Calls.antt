-- What a store and a repair answer and leave: refused, written whole, or cut.
use mathlib.Core.Path.{◌≡◌, refl, sym, ap, ap₂, ◌∙◌}
use mathlib.Core.Bool.{true, false}
use mathlib.Core.List.{List}
use Prim.Native.Nat.{ℕ, suc, ◌+◌, ◌*◌, ◌≤◌, ◌<◌, min}
use native.Mathlib.Omega.{arith}
use native.Mathlib.Numerals.{add-one}
use borrow.Author.Rules.{rules}
use borrow.Author.Tests.{eq-eqb, ne_eqb, eqb-true, eqb-false}
use lib.Dec.{eqb}
use lib.ListN.{length, replicate}
use lib.Seq.{paste}
use Rattle.laws.specs.Result.{Result as Answer, ok, refused}
use Rattle.laws.proofs.Pick.{yes, no}
use Rattle.journal_rules.specs.Block.{JournalEntry, block_of}
use Rattle.journal_rules.specs.Region.{sized, blocks, full, first_bad, store_refusal}
use Rattle.journal_rules.specs.Calls.{Reached, none_bad, reached, store_call, repair_call}
use Rattle.journal_rules.proofs.Regions.{sized_bounds, first_bad_lem, refused_8, refused_3, refused_12, refused_16, refused_0, stored_none, stored_some, repaired_none, repaired_some}
use Rattle.std.specs.Prelude.{Result, Ok}
use Rattle.std.proofs.lemmas.List.{take_all}
use Rattle.refusal.specs.declared.Refusal.{Refusal}
use Rattle.journal_region.specs.declared.Search.{Search}
use Rattle.journal_region.specs.declared.Search.TheVariants.{BadAt, AllGood}
use Rattle.journal_region.specs.Search.{searched}
use Rattle.journal_region.proofs.Found.{TellsBad, tells_good}

-- ---- what a search told

-- what a search told of a part that is the whole region, it told of the region
pub told : {f : Result Search Refusal} {part : List ℕ} (r : List ℕ) → f ≡ searched part → part ≡ r → f ≡ searched r
told r e h = e ∙ ap searched h

-- what shows that a part is the whole
pub ruleset whole = (rules, arith, take_all)

-- no block is bad
pub none_left : (r : List ℕ) (s : Search) → Ok s ≡ searched r → ((p : ℕ) → s ≡ BadAt p → ⊥) → (sized r ≡ true) × (full r ≡ true)
none_left r (BadAt p) e k = absurd (k p refl)
none_left r (AllGood n) e k = let t = tells_good r n e in (t.is_sized_lem, t.is_full)

module _ (r : List ℕ) (k : ℕ) (t : TellsBad r k) where
  pub record Room : Type 0 where
    pub place : k < 128
    pub block : 512 * k + 512 ≤ length r

  pub has_room_lem : Room
  has_room_lem =
      let b = sized_bounds r t.is_sized_lem in
      let n : first_bad r ≡ blocks r → ⊥ = eqb-false (first_bad r) (blocks r) t.not_full in
      let inside : k < blocks r = omega (arith, t.place, n, (first_bad_lem r).within) in
      record { place = omega arith; block = omega arith }

  answered : (j : ℕ) (x : Reached) → x ≡ reached j (k + 1) → x ≡ reached j (suc (first_bad r))
  answered j x q = q ∙ ap (reached j) (add-one k ∙ ap suc t.place)

-- ---- a store

module _ (r : List ℕ) (e : JournalEntry) (j : ℕ) where
  -- what is refused changes nothing
  refused_by : (n : ℕ) → store_refusal r e ≡ n → (n ≡ 0 → ⊥) → (refused n, r) ≡ store_call r e j
  unfolding store_call
  refused_by n q z =
      let other : store_refusal r e ≡ 0 → ⊥ = λ y. z (sym q ∙ y) in
      ap₂ (λ (x : Answer Reached) (l : List ℕ). (x, l))
      (sym (no (eqb (store_refusal r e) 0) _ (refused (store_refusal r e)) (ne_eqb (store_refusal r e) 0 other) ∙ ap refused q))
      (sym (stored_none r e other j))

  pub store_8 : sized r ≡ false → (refused 8, r) ≡ store_call r e j
  store_8 h = refused_by 8 (refused_8 r e h) (λ z. absurd (omega arith))

  pub store_3 : sized r ≡ true → 127 < e.number → (refused 3, r) ≡ store_call r e j
  store_3 h n = refused_by 3 (refused_3 r e h n) (λ z. absurd (omega arith))

  pub store_12 : sized r ≡ true → e.number ≤ 127 → 3 < e.kind → (refused 12, r) ≡ store_call r e j
  store_12 h n d = refused_by 12 (refused_12 r e h n d) (λ z. absurd (omega arith))

  pub store_16 : sized r ≡ true → e.number ≤ 127 → e.kind ≤ 3 → full r ≡ true → (refused 16, r) ≡ store_call r e j
  store_16 h n d f = refused_by 16 (refused_16 r e h n d (eqb-true (first_bad r) (blocks r) f)) (λ z. absurd (omega arith))

module _ (r : List ℕ) (k : ℕ) (t : TellsBad r k) (e : JournalEntry) (number : e.number ≤ 127) (kind : e.kind ≤ 3) where
  taken : store_refusal r e ≡ 0
  taken = refused_0 r e t.is_sized_lem number kind (eqb-false (first_bad r) (blocks r) t.not_full)

  module _ (j : ℕ) (block after : List ℕ) (made : block ≡ block_of (k + 1) e) (wrote : after ≡ paste r (512 * k) block (min j 512)) where
    pub store_done : (x : Reached) → x ≡ reached j (k + 1) → (ok x, after) ≡ store_call r e j
    unfolding store_call
    store_done x q =
        ap₂ (λ (x : Answer Reached) (l : List ℕ). (x, l))
        (ap ok (answered r k t j x q) ∙ sym (yes (eqb (store_refusal r e) 0) (ok (reached j (suc (first_bad r)))) _ (eq-eqb (store_refusal r e) 0 taken)))
        (wrote ∙ ap (λ (b : List ℕ). paste r (512 * k) b (min j 512)) (made ∙ ap (λ (x : ℕ). block_of x e) (add-one k))
        ∙ ap (λ (x : ℕ). paste r (512 * x) (block_of (suc x) e) (min j 512)) t.place ∙ sym (stored_some r e taken j))

-- ---- a repair

module _ (r : List ℕ) (j : ℕ) where
  pub repair_8 : sized r ≡ false → (refused 8, r) ≡ repair_call r j
  unfolding repair_call
  repair_8 h =
      ap₂ (λ (x : Answer Reached) (l : List ℕ). (x, l)) (sym (no (sized r) _ (refused 8) h)) (sym (repaired_none r j (rw h)))

  pub repair_none : sized r ≡ true → full r ≡ true → (ok none_bad, r) ≡ repair_call r j
  unfolding repair_call
  repair_none h f =
      ap₂ (λ (x : Answer Reached) (l : List ℕ). (x, l))
      (sym (yes (sized r) _ (refused 8) h ∙ ap ok (yes (full r) none_bad _ f))) (sym (repaired_none r j (rw (h, f))))

module _ (r : List ℕ) (k : ℕ) (t : TellsBad r k) (j : ℕ) (after : List ℕ) (wrote : after ≡ paste r (512 * k) (replicate 512 0) (min j 512)) where
  pub repair_done : (x : Reached) → x ≡ reached j (k + 1) → (ok x, after) ≡ repair_call r j
  unfolding repair_call
  repair_done x q =
      ap₂ (λ (x : Answer Reached) (l : List ℕ). (x, l))
      (ap ok (answered r k t j x q) ∙ sym (yes (sized r) _ (refused 8) t.is_sized_lem ∙ ap ok (no (full r) none_bad _ t.not_full)))
      (wrote ∙ ap (λ (x : ℕ). paste r (512 * x) (replicate 512 0) (min j 512)) t.place ∙ sym (repaired_some r j t.is_sized_lem t.not_full))
