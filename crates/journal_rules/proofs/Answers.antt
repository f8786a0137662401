-- What a store and a repair answer, and all that is claimed of a region.
use mathlib.Core.Path.{◌≡◌, refl, sym, ap, ◌∙◌}
use mathlib.Core.Bool.{Bool, true, false}
use mathlib.Core.List.{List}
use Prim.Native.Nat.{ℕ, suc, ◌≤◌, ◌<◌}
use native.Mathlib.Omega.{arith}
use borrow.Author.Tests.{eqb-true, le-leb, lt-leb, eq-eqb, ne_eqb}
use lib.Dec.{eqb, leb}
use Rattle.laws.specs.Pick.{pick}
use Rattle.laws.specs.Result.{ok, refused}
use Rattle.laws.proofs.Pick.{yes, no}
use Rattle.laws.proofs.Tests.{true_false}
use Rattle.journal_rules.specs.Block.{JournalEntry}
use Rattle.journal_rules.specs.Region.{blocks, sized, first_bad, full, store_refusal}
use Rattle.journal_rules.specs.Calls.{Reached, written_whole, cut_after, none_bad, reached, store_call, repair_call}
use Rattle.journal_rules.specs.Claims.{WholeBlocks, StoreTells, RepairTells, RegionClaims}
use Rattle.journal_rules.proofs.Regions.{sized_exactly, first_bad_lem, refusals, refused_16_exactly, store_frame, repair_frame, front_to_back}

-- ---- what a store and a repair answer

-- how far a store came, as a number
abbrev serial_in : Reached → ℕ
serial_in (written_whole s) = s
serial_in (cut_after j) = 0
serial_in none_bad = 0

abbrev is_whole : Reached → Bool
is_whole (written_whole s) = true
is_whole (cut_after j) = false
is_whole none_bad = false

pub reached_whole : (j s serial : ℕ) → reached j serial ≡ written_whole s → (s ≡ serial) × (leb 512 j ≡ true)
reached_whole j s serial q = go (leb 512 j) refl
  where
    go : (t : Bool) → leb 512 j ≡ t → (s ≡ serial) × (leb 512 j ≡ true)
    go true l = (sym (ap serial_in q) ∙ ap serial_in (yes (leb 512 j) (written_whole serial) (cut_after j) l), l)
    go false l = absurd (true_false refl (ap is_whole (sym q) ∙ ap is_whole (no (leb 512 j) (written_whole serial) (cut_after j) l)))

ok_inside : {A : Type 0} (b : Bool) (a c : A) (n : ℕ) → pick b (ok a) (refused n) ≡ ok c → (b ≡ true) × (a ≡ c)
unfolding pick
ok_inside true a c n q = (refl, cc)
ok_inside false a c n q = absurd (let z : ◌≡◌ {A = ℕ} 0 1 = cc in omega arith)

pub store_reached : (r : List ℕ) (e : JournalEntry) (j s : ℕ) → (store_call r e j).0 ≡ ok (written_whole s)
    → (store_refusal r e ≡ 0) × (s ≡ suc (first_bad r)) × (leb 512 j ≡ true)
unfolding store_call
store_reached r e j s q =
    let o = ok_inside (eqb (store_refusal r e) 0) (reached j (suc (first_bad r))) (written_whole s) (store_refusal r e) q in
    let w = reached_whole j s (suc (first_bad r)) o.1 in
    (eqb-true (store_refusal r e) 0 o.0, w.0, w.1)

reached_so : (j serial : ℕ) → (512 ≤ j → reached j serial ≡ written_whole serial) × (j < 512 → reached j serial ≡ cut_after j)
reached_so j serial =
    (λ h. yes (leb 512 j) (written_whole serial) (cut_after j) (le-leb 512 j h), λ h. no (leb 512 j) (written_whole serial) (cut_after j) (lt-leb 512 j h))

pub store_tells : (r : List ℕ) (e : JournalEntry) (j : ℕ) → StoreTells r e j
unfolding store_call
store_tells r e j =
    record {
      leaves = refl;
      refused_so = λ z. no (eqb (store_refusal r e) 0) (ok (reached j (suc (first_bad r)))) (refused (store_refusal r e)) (ne_eqb (store_refusal r e) 0 z);
      whole = λ z h. taken z ∙ ap ok ((reached_so j (suc (first_bad r))).0 h ∙ ap (λ (s : ℕ). written_whole (suc s)) (sym (first_bad_lem r).count));
      cut = λ z h. taken z ∙ ap ok ((reached_so j (suc (first_bad r))).1 h);
    }
  where
    taken : store_refusal r e ≡ 0 → pick (eqb (store_refusal r e) 0) (ok (reached j (suc (first_bad r)))) (refused (store_refusal r e)) ≡ ok (reached j (suc (first_bad r)))
    taken z = yes (eqb (store_refusal r e) 0) (ok (reached j (suc (first_bad r)))) (refused (store_refusal r e)) (eq-eqb (store_refusal r e) 0 z)

pub repair_tells : (r : List ℕ) (j : ℕ) → RepairTells r j
unfolding repair_call
repair_tells r j =
    record {
      leaves = refl;
      eight = λ h. unsized (sized r) refl h;
      none = λ w f. is_sized_lem w ∙ ap ok (yes (full r) none_bad (reached j (suc (first_bad r))) (eq-eqb (first_bad r) (blocks r) f));
      whole = λ w b h.
          is_sized_lem w
          ∙ ap ok (not_none b ∙ (reached_so j (suc (first_bad r))).0 h ∙ ap (λ (s : ℕ). written_whole (suc s)) (sym (first_bad_lem r).count));
      cut = λ w b h. is_sized_lem w ∙ ap ok (not_none b ∙ (reached_so j (suc (first_bad r))).1 h);
    }
  where
    answer : Reached
    answer = pick (full r) none_bad (reached j (suc (first_bad r)))

    is_sized_lem : WholeBlocks r → pick (sized r) (ok answer) (refused 8) ≡ ok answer
    is_sized_lem w = yes (sized r) (ok answer) (refused 8) ((sized_exactly r).1 w)

    unsized : (t : Bool) → sized r ≡ t → (WholeBlocks r → ⊥) → pick (sized r) (ok answer) (refused 8) ≡ refused 8
    unsized false q h = no (sized r) (ok answer) (refused 8) q
    unsized true q h = absurd (h ((sized_exactly r).0 q))

    not_none : first_bad r < blocks r → pick (full r) none_bad (reached j (suc (first_bad r))) ≡ reached j (suc (first_bad r))
    not_none b = no (full r) none_bad (reached j (suc (first_bad r))) (ne_eqb (first_bad r) (blocks r) (λ q. omega arith))

-- ---- all of a region

pub region_claims : (r : List ℕ) → RegionClaims r
region_claims r =
    record {
      sized_exactly = sized_exactly r;
      first_bad_lem = first_bad_lem r;
      store_frame = store_frame r;
      repair_frame = repair_frame r;
      front_to_back = front_to_back r;
      refusals = refusals r;
      refused_16 = refused_16_exactly r;
      store_tells = store_tells r;
      repair_tells = repair_tells r;
    }
