-- What a search finds, by the region's size and its first bad block; and what each finding tells of the region.
use mathlib.Core.Path.{◌≡◌, refl, sym, ap, ◌∙◌}
use mathlib.Core.Bool.{Bool, true, false}
use mathlib.Core.List.{List}
use Prim.Native.Nat.{ℕ, ◌+◌, ◌-◌, ◌*◌, ◌%◌, ◌≤◌, ◌<◌}
use native.Mathlib.Omega.{arith}
use borrow.Author.Tests.{eq-eqb, ne_eqb, eqb-true}
use lib.ListN.{length, take, drop}
use Rattle.laws.specs.Pick.{pick}
use Rattle.laws.proofs.Pick.{yes, no}
use Rattle.journal_rules.specs.Region.{block_at, sized, blocks, first_bad, full}
use Rattle.journal_rules.proofs.Regions.{sized_bounds, sized_is}
use Rattle.std.specs.Prelude.{Result, Ok, Err}
use Rattle.refusal.specs.declared.Refusal.{Refusal}
use Rattle.refusal.specs.declared.Refusal.TheVariants.{WrongRoom}
use Rattle.journal_region.specs.declared.Search.{Search}
use Rattle.journal_region.specs.declared.Search.TheVariants.{BadAt, AllGood}
use Rattle.journal_region.specs.Search.{searched}

abbrev Found : Type 0
Found = Result Search Refusal

-- the part of a region from a block's first byte to its last one is the block
part_is : (r : List ℕ) (k : ℕ) → take (512 * k + 512 - 512 * k) (drop (512 * k) r) ≡ block_at r k
part_is r k = let e : 512 * k + 512 - 512 * k ≡ 512 = omega arith in ap (λ (n : ℕ). take n (drop (512 * k) r)) e

pub part_at : {i : ℕ} (r : List ℕ) (k : ℕ) → i ≡ k → take (512 * i + 512 - 512 * i) (drop (512 * i) r) ≡ block_at r k
part_at r k e = ap (λ (n : ℕ). take (512 * n + 512 - 512 * n) (drop (512 * n) r)) e ∙ part_is r k

module _ (r : List ℕ) where
  pub sized_rest : (length r % 512 ≡ 0 → ⊥) → sized r ≡ false
  sized_rest h = go (sized r) refl
    where
      go : (t : Bool) → sized r ≡ t → t ≡ false
      go false e = refl
      go true e = absurd (h (let l = (sized_bounds r e).2 in omega arith))

  pub sized_whole : 1 ≤ blocks r → blocks r ≤ 128 → length r % 512 ≡ 0 → sized r ≡ true
  sized_whole a b z = sym (sized_is r a b) ∙ eq-eqb (length r % 512) 0 z

  -- ---- what is found

  pub find_wrong : sized r ≡ false → Err WrongRoom ≡ searched r
  unfolding searched
  find_wrong h = sym (no (sized r) _ (Err WrongRoom) h)

  pub find_bad : (k : ℕ) → sized r ≡ true → k ≡ first_bad r → k < blocks r → Ok (BadAt k) ≡ searched r
  unfolding searched
  find_bad k h f b =
      ap (λ (n : ℕ). Ok (BadAt n)) f
      ∙ sym (yes (sized r) _ (Err WrongRoom) h ∙ ap Ok (no (full r) (AllGood (blocks r)) (BadAt (first_bad r)) (ne_eqb (first_bad r) (blocks r) (λ q. omega arith))))

  pub find_good : (n : ℕ) → sized r ≡ true → n ≡ blocks r → first_bad r ≡ blocks r → Ok (AllGood n) ≡ searched r
  unfolding searched
  find_good n h q f =
      ap (λ (m : ℕ). Ok (AllGood m)) q
      ∙ sym (yes (sized r) _ (Err WrongRoom) h ∙ ap Ok (yes (full r) (AllGood (blocks r)) (BadAt (first_bad r)) (eq-eqb (first_bad r) (blocks r) f)))

  -- ---- what a finding tells

  by_case : (s f : Bool) → sized r ≡ s → full r ≡ f → searched r ≡ pick s (Ok (pick f (AllGood (blocks r)) (BadAt (first_bad r)))) (Err WrongRoom)
  unfolding searched
  by_case s f p q = rw (p, q)

  pub record TellsWrong (e : Refusal) : Type 0 where
    pub not_sized : sized r ≡ false
    pub why : e ≡ WrongRoom

  pub tells_wrong : (e : Refusal) → Err e ≡ searched r → TellsWrong e
  unfolding pick
  tells_wrong e h = go (sized r) (full r) refl refl
    where
      go : (s f : Bool) → sized r ≡ s → full r ≡ f → TellsWrong e
      go false f p q = let z : ◌≡◌ {A = Found} (Err e) (Err WrongRoom) = h ∙ by_case false f p q in record { not_sized = p; why = cc }
      go true true p q = let z : ◌≡◌ {A = Found} (Err e) (Ok (AllGood (blocks r))) = h ∙ by_case true true p q in absurd cc
      go true false p q = let z : ◌≡◌ {A = Found} (Err e) (Ok (BadAt (first_bad r))) = h ∙ by_case true false p q in absurd cc

  pub record TellsBad (k : ℕ) : Type 0 where
    pub is_sized_lem : sized r ≡ true
    pub not_full : full r ≡ false
    pub place : k ≡ first_bad r

  pub tells_bad : (k : ℕ) → Ok (BadAt k) ≡ searched r → TellsBad k
  unfolding pick
  tells_bad k h = go (sized r) (full r) refl refl
    where
      go : (s f : Bool) → sized r ≡ s → full r ≡ f → TellsBad k
      go false f p q = let z : ◌≡◌ {A = Found} (Ok (BadAt k)) (Err WrongRoom) = h ∙ by_case false f p q in absurd cc
      go true true p q = let z : ◌≡◌ {A = Found} (Ok (BadAt k)) (Ok (AllGood (blocks r))) = h ∙ by_case true true p q in absurd cc
      go true false p q = let z : ◌≡◌ {A = Found} (Ok (BadAt k)) (Ok (BadAt (first_bad r))) = h ∙ by_case true false p q in record { is_sized_lem = p; not_full = q; place = cc }

  pub record TellsGood (n : ℕ) : Type 0 where
    pub is_sized_lem : sized r ≡ true
    pub is_full : full r ≡ true
    pub place : n ≡ first_bad r

  pub tells_good : (n : ℕ) → Ok (AllGood n) ≡ searched r → TellsGood n
  unfolding pick
  tells_good k h = go (sized r) (full r) refl refl
    where
      go : (s f : Bool) → sized r ≡ s → full r ≡ f → TellsGood k
      go false f p q = let z : ◌≡◌ {A = Found} (Ok (AllGood k)) (Err WrongRoom) = h ∙ by_case false f p q in absurd cc
      go true false p q = let z : ◌≡◌ {A = Found} (Ok (AllGood k)) (Ok (BadAt (first_bad r))) = h ∙ by_case true false p q in absurd cc
      go true true p q = let z : ◌≡◌ {A = Found} (Ok (AllGood k)) (Ok (AllGood (blocks r))) = h ∙ by_case true true p q in
          record { is_sized_lem = p; is_full = q; place = (let c : k ≡ blocks r = cc in c) ∙ sym (eqb-true (first_bad r) (blocks r) q) }

  pub found_sized : (s : Search) → Ok s ≡ searched r → sized r ≡ true
  found_sized (BadAt k) e = (tells_bad k e).is_sized_lem
  found_sized (AllGood n) e = (tells_good n e).is_sized_lem
