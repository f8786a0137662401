-- The place of the first byte that is not as a connection header has it, by its bytes up to that one.
use Rattle.std.proofs.Common.{◌≡◌, ℕ, ◌<◌, Bool, false, ◌&&◌, List, get_or, refl, sym, ◌∙◌}
use lib.Dec.{eqb}
use Rattle.laws.specs.Pick.{pick}
use borrow.Author.Tests.{eq-eqb, ne_eqb}
use Rattle.wire.specs.Layout.{fixed, first_wrong}
use Rattle.wire.specs.Connection.{connection_layout}
use Rattle.wire.proofs.Tables.{header_fixed, header_wrong, first_of_six}

-- the bytes that a header fixes, each with its test
module _ (h : List ℕ) (small : (i : ℕ) → get_or h i 0 < 256) where
  abbrev tested : Bool → Bool → Bool → Bool → Bool → Bool → Bool
  tested p q r s t u = (((p && q) && (r && s)) && t) && u

  wrong : {p q r s t u : Bool} → eqb (get_or h 0 0) 0x4A ≡ p → eqb (get_or h 1 0) 0x6D ≡ q → eqb (get_or h 2 0) 0x75 ≡ r → eqb (get_or h 3 0) 0x78 ≡ s
      → eqb (get_or h 4 0) 0x01 ≡ t → eqb (get_or h 7 0) 0x00 ≡ u → tested p q r s t u ≡ false
      → (fixed connection_layout h ≡ false) × (first_of_six p q r s t false ≡ first_wrong connection_layout h)
  unfolding first_wrong
  wrong p q r s t u e =
      let bad : fixed connection_layout h ≡ false =
      sym (header_fixed (get_or h 0 0) (get_or h 1 0) (get_or h 2 0) (get_or h 3 0) (get_or h 4 0) (get_or h 7 0) (small 0) (small 1) (small 2) (small 3) (small 4) (small 7) (get_or h 5 0) (get_or h 6 0))
      ∙ rw (p, q, r, s, t, u) e in
      (bad, rw (← p, ← q, ← r, ← s, ← t) (header_wrong (get_or h 0 0) (get_or h 1 0) (get_or h 2 0) (get_or h 3 0) (get_or h 4 0) (small 0) (small 1) (small 2) (small 3) (small 4) (get_or h 5 0) (get_or h 6 0) (get_or h 7 0) bad))

  pub at_7 : get_or h 0 0 ≡ 0x4A → get_or h 1 0 ≡ 0x6D → get_or h 2 0 ≡ 0x75 → get_or h 3 0 ≡ 0x78 → get_or h 4 0 ≡ 0x01 → (get_or h 7 0 ≡ 0x00 → ⊥)
      → (fixed connection_layout h ≡ false) × (7 ≡ first_wrong connection_layout h)
  unfolding pick
  at_7 a b c d e f = wrong (eq-eqb _ _ a) (eq-eqb _ _ b) (eq-eqb _ _ c) (eq-eqb _ _ d) (eq-eqb _ _ e) (ne_eqb _ _ f) refl

  pub at_4 : get_or h 0 0 ≡ 0x4A → get_or h 1 0 ≡ 0x6D → get_or h 2 0 ≡ 0x75 → get_or h 3 0 ≡ 0x78 → (get_or h 4 0 ≡ 0x01 → ⊥)
      → (fixed connection_layout h ≡ false) × (4 ≡ first_wrong connection_layout h)
  unfolding pick
  at_4 a b c d e = wrong (eq-eqb _ _ a) (eq-eqb _ _ b) (eq-eqb _ _ c) (eq-eqb _ _ d) (ne_eqb _ _ e) refl refl

  pub at_3 : get_or h 0 0 ≡ 0x4A → get_or h 1 0 ≡ 0x6D → get_or h 2 0 ≡ 0x75 → (get_or h 3 0 ≡ 0x78 → ⊥)
      → (fixed connection_layout h ≡ false) × (3 ≡ first_wrong connection_layout h)
  unfolding pick
  at_3 a b c d = wrong (eq-eqb _ _ a) (eq-eqb _ _ b) (eq-eqb _ _ c) (ne_eqb _ _ d) refl refl refl

  pub at_2 : get_or h 0 0 ≡ 0x4A → get_or h 1 0 ≡ 0x6D → (get_or h 2 0 ≡ 0x75 → ⊥)
      → (fixed connection_layout h ≡ false) × (2 ≡ first_wrong connection_layout h)
  unfolding pick
  at_2 a b c = wrong (eq-eqb _ _ a) (eq-eqb _ _ b) (ne_eqb _ _ c) refl refl refl refl

  pub at_1 : get_or h 0 0 ≡ 0x4A → (get_or h 1 0 ≡ 0x6D → ⊥)
      → (fixed connection_layout h ≡ false) × (1 ≡ first_wrong connection_layout h)
  unfolding pick
  at_1 a b = wrong (eq-eqb _ _ a) (ne_eqb _ _ b) refl refl refl refl refl

  pub at_0 : (get_or h 0 0 ≡ 0x4A → ⊥)
      → (fixed connection_layout h ≡ false) × (0 ≡ first_wrong connection_layout h)
  unfolding pick
  at_0 a = wrong (ne_eqb _ _ a) refl refl refl refl refl refl
