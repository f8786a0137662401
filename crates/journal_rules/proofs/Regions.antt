-- A region: its size, its first bad block, the refusals of a store, and what a store and a repair leave.
use mathlib.Core.Path.{◌≡◌, refl, sym, ap, subst, ◌∙◌}
use mathlib.Core.Bool.{Bool, true, false, not, ◌&&◌}
use mathlib.Core.List.{List, [], ◌∷◌}
use Prim.Native.Nat.{ℕ, zero, suc, ◌+◌, ◌-◌, ◌*◌, ◌%◌, ◌≤◌, ◌<◌, min}
use native.Mathlib.Omega.{arith}
use native.Mathlib.Numerals.{add-one}
use borrow.Author.Tests.{eqb-true, eqb-false, leb-true, leb-false, ltb-false, ltb-true, le-leb, lt-leb, le-ltb, lt-ltb, eq-eqb, ne_eqb}
use lib.Dec.{eqb, leb, ltb}
use lib.ListN.{length, get_or, replicate, get_or-replicate}
use lib.Seq.{paste, length-paste}
use Rattle.laws.specs.Pick.{pick}
use Rattle.laws.proofs.Pick.{yes, no}
use Rattle.laws.proofs.Tests.{and_first, and_second, and_both, not_true, true_false}
use Rattle.journal_rules.specs.Block.{JournalEntry, block_of}
use Rattle.journal_rules.specs.Region.{block_at, entry_in, entries_from, good, blocks, sized, first_bad_from, first_bad, full, store_refusal, stored, repaired}
use Rattle.journal_rules.specs.Claims.{WholeBlocks, SizedExactly, FirstBad, Frame, FrontToBack, Refusals, Refused16}
use Rattle.journal_rules.proofs.Blocks.{length_block, paste_before, paste_after, paste_in}

-- ---- the size

module _ (r : List ℕ) where
  pub sized_low : blocks r < 1 → sized r ≡ false
  sized_low h = rw (lt-leb 1 (blocks r) h)

  pub sized_high : 128 < blocks r → sized r ≡ false
  sized_high h = let p : leb 1 (blocks r) ≡ true = le-leb 1 (blocks r) (omega arith) in rw (p, lt-leb (blocks r) 128 h)

  pub sized_is : 1 ≤ blocks r → blocks r ≤ 128 → eqb (length r % 512) 0 ≡ sized r
  sized_is g h = rw (le-leb 1 (blocks r) g, le-leb (blocks r) 128 h)

  pub sized_bounds : sized r ≡ true → (1 ≤ blocks r) × (blocks r ≤ 128) × (length r ≡ 512 * blocks r)
  sized_bounds h =
      let t : (leb (blocks r) 128 && eqb (length r % 512) 0) ≡ true = and_second (leb 1 (blocks r)) _ h in
      let z : length r % 512 ≡ 0 = eqb-true (length r % 512) 0 (and_second (leb (blocks r) 128) _ t) in
      (leb-true 1 (blocks r) (and_first (leb 1 (blocks r)) _ h), leb-true (blocks r) 128 (and_first (leb (blocks r) 128) _ t), omega arith)

pub sized_exactly : (r : List ℕ) → SizedExactly r
sized_exactly r = (
  λ h.
      let b = sized_bounds r h in record { count = blocks r; low = b.0; high = b.1; is = b.2 },
  λ w.
      let l : length r ≡ 512 * w.count = w.is in
      let low : 1 ≤ w.count = w.low in
      let high : w.count ≤ 128 = w.high in
      and_both (le-leb 1 (blocks r) (omega arith)) (and_both (le-leb (blocks r) 128 (omega arith)) (eq-eqb (length r % 512) 0 (omega arith))),
)

-- ---- the first bad block

module _ (r : List ℕ) (n k : ℕ) where
  pub first_on : k < n → good k (block_at r k) ≡ true → first_bad_from (n - k) k r ≡ first_bad_from (n - (k + 1)) (k + 1) r
  unfolding first_bad_from
  first_on h g =
      let e : n - k ≡ suc (n - (k + 1)) = omega arith in
      ap (λ (m : ℕ). first_bad_from m k r) e ∙ yes (good k (block_at r k)) (first_bad_from (n - (k + 1)) (suc k) r) k g
      ∙ ap (λ (m : ℕ). first_bad_from (n - (k + 1)) m r) (sym (add-one k))

  pub first_here : k < n → good k (block_at r k) ≡ false → first_bad_from (n - k) k r ≡ k
  unfolding first_bad_from
  first_here h g =
      let e : n - k ≡ suc (n - (k + 1)) = omega arith in
      ap (λ (m : ℕ). first_bad_from m k r) e ∙ no (good k (block_at r k)) (first_bad_from (n - (k + 1)) (suc k) r) k g

  pub first_none : n ≤ k → first_bad_from (n - k) k r ≡ k
  unfolding first_bad_from
  first_none h = let e : n - k ≡ 0 = omega arith in ap (λ (m : ℕ). first_bad_from m k r) e

-- what the search from a place on finds
record Found (r : List ℕ) (n k found : ℕ) : Type 0 where
  low : k ≤ found
  high : found ≤ k + n
  before : (i : ℕ) → k ≤ i → i < found → good i (block_at r i) ≡ true
  is_bad : found < k + n → good found (block_at r found) ≡ true → ⊥

found_from : (r : List ℕ) (n k : ℕ) → Found r n k (first_bad_from n k r)
unfolding first_bad_from pick
found_from r zero k =
    record { low = omega arith; high = omega arith; before = λ i a b. absurd (omega arith); is_bad = λ h. absurd (omega arith) }
found_from r (suc n) k = go (good k (block_at r k)) refl (found_from r n (suc k))
  where
    go : (t : Bool) → good k (block_at r k) ≡ t → Found r n (suc k) (first_bad_from n (suc k) r)
        → Found r (suc n) k (pick t (first_bad_from n (suc k) r) k)
    go false g F =
        record {
          low = omega arith;
          high = omega arith;
          before = λ i a b. absurd (omega arith);
          is_bad = λ h e. true_false e g;
        }
    go true g F =
        record {
          low = omega (arith, F.low);
          high = omega (arith, F.high);
          before = λ i a b. at_or_behind i a b (leb (suc k) i) refl;
          is_bad = λ h. F.is_bad (omega arith);
        }
      where
        at_or_behind : (i : ℕ) → k ≤ i → i < first_bad_from n (suc k) r → (t : Bool) → leb (suc k) i ≡ t → good i (block_at r i) ≡ true
        at_or_behind i a b true e = F.before i (leb-true (suc k) i e) b
        at_or_behind i a b false e =
            let same_place : k ≡ i = omega (arith, leb-false (suc k) i e) in subst (λ (m : ℕ). good m (block_at r m) ≡ true) same_place g

-- as many entries are read as good blocks stand before the first bad one
counted : (r : List ℕ) (n k : ℕ) → length (entries_from n k r) + k ≡ first_bad_from n k r
unfolding first_bad_from entries_from pick
counted r zero k = omega arith
counted r (suc n) k = go (good k (block_at r k)) (counted r n (suc k))
  where
    go : (t : Bool) → length (entries_from n (suc k) r) + suc k ≡ first_bad_from n (suc k) r
        → length (pick t (entry_in (block_at r k) ∷ entries_from n (suc k) r) []) + k ≡ pick t (first_bad_from n (suc k) r) k
    go false ih = omega arith
    go true ih = omega arith

pub first_bad_lem : (r : List ℕ) → FirstBad r
first_bad_lem r =
    let F : Found r (blocks r) 0 (first_bad r) = found_from r (blocks r) 0 in
    record {
      within = omega (arith, F.high);
      count = omega (arith, counted r (blocks r) 0);
      before = λ k h. F.before k (omega arith) h;
      is_bad = λ h. F.is_bad (omega arith);
    }

all_good : (r : List ℕ) → ((k : ℕ) → k < blocks r → good k (block_at r k) ≡ true) → first_bad r ≡ blocks r
all_good r g = go (ltb (first_bad r) (blocks r)) refl
  where
    go : (t : Bool) → ltb (first_bad r) (blocks r) ≡ t → first_bad r ≡ blocks r
    go false e = omega (arith, ltb-false (first_bad r) (blocks r) e, (first_bad_lem r).within)
    go true e =
        let h : first_bad r < blocks r = ltb-true (first_bad r) (blocks r) e in absurd ((first_bad_lem r).is_bad h (g (first_bad r) h))

-- ---- the refusals of a store, in their order, and what a store leaves

module _ (r : List ℕ) (e : JournalEntry) where
  pub refused_8 : sized r ≡ false → store_refusal r e ≡ 8
  unfolding store_refusal
  refused_8 h = yes (not (sized r)) 8 _ (ap not h)

  pub refused_3 : sized r ≡ true → 127 < e.number → store_refusal r e ≡ 3
  unfolding store_refusal
  refused_3 h n = no (not (sized r)) 8 _ (ap not h) ∙ yes (ltb 127 e.number) 3 _ (lt-ltb 127 e.number n)

  pub refused_12 : sized r ≡ true → e.number ≤ 127 → 3 < e.kind → store_refusal r e ≡ 12
  unfolding store_refusal
  refused_12 h n k =
      no (not (sized r)) 8 _ (ap not h) ∙ no (ltb 127 e.number) 3 _ (le-ltb 127 e.number n)
      ∙ yes (ltb 3 e.kind) 12 _ (lt-ltb 3 e.kind k)

  by_full : sized r ≡ true → e.number ≤ 127 → e.kind ≤ 3 → store_refusal r e ≡ pick (full r) 16 0
  unfolding store_refusal
  by_full h n k =
      no (not (sized r)) 8 _ (ap not h) ∙ no (ltb 127 e.number) 3 _ (le-ltb 127 e.number n)
      ∙ no (ltb 3 e.kind) 12 _ (le-ltb 3 e.kind k)

  pub refused_16 : sized r ≡ true → e.number ≤ 127 → e.kind ≤ 3 → first_bad r ≡ blocks r → store_refusal r e ≡ 16
  refused_16 h n k f = by_full h n k ∙ yes (full r) 16 0 (eq-eqb (first_bad r) (blocks r) f)

  pub refused_0 : sized r ≡ true → e.number ≤ 127 → e.kind ≤ 3 → (first_bad r ≡ blocks r → ⊥) → store_refusal r e ≡ 0
  refused_0 h n k f = by_full h n k ∙ no (full r) 16 0 (ne_eqb (first_bad r) (blocks r) f)

  pub stored_none : (store_refusal r e ≡ 0 → ⊥) → (j : ℕ) → stored r e j ≡ r
  unfolding stored
  stored_none z j = no (eqb (store_refusal r e) 0) _ r (ne_eqb (store_refusal r e) 0 z)

  pub stored_some : store_refusal r e ≡ 0 → (j : ℕ) → stored r e j ≡ paste r (512 * first_bad r) (block_of (suc (first_bad r)) e) (min j 512)
  unfolding stored
  stored_some q j = yes (eqb (store_refusal r e) 0) _ r (eq-eqb (store_refusal r e) 0 q)

  -- what a store that is not refused needs
  pub record Accepted : Type 0 where
    pub is_sized_lem : sized r ≡ true
    pub number : e.number ≤ 127
    pub kind : e.kind ≤ 3

  -- a number below 16 other than 16 is answered first
  pub from_refusal : (n : ℕ) → store_refusal r e ≡ n → (n ≡ 8 → ⊥) → (n ≡ 3 → ⊥) → (n ≡ 12 → ⊥) → Accepted
  from_refusal n q n8 n3 n12 = by_size (sized r) refl
    where
      by_kind : sized r ≡ true → e.number ≤ 127 → (t : Bool) → ltb 3 e.kind ≡ t → Accepted
      by_kind h l true k = absurd (n12 (sym q ∙ refused_12 h l (ltb-true 3 e.kind k)))
      by_kind h l false k = record { is_sized_lem = h; number = l; kind = ltb-false 3 e.kind k }

      by_number : sized r ≡ true → (t : Bool) → ltb 127 e.number ≡ t → Accepted
      by_number h true k = absurd (n3 (sym q ∙ refused_3 h (ltb-true 127 e.number k)))
      by_number h false k = by_kind h (ltb-false 127 e.number k) (ltb 3 e.kind) refl

      by_size : (t : Bool) → sized r ≡ t → Accepted
      by_size false h = absurd (n8 (sym q ∙ refused_8 h))
      by_size true h = by_number h (ltb 127 e.number) refl

  pub refusals : Refusals r e
  refusals =
      record {
        eight = λ h. refused_8 (unsized (sized r) refl h);
        three = λ w n. refused_3 ((sized_exactly r).1 w) n;
        twelve = λ w n k. refused_12 ((sized_exactly r).1 w) n k;
      }
    where
      unsized : (t : Bool) → sized r ≡ t → (WholeBlocks r → ⊥) → sized r ≡ false
      unsized false q h = q
      unsized true q h = absurd (h ((sized_exactly r).0 q))

  pub refused_16_exactly : Refused16 r e
  refused_16_exactly = (there, λ h. refused_16 ((sized_exactly r).1 h.0) h.1 h.2 (all_good r h.3))
    where
      there : store_refusal r e ≡ 16 → WholeBlocks r × (e.number ≤ 127) × (e.kind ≤ 3) × ((k : ℕ) → k < blocks r → good k (block_at r k) ≡ true)
      there q = ((sized_exactly r).0 A.is_sized_lem, A.number, A.kind, λ k h. (first_bad_lem r).before k (omega (arith, is_full (full r) refl)))
        where
          A : Accepted
          A = from_refusal 16 q (λ z. absurd (omega arith)) (λ z. absurd (omega arith)) (λ z. absurd (omega arith))

          is_full : (t : Bool) → full r ≡ t → first_bad r ≡ blocks r
          is_full true f = eqb-true (first_bad r) (blocks r) f
          is_full false f =
              let z : ◌≡◌ {A = ℕ} 0 16 = sym (by_full A.is_sized_lem A.number A.kind ∙ no (full r) 16 0 f) ∙ q in absurd (omega arith)

-- ---- what a paste into the first bad block leaves

frame_same : (r : List ℕ) → Frame r r
frame_same r = record { size = refl; below = λ i h. refl; above = λ i h. refl }

module _ (r s : List ℕ) (h : sized r ≡ true) (bad : first_bad r < blocks r) (s512 : length s ≡ 512) where
  frame_paste : (j : ℕ) → j ≤ 512 → Frame r (paste r (512 * first_bad r) s j)
  frame_paste j m =
      let l : length r ≡ 512 * blocks r = (sized_bounds r h).2 in
      record {
        size = length-paste r (512 * first_bad r) s j (omega arith) (omega arith);
        below = λ i b. paste_before r (512 * first_bad r) s j (omega arith) (omega arith) i b;
        above = λ i b. paste_after r (512 * first_bad r) s j (omega arith) (omega arith) i (omega arith);
      }

not_full : (r : List ℕ) → full r ≡ false → first_bad r < blocks r
not_full r f = let n : first_bad r ≡ blocks r → ⊥ = eqb-false (first_bad r) (blocks r) f in omega (arith, n, (first_bad_lem r).within)

-- a store that is not refused has a bad block to write
is_taken : (r : List ℕ) (e : JournalEntry) → store_refusal r e ≡ 0 → (sized r ≡ true) × (first_bad r < blocks r)
is_taken r e q = (A.is_sized_lem, room (full r) refl)
  where
    A : Accepted r e
    A = from_refusal r e 0 q (λ z. absurd (omega arith)) (λ z. absurd (omega arith)) (λ z. absurd (omega arith))

    room : (t : Bool) → full r ≡ t → first_bad r < blocks r
    room false f = not_full r f
    room true f =
        let z : ◌≡◌ {A = ℕ} 16 0 =
        sym (refused_16 r e A.is_sized_lem A.number A.kind (eqb-true (first_bad r) (blocks r) f)) ∙ q in absurd (omega arith)

pub store_frame : (r : List ℕ) (e : JournalEntry) (j : ℕ) → Frame r (stored r e j)
store_frame r e j = go (eqb (store_refusal r e) 0) refl
  where
    taken : store_refusal r e ≡ 0 → Frame r (stored r e j)
    taken q =
        let t = is_taken r e q in
        subst (Frame r) (sym (stored_some r e q j))
        (frame_paste r (block_of (suc (first_bad r)) e) t.0 t.1 (length_block (suc (first_bad r)) e) (min j 512) (omega arith))

    go : (t : Bool) → eqb (store_refusal r e) 0 ≡ t → Frame r (stored r e j)
    go true q = taken (eqb-true (store_refusal r e) 0 q)
    go false q = subst (Frame r) (sym (stored_none r e (eqb-false (store_refusal r e) 0 q) j)) (frame_same r)

-- ---- a repair

pub repaired_none : (r : List ℕ) (j : ℕ) → (sized r && not (full r)) ≡ false → repaired r j ≡ r
unfolding repaired
repaired_none r j h = no (sized r && not (full r)) _ r h

pub repaired_some : (r : List ℕ) (j : ℕ) → sized r ≡ true → full r ≡ false → repaired r j ≡ paste r (512 * first_bad r) (replicate 512 0) (min j 512)
unfolding repaired
repaired_some r j h f = yes (sized r && not (full r)) _ r (and_both h (ap not f))

pub repair_frame : (r : List ℕ) (j : ℕ) → Frame r (repaired r j)
repair_frame r j = go (sized r && not (full r)) refl
  where
    go : (t : Bool) → (sized r && not (full r)) ≡ t → Frame r (repaired r j)
    go false q = subst (Frame r) (sym (repaired_none r j q)) (frame_same r)
    go true q =
        let h : sized r ≡ true = and_first (sized r) (not (full r)) q in
        let f : full r ≡ false = not_true (full r) (and_second (sized r) (not (full r)) q) in
        subst (Frame r) (sym (repaired_some r j h f))
        (frame_paste r (replicate 512 0) h (not_full r f) refl (min j 512) (omega arith))

-- ---- byte by byte

module _ (r s : List ℕ) (h : sized r ≡ true) (bad : first_bad r < blocks r) (s512 : length s ≡ 512) (j i : ℕ) (inside : i < 512) where
  pasted_front : (x : ℕ) → i < j → get_or (paste r (512 * first_bad r) s (min j 512)) (512 * first_bad r + i) x ≡ get_or s i x
  pasted_front x l =
      let size : length r ≡ 512 * blocks r = (sized_bounds r h).2 in
      let e : 512 * first_bad r + i - 512 * first_bad r ≡ i = omega arith in
      paste_in r (512 * first_bad r) s (min j 512) (omega arith) (omega arith) x (512 * first_bad r + i) (omega arith) (omega arith)
      ∙ ap (λ (k : ℕ). get_or s k x) e

  pasted_rest : j ≤ i → get_or (paste r (512 * first_bad r) s (min j 512)) (512 * first_bad r + i) 0 ≡ get_or r (512 * first_bad r + i) 0
  pasted_rest l =
      let size : length r ≡ 512 * blocks r = (sized_bounds r h).2 in
      paste_after r (512 * first_bad r) s (min j 512) (omega arith) (omega arith) (512 * first_bad r + i) (omega arith)

pub front_to_back : (r : List ℕ) → FrontToBack r
front_to_back r =
    record {
      stored_front = λ e j i q a b.
          let t = is_taken r e q in
          ap (λ (x : List ℕ). get_or x (512 * first_bad r + i) 0) (stored_some r e q j)
          ∙ pasted_front r (block_of (suc (first_bad r)) e) t.0 t.1 (length_block (suc (first_bad r)) e) j i b 0 a;
      stored_rest = λ e j i q a b.
          let t = is_taken r e q in
          ap (λ (x : List ℕ). get_or x (512 * first_bad r + i) 0) (stored_some r e q j)
          ∙ pasted_rest r (block_of (suc (first_bad r)) e) t.0 t.1 (length_block (suc (first_bad r)) e) j i b a;
      refused_leaves = λ e j z. stored_none r e z j;
      zeroed_front = λ j i h bad a b.
          ap (λ (x : List ℕ). get_or x (512 * first_bad r + i) 1) (repaired_some r j h (ne_eqb (first_bad r) (blocks r) (λ q. omega arith)))
          ∙ pasted_front r (replicate 512 0) h bad refl j i b 1 a ∙ get_or-replicate 512 i 0 1 b;
      zeroed_rest = λ j i h bad a b.
          ap (λ (x : List ℕ). get_or x (512 * first_bad r + i) 0) (repaired_some r j h (ne_eqb (first_bad r) (blocks r) (λ q. omega arith)))
          ∙ pasted_rest r (replicate 512 0) h bad refl j i b a;
    }
