-- Histories of calls and cuts: what every one of them keeps true of the region, and the claims on power.
use mathlib.Core.Path.{◌≡◌, refl, sym, ap, subst, ◌∙◌}
use mathlib.Core.Bool.{Bool, true, false, ◌&&◌}
use mathlib.Core.List.{List, [], ◌∷◌, ◌++◌, append_assoc, append-nil}
use Prim.Native.Nat.{ℕ, zero, suc, ◌+◌, ◌-◌, ◌*◌, ◌%◌, ◌≤◌, ◌<◌, min}
use native.Mathlib.Omega.{arith}
use borrow.Author.Tests.{le-leb, leb-true, leb-false, ltb-true, ltb-false, eq-eqb, eqb-false}
use lib.Dec.{leb, ltb}
use lib.ListN.{length, get_or, replicate, length-append, length-replicate, get_or-replicate}
use lib.Seq.{paste, length-paste}
use Rattle.laws.specs.Pick.{pick}
use Rattle.laws.specs.Runs.{fold}
use Rattle.laws.proofs.Pick.{yes, no}
use Rattle.laws.proofs.Runs.{fold_append}
use Rattle.laws.proofs.Tests.{and_first, and_second, and_both, true_false}
use Rattle.journal_rules.specs.Block.{JournalEntry, storable, block_of}
use Rattle.journal_rules.specs.Region.{block_at, entry_in, good, blocks, sized, first_bad_from, first_bad, entries_from, entries_of, full, store_refusal, stored, repaired}
use Rattle.journal_rules.specs.Calls.{store_call, repair_call}
use Rattle.journal_rules.specs.Power.{CutCall, store, repair, region_left, blank_region, region_after, whole_entries}
use Rattle.journal_rules.specs.Claims.{PowerSafe, NothingLost, StoredBehind}
use Rattle.journal_rules.proofs.Blocks.{good_block, bad_block, entry_of, length_block, paste_before, paste_after, block_pasted, block_same, last_byte}
use Rattle.journal_rules.proofs.Answers.{store_reached}
use Rattle.journal_rules.proofs.Regions.{first_bad_lem, Accepted, from_refusal, refused_16, refused_0, stored_none, stored_some, repaired_none, repaired_some}

-- from place k on stand the blocks of these entries
abbrev Stands : List ℕ → ℕ → List JournalEntry → Type 0
Stands r k [] = Unit {0}
Stands r k (e ∷ es) = (block_at r k ≡ block_of (suc k) e) × (storable e ≡ true) × Stands r (suc k) es

-- the invariant: the entries stand first in the n blocks of a region, and every block behind them ends with zero
pub record Holds (n : ℕ) (r : List ℕ) (es : List JournalEntry) : Type 0 where
  pub size : length r ≡ 512 * n
  pub room : length es ≤ n
  pub stands : Stands r 0 es
  pub unmarked : (i : ℕ) → length es ≤ i → i < n → get_or r (512 * i + 511) 0 ≡ 0

-- ---- what the invariant says of the first bad block and of reading

search_ends : (r : List ℕ) (es : List JournalEntry) (m k : ℕ) → Stands r k es → length es ≤ m
    → (length es < m → good (k + length es) (block_at r (k + length es)) ≡ false) → first_bad_from m k r ≡ k + length es
unfolding first_bad_from
search_ends r [] zero k s h b = omega arith
search_ends r [] (suc m) k s h b =
    no (good k (block_at r k)) (first_bad_from m (suc k) r) k
    (subst (λ (i : ℕ). good i (block_at r i) ≡ false) (omega arith) (b (omega arith)))
    ∙ omega arith
search_ends r (e ∷ es) zero k s h b = absurd (omega arith)
search_ends r (e ∷ es) (suc m) k s h b =
    yes (good k (block_at r k)) (first_bad_from m (suc k) r) k (good_block k e (block_at r k) s.1 s.0)
    ∙ search_ends r es m (suc k) s.2 (omega arith)
    (λ l. subst (λ (i : ℕ). good i (block_at r i) ≡ false) (omega arith) (b (omega arith)))
    ∙ omega arith

reading : (r : List ℕ) (es : List JournalEntry) (m k : ℕ) → Stands r k es → length es ≤ m
    → (length es < m → good (k + length es) (block_at r (k + length es)) ≡ false) → entries_from m k r ≡ es
unfolding entries_from
reading r [] zero k s h b = refl
reading r [] (suc m) k s h b =
    no (good k (block_at r k)) _ [] (subst (λ (i : ℕ). good i (block_at r i) ≡ false) (omega arith) (b (omega arith)))
reading r (e ∷ es) zero k s h b = absurd (omega arith)
reading r (e ∷ es) (suc m) k s h b =
    yes (good k (block_at r k)) _ [] (good_block k e (block_at r k) s.1 s.0)
    ∙ ap (λ (x : JournalEntry). x ∷ entries_from m (suc k) r) (ap entry_in s.0 ∙ entry_of (suc k) e)
    ∙ ap (λ (l : List JournalEntry). e ∷ l)
    (reading r es m (suc k) s.2 (omega arith)
    (λ l. subst (λ (i : ℕ). good i (block_at r i) ≡ false) (omega arith) (b (omega arith))))

-- ---- bytes pasted behind the entries keep their blocks

stands_frame : (a b : List ℕ) (es : List JournalEntry) (k : ℕ) → length a ≡ length b
    → ((m : ℕ) → m < 512 * (k + length es) → get_or a m 0 ≡ get_or b m 0) → Stands b k es → Stands a k es
stands_frame a b [] k l f s = tt
stands_frame a b (e ∷ es) k l f s = (
  block_same a b k l (λ m h. f (512 * k + m) (omega arith)) ∙ s.0,
  s.1,
  stands_frame a b es (suc k) l (λ m h. f m (omega arith)) s.2,
)

stands_snoc : (r : List ℕ) (es : List JournalEntry) (e : JournalEntry) (k : ℕ) → Stands r k es
    → block_at r (k + length es) ≡ block_of (suc (k + length es)) e → storable e ≡ true → Stands r k (es ++ e ∷ [])
stands_snoc r [] e k s h v = (subst (λ (i : ℕ). block_at r i ≡ block_of (suc i) e) (omega arith) h, v, tt)
stands_snoc r (x ∷ es) e k s h v =
    (s.0, s.1, stands_snoc r es e (suc k) s.2 (subst (λ (i : ℕ). block_at r i ≡ block_of (suc i) e) (omega arith) h) v)

module _ (n : ℕ) (n1 : 1 ≤ n) (n128 : n ≤ 128) (r : List ℕ) (es : List JournalEntry) (H : Holds n r es) where
  blocks_n : blocks r ≡ n
  blocks_n = let e : length r ≡ 512 * n = H.size in omega arith

  is_sized_lem : sized r ≡ true
  is_sized_lem =
      let e : length r ≡ 512 * n = H.size in
      and_both (le-leb 1 (blocks r) (omega arith)) (and_both (le-leb (blocks r) 128 (omega arith)) (eq-eqb (length r % 512) 0 (omega arith)))

  bad_next : length es < n → good (0 + length es) (block_at r (0 + length es)) ≡ false
  bad_next h =
      subst (λ (i : ℕ). good i (block_at r i) ≡ false) (omega arith)
      (bad_block (length es) (block_at r (length es)) (last_byte r (length es) ∙ H.unmarked (length es) (omega arith) h))

  first_is : first_bad r ≡ length es
  first_is = ap (λ (m : ℕ). first_bad_from m 0 r) blocks_n ∙ search_ends r es n 0 H.stands H.room bad_next ∙ omega arith

  pub reads : entries_of r ≡ es
  reads = ap (λ (m : ℕ). entries_from m 0 r) blocks_n ∙ reading r es n 0 H.stands H.room bad_next

  -- a region that is full has no bad block, and refuses an entry that could be stored with 16
  pub full_good : length es ≡ n → (k : ℕ) → k < n → good k (block_at r k) ≡ true
  full_good h k l = (first_bad_lem r).before k (omega (arith, first_is))

  pub full_refuses : length es ≡ n → (e : JournalEntry) → storable e ≡ true → store_refusal r e ≡ 16
  full_refuses h e v =
      refused_16 r e is_sized_lem (leb-true e.number 127 (and_first (leb e.number 127) (leb e.kind 3) v))
      (leb-true e.kind 3 (and_second (leb e.number 127) (leb e.kind 3) v)) (first_is ∙ h ∙ sym blocks_n)

  module _ (unused : length es < n) (s : List ℕ) (s512 : length s ≡ 512) where
    pasted_size : (j : ℕ) → j ≤ 512 → length (paste r (512 * length es) s j) ≡ 512 * n
    pasted_size j h =
        let e : length r ≡ 512 * n = H.size in length-paste r (512 * length es) s j (omega arith) (omega arith) ∙ e

    pasted_stands : (j : ℕ) → j ≤ 512 → Stands (paste r (512 * length es) s j) 0 es
    pasted_stands j h =
        let e : length r ≡ 512 * n = H.size in
        stands_frame (paste r (512 * length es) s j) r es 0 (pasted_size j h ∙ sym e)
        (λ m l. paste_before r (512 * length es) s j (omega arith) (omega arith) m (omega arith)) H.stands

    -- a paste that is cut leaves the last byte of the block as it was
    cut_short : (j : ℕ) → j < 512 → Holds n (paste r (512 * length es) s j) es
    cut_short j h =
        let e : length r ≡ 512 * n = H.size in
        record {
          size = pasted_size j (omega arith);
          room = H.room;
          stands = pasted_stands j (omega arith);
          unmarked = λ i a b. paste_after r (512 * length es) s j (omega arith) (omega arith) (512 * i + 511) (omega arith) ∙ H.unmarked i a b;
        }

    above : (i : ℕ) → length es < i → i < n → get_or (paste r (512 * length es) s 512) (512 * i + 511) 0 ≡ 0
    above i a b =
        let e : length r ≡ 512 * n = H.size in
        paste_after r (512 * length es) s 512 (omega arith) (omega arith) (512 * i + 511) (omega arith) ∙ H.unmarked i (omega arith) b

    wrote : block_at (paste r (512 * length es) s 512) (length es) ≡ s
    wrote = let e : length r ≡ 512 * n = H.size in block_pasted r s (length es) (omega arith) s512

  -- ---- a repair

  zeroed : length es < n → Holds n (paste r (512 * length es) (replicate 512 0) 512) es
  zeroed h =
      record {
        size = pasted_size h (replicate 512 0) refl 512 (omega arith);
        room = H.room;
        stands = pasted_stands h (replicate 512 0) refl 512 (omega arith);
        unmarked = λ i a b. at_or_above i b (leb i (length es)) refl a;
      }
    where
      at_or_above : (i : ℕ) → i < n → (t : Bool) → leb i (length es) ≡ t → length es ≤ i
          → get_or (paste r (512 * length es) (replicate 512 0) 512) (512 * i + 511) 0 ≡ 0
      at_or_above i b false e a = above h (replicate 512 0) refl i (leb-false i (length es) e) b
      at_or_above i b true e a =
          let same_place : length es ≡ i = omega (arith, leb-true i (length es) e) in
          subst (λ (m : ℕ). get_or (paste r (512 * length es) (replicate 512 0) 512) (512 * m + 511) 0 ≡ 0) same_place
          (sym (last_byte (paste r (512 * length es) (replicate 512 0) 512) (length es))
          ∙ ap (λ (l : List ℕ). get_or l 511 0) (wrote h (replicate 512 0) refl) ∙ refl)

  pub repair_keeps : (j : ℕ) → Holds n (repaired r j) es
  repair_keeps j = go (full r) refl
    where
      count : (t : Bool) → leb 512 j ≡ t → length es < n → Holds n (paste r (512 * length es) (replicate 512 0) (min j 512)) es
      count true e h =
          let m : 512 ≡ min j 512 = omega (arith, leb-true 512 j e) in
          subst (λ (m : ℕ). Holds n (paste r (512 * length es) (replicate 512 0) m) es) m (zeroed h)
      count false e h = cut_short h (replicate 512 0) refl (min j 512) (omega (arith, leb-false 512 j e))

      go : (t : Bool) → full r ≡ t → Holds n (repaired r j) es
      go true f = subst (λ (x : List ℕ). Holds n x es) (sym (repaired_none r j (rw (f, is_sized_lem) refl))) H
      go false f =
          subst (λ (x : List ℕ). Holds n x es)
          (sym (repaired_some r j is_sized_lem f ∙ ap (λ (p : ℕ). paste r (512 * p) (replicate 512 0) (min j 512)) first_is))
          (count (leb 512 j) refl (omega (arith, eqb-false (first_bad r) (blocks r) f, first_is, blocks_n, H.room)))

  -- ---- a store

  module _ (e : JournalEntry) (j : ℕ) where
    -- a refused store leaves the region
    kept : (store_refusal r e ≡ 0 → ⊥) → Holds n (stored r e j) es
    kept q = subst (λ (x : List ℕ). Holds n x es) (sym (stored_none r e q j)) H

    -- a store that is not refused has an entry to store and a block for it
    pub store_fits : store_refusal r e ≡ 0 → (storable e ≡ true) × (length es < n)
    store_fits q = (and_both (le-leb e.number 127 A.number) (le-leb e.kind 3 A.kind), room_left (ltb (length es) n) refl)
      where
        A : Accepted r e
        A = from_refusal r e 0 q (λ z. absurd (omega arith)) (λ z. absurd (omega arith)) (λ z. absurd (omega arith))

        room_left : (t : Bool) → ltb (length es) n ≡ t → length es < n
        room_left true l = ltb-true (length es) n l
        room_left false l =
            let h : length es ≡ n = omega (arith, H.room, ltb-false (length es) n l) in
            let z : ◌≡◌ {A = ℕ} 16 0 = sym (refused_16 r e A.is_sized_lem A.number A.kind (first_is ∙ h ∙ sym blocks_n)) ∙ q in
            absurd (omega arith)

    pub store_improper : storable e ≡ false → Holds n (stored r e j) es
    store_improper v = kept (λ q. true_false (store_fits q).0 v)

    pub store_full : length es ≡ n → Holds n (stored r e j) es
    store_full h = kept (λ q. let l : length es < n = (store_fits q).1 in omega arith)

    module _ (v : storable e ≡ true) (h : length es < n) where
      pub accepted : store_refusal r e ≡ 0
      accepted =
          refused_0 r e is_sized_lem (leb-true e.number 127 (and_first (leb e.number 127) (leb e.kind 3) v))
          (leb-true e.kind 3 (and_second (leb e.number 127) (leb e.kind 3) v)) (λ q. omega (arith, first_is, blocks_n))

      taken : stored r e j ≡ paste r (512 * length es) (block_of (suc (length es)) e) (min j 512)
      taken = stored_some r e accepted j ∙ ap (λ (p : ℕ). paste r (512 * p) (block_of (suc p) e) (min j 512)) first_is

      pub store_cut : leb 512 j ≡ false → Holds n (stored r e j) es
      store_cut q =
          subst (λ (x : List ℕ). Holds n x es) (sym taken)
          (cut_short h (block_of (suc (length es)) e) (length_block (suc (length es)) e) (min j 512) (omega (arith, leb-false 512 j q)))

      next : Holds n (paste r (512 * length es) (block_of (suc (length es)) e) 512) (es ++ e ∷ [])
      next =
          let l : length (es ++ e ∷ []) ≡ length es + 1 = length-append es (e ∷ []) in
          let s : List ℕ = block_of (suc (length es)) e in
          let s512 : length s ≡ 512 = length_block (suc (length es)) e in
          record {
            size = pasted_size h s s512 512 (omega arith);
            room = omega arith;
            stands =
                stands_snoc (paste r (512 * length es) s 512) es e 0 (pasted_stands h s s512 512 (omega arith))
                (subst (λ (i : ℕ). block_at (paste r (512 * length es) s 512) i ≡ block_of (suc i) e) (omega arith) (wrote h s s512)) v;
            unmarked = λ i a b. above h s s512 i (omega arith) b;
          }

      pub store_whole : leb 512 j ≡ true → Holds n (stored r e j) (es ++ e ∷ [])
      store_whole q =
          let all : 512 ≡ min j 512 = omega (arith, leb-true 512 j q) in
          subst (λ (x : List ℕ). Holds n x (es ++ e ∷ []))
          (ap (λ (m : ℕ). paste r (512 * length es) (block_of (suc (length es)) e) m) all ∙ sym taken)
          next

-- ---- any history

module _ (n : ℕ) (n1 : 1 ≤ n) (n128 : n ≤ 128) where
  -- one store, with what the rest of the history does after it
  after_store_lem : (left : ℕ) (r : List ℕ) (es : List JournalEntry) (e : JournalEntry) (j : ℕ) (acts : List CutCall) → length es + suc left ≡ n → Holds n r es
      → ((r₁ : List ℕ) (es₁ : List JournalEntry) → length es₁ + left ≡ n → Holds n r₁ es₁ → Holds n (fold region_left r₁ acts) (es₁ ++ whole_entries left acts))
      → ((r₁ : List ℕ) → Holds n r₁ es → Holds n (fold region_left r₁ acts) (es ++ whole_entries (suc left) acts))
      → (v w : Bool) → storable e ≡ v → leb 512 j ≡ w
      → Holds n (fold region_left (stored r e j) acts) (es ++ pick (v && w) (e ∷ whole_entries left acts) (whole_entries (suc left) acts))
  unfolding pick
  after_store_lem left r es e j acts l H more same true true p q =
      subst (λ (x : List JournalEntry). Holds n (fold region_left (stored r e j) acts) x) (append_assoc es (e ∷ []) (whole_entries left acts))
      (more (stored r e j) (es ++ e ∷ []) (omega (arith, length-append es (e ∷ []))) (store_whole n n1 n128 r es H e j p (omega arith) q))
  after_store_lem left r es e j acts l H more same true false p q = same (stored r e j) (store_cut n n1 n128 r es H e j p (omega arith) q)
  after_store_lem left r es e j acts l H more same false w p q = same (stored r e j) (store_improper n n1 n128 r es H e j p)

  history : (acts : List CutCall) (left : ℕ) (r : List ℕ) (es : List JournalEntry) → length es + left ≡ n → Holds n r es
      → Holds n (fold region_left r acts) (es ++ whole_entries left acts)
  unfolding fold whole_entries store_call repair_call
  history [] left r es l H = subst (λ (x : List JournalEntry). Holds n r x) (sym (append-nil es)) H
  history (repair j ∷ acts) left r es l H = history acts left (repaired r j) es l (repair_keeps n n1 n128 r es H j)
  history (store e j ∷ acts) zero r es l H = history acts zero (stored r e j) es l (store_full n n1 n128 r es H e j (omega arith))
  history (store e j ∷ acts) (suc left) r es l H =
      after_store_lem left r es e j acts l H (history acts left) (λ r₁ H₁. history acts (suc left) r₁ es l H₁) (storable e) (leb 512 j) refl refl

  pub blank_holds : Holds n (blank_region n) []
  blank_holds =
      record {
        size = length-replicate (512 * n) 0;
        room = omega arith;
        stands = tt;
        unmarked = λ i a b. get_or-replicate (512 * n) (512 * i + 511) 0 0 (omega arith);
      }

  after_holds : (acts : List CutCall) → Holds n (region_after n acts) (whole_entries n acts)
  unfolding region_after
  after_holds acts = history acts n (blank_region n) [] (omega arith) blank_holds

pub power_safe : PowerSafe
power_safe n n1 n128 acts = reads n n1 n128 (region_after n acts) (whole_entries n acts) (after_holds n n1 n128 acts)

pub nothing_lost : NothingLost
unfolding region_after
nothing_lost n n1 n128 acts more =
    let es : List JournalEntry = whole_entries n acts in
    let left : ℕ = n - length es in
    let H : Holds n (region_after n acts) es = after_holds n n1 n128 acts in
    record {
      rest = whole_entries left more;
      is =
          ap entries_of (fold_append region_left (blank_region n) acts more)
          ∙ reads n n1 n128 (fold region_left (region_after n acts) more) (es ++ whole_entries left more)
          (history n n1 n128 more left (region_after n acts) es (omega (arith, H.room)) H)
          ∙ ap (λ (x : List JournalEntry). x ++ whole_entries left more) (sym (power_safe n n1 n128 acts));
    }

-- a store that answers a serial has stored its entry
pub stored_behind : StoredBehind
unfolding store_call
stored_behind n n1 n128 acts e j s q =
    let r : List ℕ = region_after n acts in
    let H : Holds n r (whole_entries n acts) = after_holds n n1 n128 acts in
    let a = store_reached r e j s q in
    let f = store_fits n n1 n128 r (whole_entries n acts) H e j a.0 in
    reads n n1 n128 (stored r e j) (whole_entries n acts ++ e ∷ []) (store_whole n n1 n128 r (whole_entries n acts) H e j f.0 f.1 a.2)
    ∙ ap (λ (es : List JournalEntry). es ++ e ∷ []) (sym (power_safe n n1 n128 acts))
