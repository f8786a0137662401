-- What a keep leaves of one number: the kinds of its entries and whether a start of it waits for its fate.
use mathlib.Core.Path.{◌≡◌, refl, sym, ap, ap₂, subst, ◌∙◌}
use mathlib.Core.Bool.{Bool, true, false, not}
use mathlib.Core.List.{List, [], ◌∷◌, ◌++◌, append-nil}
use Prim.Native.Nat.{ℕ, zero, suc, ◌+◌, ◌≤◌, ◌<◌}
use native.Mathlib.Omega.{arith}
use borrow.Author.Tests.{eqb-true, eqb-false, eq-eqb, ne_eqb}
use lib.Dec.{eqb, leb}
use lib.ListN.{length, get_or, set, length-set}
use lib.Seq.{get_or-set_same, get_or-set_other}
use Rattle.laws.specs.Pick.{pick}
use Rattle.laws.specs.Result.{Result, ok, refused}
use Rattle.laws.specs.Runs.{fold}
use Rattle.laws.proofs.Runs.{fold_append}
use Rattle.laws.proofs.Pick.{yes, no}
use Rattle.state.specs.declared.Connection.{Connection}
use Rattle.protocol.specs.Connection.{at}
use Rattle.protocol.specs.Judge.{Report}
use Rattle.journal_rules.specs.Block.{JournalEntry, journal_entry, storable}
use Rattle.journal_rules.specs.Region.{store_refusal, stored, repaired, first_bad}
use Rattle.journal_rules.specs.Power.{CutCall, store, repair, region_left, blank_region}
use Rattle.journal_rules.specs.Calls.{Reached, written_whole, cut_after, reached, store_call, repair_call}
use Rattle.journal_rules.proofs.Regions.{stored_none}
use Rattle.journal_rules.proofs.Histories.{Holds, store_whole, store_cut, store_fits}
use Rattle.journal_history.specs.Due.{DueEntry, nothing_due, new_session, entry_due, is_opening, due_for}
use Rattle.journal_history.specs.Keep.{KeepEnding, all_stored, cut_off, refused_with, Keeping, with_start, after_store, store_due, keep_due, keep_number, keep_numbers, keep_all}
use Rattle.journal_history.specs.Sessions.{kinds_for}
use Rattle.journal_history.proofs.Growth.{kinds_snoc}

-- a region that stores and repairs, whole or cut, left of another
pub record Reach (r after : List ℕ) : Type 0 where
  pub acts : List CutCall
  pub is : after ≡ fold region_left r acts

pub reach_none : (r : List ℕ) → Reach r r
unfolding fold
reach_none r = record { acts = []; is = refl }

reach_store : (r : List ℕ) (e : JournalEntry) (j : ℕ) → Reach r (stored r e j)
unfolding fold store_call
reach_store r e j = record { acts = store e j ∷ []; is = refl }

pub reach_repair : (r : List ℕ) (j : ℕ) → Reach r (repaired r j)
unfolding fold repair_call
reach_repair r j = record { acts = repair j ∷ []; is = refl }

pub reach_then : (a b c : List ℕ) → Reach a b → Reach b c → Reach a c
reach_then a b c p q =
    record {
      acts = p.acts ++ q.acts;
      is = q.is ∙ ap (λ (r : List ℕ). fold region_left r q.acts) p.is ∙ sym (fold_append region_left a p.acts q.acts);
    }

module _ (n : ℕ) (n1 : 1 ≤ n) (n128 : n ≤ 128) where
  -- ---- one store

  -- the entry is stored and nothing stops the keep, or nothing is stored and something does
  pub data Stored (es : List JournalEntry) (i kind : ℕ) (w after : Keeping) : Type 0 where
    stored_one : Holds n after.region (es ++ journal_entry i kind ∷ []) → after.starts ≡ set w.starts i (eqb kind 0) → w.ending ≡ all_stored
        → Reach w.region after.region → Stored es i kind w after
    stored_not : Holds n after.region es → after.starts ≡ set w.starts i (not (eqb kind 0)) → (after.ending ≡ all_stored → ⊥)
        → Reach w.region after.region → Stored es i kind w after

  module _ (es : List JournalEntry) (i kind : ℕ) (w : Keeping) (H : Holds n w.region es) where
    abbrev e : JournalEntry
    e = journal_entry i kind

    refused_so : eqb (store_refusal w.region e) 0 ≡ false → Stored es i kind w (after_store i kind w (store_call w.region e w.left))
    unfolding store_call
    refused_so q =
        subst (λ (a : Result Reached). Stored es i kind w (after_store i kind w (a, stored w.region e w.left)))
        (sym (no (eqb (store_refusal w.region e) 0) (ok (reached w.left (suc (first_bad w.region)))) (refused (store_refusal w.region e)) q))
        (stored_not (subst (λ (r : List ℕ). Holds n r es) (sym (stored_none w.region e (eqb-false (store_refusal w.region e) 0 q) w.left)) H) refl (λ z. let q : ◌≡◌ {A = ℕ} 0 1 = cc in absurd (omega arith)) (reach_store w.region e w.left))

    taken_so : w.ending ≡ all_stored → eqb (store_refusal w.region e) 0 ≡ true → (b : Bool) → leb 512 w.left ≡ b
        → Stored es i kind w (after_store i kind w (store_call w.region e w.left))
    unfolding store_call pick
    taken_so goes q b l =
        let z : store_refusal w.region e ≡ 0 = eqb-true (store_refusal w.region e) 0 q in
        let f : (storable e ≡ true) × (length es < n) = store_fits n n1 n128 w.region es H e w.left z in
        subst (λ (a : Result Reached). Stored es i kind w (after_store i kind w (a, stored w.region e w.left)))
        (sym (yes (eqb (store_refusal w.region e) 0) (ok (reached w.left (suc (first_bad w.region)))) (refused (store_refusal w.region e)) q))
        (subst (λ (t : Bool). Stored es i kind w (after_store i kind w (ok (pick t (written_whole (suc (first_bad w.region))) (cut_after w.left)), stored w.region e w.left))) (sym l)
        (go f b l))
      where
        go : (storable e ≡ true) × (length es < n) → (b : Bool) → leb 512 w.left ≡ b
            → Stored es i kind w (after_store i kind w (ok (pick b (written_whole (suc (first_bad w.region))) (cut_after w.left)), stored w.region e w.left))
        go f true l = stored_one (store_whole n n1 n128 w.region es H e w.left f.0 f.1 l) refl goes (reach_store w.region e w.left)
        go f false l = stored_not (store_cut n n1 n128 w.region es H e w.left f.0 f.1 l) refl (λ z. let q : ◌≡◌ {A = ℕ} 0 1 = cc in absurd (omega arith)) (reach_store w.region e w.left)

    store_so : (x : KeepEnding) → w.ending ≡ x → Stored es i kind w (store_due i kind w x)
    store_so all_stored q = go (eqb (store_refusal w.region e) 0) refl
      where
        go : (b : Bool) → eqb (store_refusal w.region e) 0 ≡ b → Stored es i kind w (after_store i kind w (store_call w.region e w.left))
        go true z = taken_so q z (leb 512 w.left) refl
        go false z = refused_so z
    store_so cut_off q = stored_not H refl (λ z. let q : ◌≡◌ {A = ℕ} 0 1 = cc in absurd (omega arith)) (reach_none w.region)
    store_so (refused_with k) q = stored_not H refl (λ z. let q : ◌≡◌ {A = ℕ} 0 1 = cc in absurd (omega arith)) (reach_none w.region)

  -- ---- what a number's own step leaves, and that of another number

  module _ (m : ℕ) (hm : m < 128) where
    -- the region holds entries, those of the number have these kinds, and its flag is this one
    pub record Stands (ks : List ℕ) (b : Bool) (w : Keeping) : Type 0 where
      pub entries : List JournalEntry
      pub holds : Holds n w.region entries
      pub kinds : kinds_for m entries ≡ ks
      pub size : length w.starts ≡ 128
      pub flag : get_or w.starts m false ≡ b
      pub reach : Reach (blank_region n) w.region

    -- a flag of its own, and of another
    flag_own : (s : List Bool) (b : Bool) → length s ≡ 128 → get_or (set s m b) m false ≡ b
    flag_own s b l = get_or-set_same s m b false (omega arith)

    flag_other : (s : List Bool) (i : ℕ) (b : Bool) → (i ≡ m → ⊥) → get_or (set s i b) m false ≡ get_or s m false
    flag_other s i b d = get_or-set_other s i m b false (λ z. d (sym z))

    -- the due entry is stored, or something stops the keep
    pub data Left (kind : ℕ) (ks : List ℕ) (w : Keeping) : Type 0 where
      left_stored : Stands (ks ++ kind ∷ []) (eqb kind 0) w → Left kind ks w
      left_due : Stands ks (not (eqb kind 0)) w → (w.ending ≡ all_stored → ⊥) → Left kind ks w

    -- what is left of a number for which this was due
    abbrev pub Done : DueEntry → List ℕ → Bool → Keeping → Type 0
    Done nothing_due ks b w = Stands ks b w
    Done new_session ks b w = Stands ks false w
    Done (entry_due kind) ks b w = Left kind ks w

    own_step : (d : DueEntry) (ks : List ℕ) (b : Bool) (w : Keeping) → Stands ks b w → Done d ks b (keep_due m d w)
    own_step nothing_due ks b w s = s
    own_step new_session ks b w s =
        record {
          entries = s.entries;
          holds = s.holds;
          kinds = s.kinds;
          size = length-set w.starts m false ∙ s.size;
          flag = flag_own w.starts false s.size;
          reach = s.reach;
        }
    own_step (entry_due kind) ks b w s = go (store_so s.entries m kind w s.holds w.ending refl)
      where
        go : {v : Keeping} → Stored s.entries m kind w v → Left kind ks v
        go {v} (stored_one H q x r) =
            left_stored
            (record {
              entries = s.entries ++ journal_entry m kind ∷ [];
              holds = H;
              kinds =
                  kinds_snoc m s.entries (journal_entry m kind)
                  ∙ ap₂ (λ (a b : List ℕ). a ++ b) s.kinds (yes (eqb m m) (kind ∷ []) [] (eq-eqb m m refl));
              size = ap length q ∙ length-set w.starts m (eqb kind 0) ∙ s.size;
              flag = ap (λ (l : List Bool). get_or l m false) q ∙ flag_own w.starts (eqb kind 0) s.size;
              reach = reach_then (blank_region n) w.region v.region s.reach r;
            })
        go {v} (stored_not H q x r) =
            left_due
            (record {
              entries = s.entries;
              holds = H;
              kinds = s.kinds;
              size = ap length q ∙ length-set w.starts m (not (eqb kind 0)) ∙ s.size;
              flag = ap (λ (l : List Bool). get_or l m false) q ∙ flag_own w.starts (not (eqb kind 0)) s.size;
              reach = reach_then (blank_region n) w.region v.region s.reach r;
            })
            x

    -- another number's step keeps all that, and does not make a keep that is stopped go on
    pub record Kept (ks : List ℕ) (b : Bool) (w v : Keeping) : Type 0 where
      pub stands : Stands ks b v
      pub stopped : v.ending ≡ all_stored → w.ending ≡ all_stored

    -- what a step leaves that changes no kinds of the number and no flag but another's
    other_flag : (i : ℕ) → (i ≡ m → ⊥) → (ks : List ℕ) (b x : Bool) (w v : Keeping) (es : List JournalEntry) → Stands ks b w → Holds n v.region es
        → kinds_for m es ≡ ks → v.starts ≡ set w.starts i x → Reach w.region v.region → Stands ks b v
    other_flag i d ks b x w v es s H k q r =
        record {
          entries = es;
          holds = H;
          kinds = k;
          size = ap length q ∙ length-set w.starts i x ∙ s.size;
          flag = ap (λ (l : List Bool). get_or l m false) q ∙ flag_other w.starts i x d ∙ s.flag;
          reach = reach_then (blank_region n) w.region v.region s.reach r;
        }

    other_step : (i : ℕ) → (i ≡ m → ⊥) → (d : DueEntry) (ks : List ℕ) (b : Bool) (w : Keeping) → Stands ks b w → Kept ks b w (keep_due i d w)
    other_step i away nothing_due ks b w s = record { stands = s; stopped = λ z. z }
    other_step i away new_session ks b w s =
        record { stands = other_flag i away ks b false w (with_start i false w) s.entries s s.holds s.kinds refl (reach_none w.region); stopped = λ z. z }
    other_step i away (entry_due kind) ks b w s = go (store_so s.entries i kind w s.holds w.ending refl)
      where
        go : {v : Keeping} → Stored s.entries i kind w v → Kept ks b w v
        go {v} (stored_one H q x r) =
            record {
              stands =
                  other_flag i away ks b (eqb kind 0) w v (s.entries ++ journal_entry i kind ∷ []) s H
                  (kinds_snoc m s.entries (journal_entry i kind)
                  ∙ ap₂ (λ (a b : List ℕ). a ++ b) s.kinds (no (eqb i m) (kind ∷ []) [] (ne_eqb i m away)) ∙ append-nil ks) q r;
              stopped = λ z. x;
            }
        go {v} (stored_not H q x r) =
            record { stands = other_flag i away ks b (not (eqb kind 0)) w v s.entries s H s.kinds q r; stopped = λ z. absurd (x z) }

    -- ---- all numbers

    module _ (c : Connection) (answer : Result Report) (written : List ℕ) where
      others : (count i : ℕ) (ks : List ℕ) (b : Bool) (w : Keeping) → m < i → Stands ks b w → Kept ks b w (keep_numbers c.sessions answer written count i w)
      unfolding keep_numbers keep_number
      others zero i ks b w h s = record { stands = s; stopped = λ z. z }
      others (suc count) i ks b w h s =
          let a : Kept ks b w (keep_number c.sessions answer written i w) =
          other_step i (λ z. omega arith) (due_for (is_opening i answer written) (get_or w.starts i false) (at c i)) ks b w s in
          let r : Kept ks b (keep_number c.sessions answer written i w) (keep_numbers c.sessions answer written count (suc i) (keep_number c.sessions answer written i w)) =
          others count (suc i) ks b (keep_number c.sessions answer written i w) (omega arith) a.stands in
          record { stands = r.stands; stopped = λ z. a.stopped (r.stopped z) }

      -- what was done for the number stays done
      stays_done : (d : DueEntry) (ks : List ℕ) (b : Bool) (w v : Keeping) → ((ks : List ℕ) (b : Bool) → Stands ks b w → Kept ks b w v)
          → Done d ks b w → Done d ks b v
      stays_done nothing_due ks b w v f s = (f ks b s).stands
      stays_done new_session ks b w v f s = (f ks false s).stands
      stays_done (entry_due kind) ks b w v f (left_stored s) = left_stored (f (ks ++ kind ∷ []) (eqb kind 0) s).stands
      stays_done (entry_due kind) ks b w v f (left_due s x) =
          left_due (f ks (not (eqb kind 0)) s).stands (λ z. x ((f ks (not (eqb kind 0)) s).stopped z))

      abbrev due_now : Bool → DueEntry
      due_now b = due_for (is_opening m answer written) b (at c m)

      through : (count i : ℕ) (ks : List ℕ) (b : Bool) (w : Keeping) → i ≤ m → m < i + count → Stands ks b w
          → Done (due_now b) ks b (keep_numbers c.sessions answer written count i w)
      unfolding keep_numbers keep_number
      through zero i ks b w h l s = absurd (omega arith)
      through (suc count) i ks b w h l s = go (eqb i m) refl (through count (suc i) ks b (keep_number c.sessions answer written i w))
        where
          here : i ≡ m → Done (due_now b) ks b (keep_number c.sessions answer written i w)
          here q =
              subst (λ (j : ℕ). Done (due_now b) ks b (keep_due j (due_for (is_opening j answer written) (get_or w.starts j false) (at c j)) w)) (sym q)
              (subst (λ (x : Bool). Done (due_now b) ks b (keep_due m (due_now x) w)) (sym s.flag) (own_step (due_now b) ks b w s))

          go : (t : Bool) → eqb i m ≡ t
              → (suc i ≤ m → m < suc i + count → Stands ks b (keep_number c.sessions answer written i w) → Done (due_now b) ks b (keep_numbers c.sessions answer written count (suc i) (keep_number c.sessions answer written i w)))
              → Done (due_now b) ks b (keep_numbers c.sessions answer written count (suc i) (keep_number c.sessions answer written i w))
          go true q ih =
              let z : i ≡ m = eqb-true i m q in
              stays_done (due_now b) ks b (keep_number c.sessions answer written i w) (keep_numbers c.sessions answer written count (suc i) (keep_number c.sessions answer written i w))
              (λ ks b s. others count (suc i) ks b (keep_number c.sessions answer written i w) (omega arith) s) (here z)
          go false q ih =
              let z : i ≡ m → ⊥ = eqb-false i m q in
              ih (omega (arith, z)) (omega arith)
              (other_step i z (due_for (is_opening i answer written) (get_or w.starts i false) (at c i)) ks b w s).stands

      pub keep_does : (region : List ℕ) (starts : List Bool) (ending : KeepEnding) (left : ℕ) (ks : List ℕ) (b : Bool)
          → Stands ks b (record { region = region; starts = starts; left = left; ending = ending })
          → Done (due_now b) ks b (keep_all c answer written region starts ending left)
      unfolding keep_all
      keep_does region starts ending left ks b s =
          through 128 0 ks b (record { region = region; starts = starts; left = left; ending = ending }) (omega arith) (omega arith) s
