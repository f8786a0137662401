-- How a keep ends: what it has added when it goes on, when power is cut, and when the region is full.
use mathlib.Core.Path.{◌≡◌, refl, sym, ap, subst, ◌∙◌}
use mathlib.Core.Bool.{Bool, true, false}
use mathlib.Core.List.{List, [], ◌∷◌, ◌++◌}
use Prim.Native.Nat.{ℕ, zero, suc, ◌+◌, ◌*◌, ◌≤◌, ◌<◌}
use native.Mathlib.Omega.{arith}
use borrow.Author.Tests.{leb-true, leb-false, le-leb, ltb-true, ltb-false}
use lib.Dec.{eqb, leb, ltb}
use lib.ListN.{length, get_or, length-append}
use Rattle.laws.specs.Pick.{pick}
use Rattle.laws.specs.Result.{Result, ok, refused}
use Rattle.laws.proofs.Tests.{and_both}
use Rattle.state.specs.declared.Sides.{Sides}
use Rattle.state.specs.declared.Sides.TheVariants as sides
use Rattle.state.specs.declared.Session.{Session}
use Rattle.state.specs.New.{blank}
use Rattle.protocol.specs.Judge.{Report}
use Rattle.protocol.specs.Fate.{Fate, no_fate, running, complete, may_be_retried, must_not_be_retried, fate_of}
use Rattle.journal_rules.specs.Block.{JournalEntry, journal_entry, storable}
use Rattle.journal_rules.specs.Region.{store_refusal, stored, first_bad}
use Rattle.journal_rules.specs.Calls.{written_whole, cut_after, reached, store_call}
use Rattle.journal_rules.proofs.Regions.{stored_none}
use Rattle.journal_rules.proofs.Histories.{Holds, store_whole, store_cut, accepted, full_refuses}
use Rattle.journal_history.specs.Due.{DueEntry, nothing_due, new_session, entry_due, is_opening, due_running, due_fate, due_for}
use Rattle.journal_history.specs.Keep.{KeepEnding, all_stored, cut_off, refused_with, Keeping, after_store, store_due, keep_due, keep_number, keep_numbers}

-- ---- a kind that is due is one of those of the journal

abbrev Bounded : DueEntry → Type 0
Bounded nothing_due = Unit {0}
Bounded new_session = Unit {0}
Bounded (entry_due kind) = kind ≤ 3

running_bounded : (s : Sides) → Bounded (due_running s)
running_bounded sides.Idle = tt
running_bounded (sides.Opening b) = tt
running_bounded (sides.Live o t) = tt

picked : (b : Bool) (kind : ℕ) → kind ≤ 3 → Bounded (pick b (entry_due kind) nothing_due)
unfolding pick
picked true kind h = h
picked false kind h = tt

fate_bounded : (b : Bool) (f : Fate) (s : Sides) → Bounded (due_fate b f s)
fate_bounded b no_fate s = tt
fate_bounded b running s = running_bounded s
fate_bounded b complete s = picked b 1 (omega arith)
fate_bounded b may_be_retried s = picked b 2 (omega arith)
fate_bounded b must_not_be_retried s = picked b 3 (omega arith)

due_bounded : (o b : Bool) (x : Session) → Bounded (due_for o b x)
unfolding pick
due_bounded true b x = omega arith
due_bounded false b x = fate_bounded b (fate_of x.outcome) x.sides

module _ (n : ℕ) (n1 : 1 ≤ n) (n128 : n ≤ 128) (es₀ : List JournalEntry) (left₀ : ℕ) where
  -- after i numbers: how many entries are added, and whether the keep goes on, is cut, or has no block left
  pub data Stage (added i : ℕ) (es : List JournalEntry) (w : Keeping) : Type 0 where
    goes : w.ending ≡ all_stored → w.left + 512 * added ≡ left₀ → added ≤ i → Stage added i es w
    is_cut : w.ending ≡ cut_off → left₀ < 512 * suc added → added < i → Stage added i es w
    is_full : w.ending ≡ refused_with 16 → length es ≡ n → Stage added i es w

  pub record Done (i : ℕ) (w : Keeping) : Type 0 where
    pub entries : List JournalEntry
    pub holds : Holds n w.region entries
    pub added : ℕ
    pub count : length entries ≡ length es₀ + added
    pub stage : Stage added i entries w

  -- a step that stores nothing and leaves the rest
  same_stage : (a i : ℕ) (es : List JournalEntry) (w v : Keeping) → v.ending ≡ w.ending → v.left ≡ w.left → Stage a i es w → Stage a (suc i) es v
  same_stage a i es w v p q (goes e l h) = goes (p ∙ e) (ap (λ (x : ℕ). x + 512 * a) q ∙ l) (omega arith)
  same_stage a i es w v p q (is_cut e l h) = is_cut (p ∙ e) l (omega arith)
  same_stage a i es w v p q (is_full e l) = is_full (p ∙ e) l

  same_done : (i : ℕ) (w v : Keeping) → v.region ≡ w.region → v.ending ≡ w.ending → v.left ≡ w.left → Done i w → Done (suc i) v
  same_done i w v r p q d =
      record {
        entries = d.entries;
        holds = subst (λ (x : List ℕ). Holds n x d.entries) (sym r) d.holds;
        added = d.added;
        count = d.count;
        stage = same_stage d.added i d.entries w v p q d.stage;
      }

  module _ (i kind : ℕ) (hi : i < 128) (hk : kind ≤ 3) (w : Keeping) (d : Done i w) (g : w.ending ≡ all_stored)
      (l : w.left + 512 * d.added ≡ left₀) (few : d.added ≤ i) where
    abbrev e : JournalEntry
    e = journal_entry i kind

    fits : storable e ≡ true
    fits = and_both (le-leb i 127 (omega arith)) (le-leb kind 3 hk)

    store_does : Done (suc i) (after_store i kind w (store_call w.region e w.left))
    unfolding store_call pick
    store_does = by_room (ltb (length d.entries) n) refl
      where
        stored_one : length d.entries < n → (t : Bool) → leb 512 w.left ≡ t
            → Done (suc i) (after_store i kind w (ok (pick t (written_whole (suc (first_bad w.region))) (cut_after w.left)), stored w.region e w.left))
        stored_one r true q =
            let low : 512 ≤ w.left = leb-true 512 w.left q in
            record {
              entries = d.entries ++ e ∷ [];
              holds = store_whole n n1 n128 w.region d.entries d.holds e w.left fits r q;
              added = suc d.added;
              count = length-append d.entries (e ∷ []) ∙ omega (arith, d.count);
              stage = goes refl (omega arith) (omega arith);
            }
        stored_one r false q =
            let low : w.left < 512 = leb-false 512 w.left q in
            record {
              entries = d.entries;
              holds = store_cut n n1 n128 w.region d.entries d.holds e w.left fits r q;
              added = d.added;
              count = d.count;
              stage = is_cut refl (omega arith) (omega arith);
            }

        by_room : (t : Bool) → ltb (length d.entries) n ≡ t → Done (suc i) (after_store i kind w (store_call w.region e w.left))
        by_room true q =
            let r : length d.entries < n = ltb-true (length d.entries) n q in
            let z : store_refusal w.region e ≡ 0 = accepted n n1 n128 w.region d.entries d.holds e w.left fits r in
            subst (λ (x : ℕ). Done (suc i) (after_store i kind w (pick (eqb x 0) (ok (reached w.left (suc (first_bad w.region)))) (refused x), stored w.region e w.left))) (sym z)
            (stored_one r (leb 512 w.left) refl)
        by_room false q =
            let h : length d.entries ≡ n = omega (arith, d.holds.room, ltb-false (length d.entries) n q) in
            let z : store_refusal w.region e ≡ 16 = full_refuses n n1 n128 w.region d.entries d.holds h e fits in
            subst (λ (x : ℕ). Done (suc i) (after_store i kind w (pick (eqb x 0) (ok (reached w.left (suc (first_bad w.region)))) (refused x), stored w.region e w.left))) (sym z)
            (record {
              entries = d.entries;
              holds = subst (λ (r : List ℕ). Holds n r d.entries)
                  (sym (stored_none w.region e (λ y. let b : ◌≡◌ {A = ℕ} 16 0 = sym z ∙ y in omega arith) w.left)) d.holds;
              added = d.added;
              count = d.count;
              stage = is_full refl h;
            })

  due_does : (i : ℕ) → i < 128 → (x : DueEntry) → Bounded x → (w : Keeping) → Done i w → Done (suc i) (keep_due i x w)
  due_does i hi nothing_due h w d = same_done i w w refl refl refl d
  due_does i hi new_session h w d = same_done i w (keep_due i new_session w) refl refl refl d
  due_does i hi (entry_due kind) h w d = go w.ending refl d.stage
    where
      go : (x : KeepEnding) → w.ending ≡ x → Stage d.added i d.entries w → Done (suc i) (store_due i kind w x)
      go all_stored q (goes e l few) = store_does i kind hi h w d e l few
      go all_stored q (is_cut e l few) = absurd (let z : ◌≡◌ {A = ℕ} 0 1 = cc in omega arith)
      go all_stored q (is_full e l) = absurd (let z : ◌≡◌ {A = ℕ} 0 1 = cc in omega arith)
      go cut_off q s = same_done i w (store_due i kind w cut_off) refl refl refl d
      go (refused_with j) q s = same_done i w (store_due i kind w (refused_with j)) refl refl refl d

  module _ (table : List Session) (answer : Result Report) (written : List ℕ) where
    pub numbers_do : (count i : ℕ) (w : Keeping) → i + count ≤ 128 → Done i w → Done (i + count) (keep_numbers table answer written count i w)
    unfolding keep_numbers keep_number
    numbers_do zero i w h d = subst (λ (j : ℕ). Done j w) (omega arith) d
    numbers_do (suc count) i w h d =
        subst (λ (j : ℕ). Done j (keep_numbers table answer written count (suc i) (keep_number table answer written i w))) (omega arith)
        (numbers_do count (suc i) (keep_number table answer written i w) (omega arith)
        (due_does i (omega arith) (due_for (is_opening i answer written) (get_or w.starts i false) (get_or table i blank))
        (due_bounded (is_opening i answer written) (get_or w.starts i false) (get_or table i blank)) w d))

-- ---- what is stopped stays stopped

stopped_due : (i : ℕ) (x : DueEntry) (w : Keeping) → (w.ending ≡ all_stored → ⊥) → ((keep_due i x w).ending ≡ w.ending) × ((keep_due i x w).region ≡ w.region)
stopped_due i nothing_due w h = (refl, refl)
stopped_due i new_session w h = (refl, refl)
stopped_due i (entry_due kind) w h = go w.ending refl
  where
    go : (x : KeepEnding) → w.ending ≡ x → ((store_due i kind w x).ending ≡ w.ending) × ((store_due i kind w x).region ≡ w.region)
    go all_stored q = absurd (h q)
    go cut_off q = (refl, refl)
    go (refused_with j) q = (refl, refl)

module _ (table : List Session) (answer : Result Report) (written : List ℕ) where
  pub stopped_stays : (count i : ℕ) (w : Keeping) → (w.ending ≡ all_stored → ⊥)
      → ((keep_numbers table answer written count i w).ending ≡ w.ending) × ((keep_numbers table answer written count i w).region ≡ w.region)
  unfolding keep_numbers keep_number
  stopped_stays zero i w h = (refl, refl)
  stopped_stays (suc count) i w h =
      let a = stopped_due i (due_for (is_opening i answer written) (get_or w.starts i false) (get_or table i blank)) w h in
      let b = stopped_stays count (suc i) (keep_number table answer written i w) (λ z. h (sym a.0 ∙ z)) in
      (b.0 ∙ a.0, b.1 ∙ a.1)
