-- The listing: a serial is listed exactly if a start stands at its place and no 1 or 2 answers it.
use mathlib.Core.Path.{◌≡◌, refl, sym, ap, subst, ◌∙◌}
use mathlib.Core.Bool.{Bool, true, false}
use mathlib.Core.List.{List, [], ◌∷◌}
use Prim.Native.Nat.{ℕ, zero, suc, ◌+◌, ◌-◌, ◌≤◌, ◌<◌}
use native.Mathlib.Omega.{arith}
use native.Mathlib.Nat.{pos_of_ne-zero}
use borrow.Author.Tests.{eqb-true, eqb-false, leb-true, leb-false, eq-eqb}
use lib.Dec.{eqb, leb}
use lib.ListN.{length, drop, length-drop}
use lib.Seq.{get_or-drop}
use Rattle.laws.specs.Pick.{pick}
use Rattle.laws.proofs.Pick.{yes, no}
use Rattle.laws.proofs.Tests.{true_false}
use Rattle.journal_rules.specs.Block.{JournalEntry, journal_entry}
use Rattle.journal_rules.specs.Listing.{is_answered, not_to_retry}
use Rattle.journal_rules.specs.Claims.{entry_at, Answers, ◌∈◌, is_first, in_rest, ListedExactly, Rising}

-- ---- what `answered` means, place by place

-- a 1 or 2 for the number stands at a place, with no start of that number before it
record Answered (number : ℕ) (es : List JournalEntry) : Type 0 where
  place : ℕ
  inside : place < length es
  for_it : (entry_at es place).number ≡ number
  low : 1 ≤ (entry_at es place).kind
  high : (entry_at es place).kind ≤ 2
  no_start : (i : ℕ) → i < place → (entry_at es i).number ≡ number → (entry_at es i).kind ≡ 0 → ⊥

module _ (n : ℕ) (e : JournalEntry) (es : List JournalEntry) where
  -- one place further
  later : (e.number ≡ n → e.kind ≡ 0 → ⊥) → Answered n es → Answered n (e ∷ es)
  later h a =
      record {
        place = suc a.place;
        inside = omega (arith, a.inside);
        for_it = a.for_it;
        low = a.low;
        high = a.high;
        no_start = λ i. elim i as (λ (x : ℕ). x < suc a.place → (entry_at (e ∷ es) x).number ≡ n → (entry_at (e ∷ es) x).kind ≡ 0 → ⊥)
            [ zero ↦ λ l p q. h p q | suc x ↦ λ l p q. a.no_start x (omega arith) p q ];
      }

  at_once : e.number ≡ n → (e.kind ≡ 0 → ⊥) → e.kind ≤ 2 → Answered n (e ∷ es)
  at_once p z h =
      record {
        place = 0;
        inside = omega arith;
        for_it = p;
        low = pos_of_ne-zero z;
        high = h;
        no_start = λ i l. absurd (omega arith);
      }

  to_cons : (is_answered n es ≡ true → Answered n es) → (a b c : Bool) → eqb e.number n ≡ a → eqb e.kind 0 ≡ b → leb e.kind 2 ≡ c
      → pick a (pick b false (pick c true (is_answered n es))) (is_answered n es) ≡ true → Answered n (e ∷ es)
  unfolding pick
  to_cons ih true true c p q r h = absurd (true_false refl (sym h))
  to_cons ih true false true p q r h = at_once (eqb-true e.number n p) (eqb-false e.kind 0 q) (leb-true e.kind 2 r)
  to_cons ih true false false p q r h = later (λ x y. eqb-false e.kind 0 q y) (ih h)
  to_cons ih false b c p q r h = later (λ x y. eqb-false e.number n p x) (ih h)

  back_cons : (a b c : Bool) → eqb e.number n ≡ a → eqb e.kind 0 ≡ b → leb e.kind 2 ≡ c
      → (e.number ≡ n → e.kind ≡ 0 → ⊥) → ((e.number ≡ n → e.kind ≤ 2 → ⊥) → is_answered n es ≡ true)
      → pick a (pick b false (pick c true (is_answered n es))) (is_answered n es) ≡ true
  unfolding pick
  back_cons true true c p q r z f = absurd (z (eqb-true e.number n p) (eqb-true e.kind 0 q))
  back_cons true false true p q r z f = refl
  back_cons true false false p q r z f = f (λ x y. omega (arith, leb-false e.kind 2 r))
  back_cons false b c p q r z f = f (λ x y. eqb-false e.number n p x)

to : (n : ℕ) (es : List JournalEntry) → is_answered n es ≡ true → Answered n es
unfolding is_answered
to n [] h = absurd (true_false refl (sym h))
to n (e ∷ es) h = to_cons n e es (to n es) (eqb e.number n) (eqb e.kind 0) (leb e.kind 2) refl refl refl h

-- the place is the first one, or lies further on
sooner : (n : ℕ) (e : JournalEntry) (es : List JournalEntry) (a : Answered n (e ∷ es)) (k : ℕ) → a.place ≡ suc k → Answered n es
sooner n e es a k q =
    record {
      place = k;
      inside = omega (arith, a.inside);
      for_it = subst (λ (x : ℕ). (entry_at (e ∷ es) x).number ≡ n) q a.for_it;
      low = subst (λ (x : ℕ). 1 ≤ (entry_at (e ∷ es) x).kind) q a.low;
      high = subst (λ (x : ℕ). (entry_at (e ∷ es) x).kind ≤ 2) q a.high;
      no_start = λ i l. a.no_start (suc i) (omega arith);
    }

back : (n : ℕ) (es : List JournalEntry) → Answered n es → is_answered n es ≡ true
unfolding is_answered
back n [] a = absurd (omega (arith, a.inside))
back n (e ∷ es) a = go (back n es) a.place refl
  where
    go : (Answered n es → is_answered n es ≡ true) → (k : ℕ) → a.place ≡ k → is_answered n (e ∷ es) ≡ true
    go ih zero q =
        back_cons n e es (eqb e.number n) (eqb e.kind 0) (leb e.kind 2) refl refl refl
        (λ x y. omega (arith, subst (λ (x : ℕ). 1 ≤ (entry_at (e ∷ es) x).kind) q a.low))
        (λ f. absurd (f (subst (λ (x : ℕ). (entry_at (e ∷ es) x).number ≡ n) q a.for_it) (subst (λ (x : ℕ). (entry_at (e ∷ es) x).kind ≤ 2) q a.high)))
    go ih (suc k) q =
        back_cons n e es (eqb e.number n) (eqb e.kind 0) (leb e.kind 2) refl refl refl
        (a.no_start 0 (omega arith))
        (λ f. ih (sooner n e es a k q))

-- ---- the same of the entries behind a place, by their places in the whole list

module _ (es : List JournalEntry) (from : ℕ) where
  shifted : (i : ℕ) → entry_at (drop from es) i ≡ entry_at es (from + i)
  shifted i = get_or-drop from es i (journal_entry 0 0)

  back_at : (number place : ℕ) → Answers es number from place → is_answered number (drop from es) ≡ true
  back_at number place a =
      let e : from + (place - from) ≡ place = omega (arith, a.behind) in
      let s : entry_at (drop from es) (place - from) ≡ entry_at es place = shifted (place - from) ∙ ap (entry_at es) e in
      back number (drop from es)
      (record {
        place = place - from;
        inside = omega (arith, a.inside, a.behind, length-drop from es);
        for_it = ap (λ (x : JournalEntry). x.number) s ∙ a.same_number;
        low = subst (λ (x : JournalEntry). 1 ≤ x.kind) (sym s) a.low;
        high = subst (λ (x : JournalEntry). x.kind ≤ 2) (sym s) a.high;
        no_start = λ i l p q.
            a.no_start (from + i) (omega arith) (omega arith) (ap (λ (x : JournalEntry). x.number) (sym (shifted i)) ∙ p)
            (ap (λ (x : JournalEntry). x.kind) (sym (shifted i)) ∙ q);
      })

  to_at : (number : ℕ) → is_answered number (drop from es) ≡ true → ((place : ℕ) → Answers es number from place → ⊥) → ⊥
  to_at number h none =
      let a : Answered number (drop from es) = to number (drop from es) h in
      none (from + a.place)
      (record {
        inside = omega (arith, a.inside, length-drop from es);
        behind = omega arith;
        same_number = ap (λ (x : JournalEntry). x.number) (sym (shifted a.place)) ∙ a.for_it;
        low = subst (λ (x : JournalEntry). 1 ≤ x.kind) (shifted a.place) a.low;
        high = subst (λ (x : JournalEntry). x.kind ≤ 2) (shifted a.place) a.high;
        no_start = λ i b l p q.
            let e : from + (i - from) ≡ i = omega arith in
            let s : entry_at (drop from es) (i - from) ≡ entry_at es i = shifted (i - from) ∙ ap (entry_at es) e in
            a.no_start (i - from) (omega arith) (ap (λ (x : JournalEntry). x.number) s ∙ p) (ap (λ (x : JournalEntry). x.kind) s ∙ q);
      })

-- ---- what is listed

-- a start that is not answered, at a place behind k others, and its serial
record Open (k s : ℕ) (es : List JournalEntry) : Type 0 where
  place : ℕ
  is : s ≡ suc (k + place)
  inside : place < length es
  start : (entry_at es place).kind ≡ 0
  unanswered : is_answered (entry_at es place).number (drop (suc place) es) ≡ false

open_later : (k s : ℕ) (e : JournalEntry) (es : List JournalEntry) → Open (suc k) s es → Open k s (e ∷ es)
open_later k s e es o =
    record {
      place = suc o.place;
      is = omega (arith, o.is);
      inside = omega (arith, o.inside);
      start = o.start;
      unanswered = o.unanswered;
    }

open_cons : (k s : ℕ) (e : JournalEntry) (es : List JournalEntry) → (s ∈ not_to_retry (suc k) es → Open (suc k) s es)
    → (t : Bool) → eqb e.kind 0 ≡ t → (u : Bool) → is_answered e.number es ≡ u
    → s ∈ pick t (pick u (not_to_retry (suc k) es) (suc k ∷ not_to_retry (suc k) es)) (not_to_retry (suc k) es) → Open k s (e ∷ es)
unfolding pick
open_cons k s e es ih false z u a q = open_later k s e es (ih q)
open_cons k s e es ih true z true a q = open_later k s e es (ih q)
open_cons k s e es ih true z false a (is_first xs) =
    record { place = 0; is = omega arith; inside = omega arith; start = eqb-true e.kind 0 z; unanswered = a }
open_cons k s e es ih true z false a (in_rest y xs q) = open_later k s e es (ih q)

open_listed : (k s : ℕ) (es : List JournalEntry) → s ∈ not_to_retry k es → Open k s es
unfolding not_to_retry
open_listed k s [] m = elim m [ ]
open_listed k s (e ∷ es) m =
    open_cons k s e es (open_listed (suc k) s es) (eqb e.kind 0) refl (is_answered e.number es) refl m

module _ (k : ℕ) (e : JournalEntry) (es : List JournalEntry) where
  listed_first : e.kind ≡ 0 → is_answered e.number es ≡ false → suc k ∈ not_to_retry k (e ∷ es)
  unfolding not_to_retry
  listed_first z a =
      subst (λ (xs : List ℕ). suc k ∈ xs)
      (sym (yes (eqb e.kind 0) _ _ (eq-eqb e.kind 0 z) ∙ no (is_answered e.number es) _ _ a)) (is_first (not_to_retry (suc k) es))

  listed_later : (s : ℕ) → s ∈ not_to_retry (suc k) es → s ∈ not_to_retry k (e ∷ es)
  unfolding not_to_retry pick
  listed_later s m = go (eqb e.kind 0) (is_answered e.number es)
    where
      go : (t u : Bool) → s ∈ pick t (pick u (not_to_retry (suc k) es) (suc k ∷ not_to_retry (suc k) es)) (not_to_retry (suc k) es)
      go t u = elim t as (λ (t : Bool). s ∈ pick t (pick u (not_to_retry (suc k) es) (suc k ∷ not_to_retry (suc k) es)) (not_to_retry (suc k) es))
          [ true ↦ elim u as (λ (u : Bool). s ∈ pick u (not_to_retry (suc k) es) (suc k ∷ not_to_retry (suc k) es)) [ true ↦ m | false ↦ in_rest (suc k) (not_to_retry (suc k) es) m ] | false ↦ m ]

listed_open : (k i : ℕ) (es : List JournalEntry) → i < length es → (entry_at es i).kind ≡ 0
    → is_answered (entry_at es i).number (drop (suc i) es) ≡ false → suc (k + i) ∈ not_to_retry k es
listed_open k i [] h z a = absurd (omega arith)
listed_open k zero (e ∷ es) h z a =
    subst (λ (s : ℕ). suc s ∈ not_to_retry k (e ∷ es)) (omega arith) (listed_first k e es z a)
listed_open k (suc i) (e ∷ es) h z a =
    listed_later k e es (suc (k + suc i))
    (subst (λ (s : ℕ). suc s ∈ not_to_retry (suc k) es) (omega arith) (listed_open (suc k) i es (omega arith) z a))

-- a start that is not answered is listed
pub listed_unanswered : (es : List JournalEntry) (k : ℕ) → k < length es → (entry_at es k).kind ≡ 0
    → is_answered (entry_at es k).number (drop (suc k) es) ≡ false → suc k ∈ not_to_retry 0 es
listed_unanswered es k h z a = let p : 0 + k ≡ k = omega arith in subst (λ (s : ℕ). suc s ∈ not_to_retry 0 es) p (listed_open 0 k es h z a)

pub listed_exactly : (es : List JournalEntry) → ListedExactly es
listed_exactly es k = (there, back_again)
  where
    unless : (t : Bool) → is_answered (entry_at es k).number (drop (suc k) es) ≡ t
        → ((place : ℕ) → Answers es (entry_at es k).number (suc k) place → ⊥) → t ≡ false
    unless false q none = refl
    unless true q none = absurd (to_at es (suc k) (entry_at es k).number q none)

    back_again : (k < length es) × ((entry_at es k).kind ≡ 0) × ((place : ℕ) → Answers es (entry_at es k).number (suc k) place → ⊥)
        → suc k ∈ not_to_retry 0 es
    back_again h = listed_unanswered es k h.0 h.1 (unless (is_answered (entry_at es k).number (drop (suc k) es)) refl h.2)

    there : suc k ∈ not_to_retry 0 es
        → (k < length es) × ((entry_at es k).kind ≡ 0) × ((place : ℕ) → Answers es (entry_at es k).number (suc k) place → ⊥)
    there m =
        let o : Open 0 (suc k) es = open_listed 0 (suc k) es m in
        let p : o.place ≡ k = omega (arith, o.is) in (
          subst (λ (i : ℕ). i < length es) p o.inside,
          subst (λ (i : ℕ). (entry_at es i).kind ≡ 0) p o.start,
          λ place a.
              true_false (back_at es (suc k) (entry_at es k).number place a)
              (subst (λ (i : ℕ). is_answered (entry_at es i).number (drop (suc i) es) ≡ false) p o.unanswered),
        )

-- ---- the serials rise

rising_lower : (low high : ℕ) (ss : List ℕ) → low ≤ high → Rising high ss → Rising low ss
rising_lower low high [] h r = tt
rising_lower low high (s ∷ ss) h r = (omega (arith, r.0), r.1)

rising_from : (k : ℕ) (es : List JournalEntry) → Rising k (not_to_retry k es)
unfolding not_to_retry pick
rising_from k [] = tt
rising_from k (e ∷ es) = go (eqb e.kind 0) (is_answered e.number es) (rising_from (suc k) es)
  where
    go : (t u : Bool) → Rising (suc k) (not_to_retry (suc k) es)
        → Rising k (pick t (pick u (not_to_retry (suc k) es) (suc k ∷ not_to_retry (suc k) es)) (not_to_retry (suc k) es))
    go true true r = rising_lower k (suc k) (not_to_retry (suc k) es) (omega arith) r
    go true false r = (omega arith, r)
    go false u r = rising_lower k (suc k) (not_to_retry (suc k) es) (omega arith) r

pub listed_in_order : (es : List JournalEntry) → Rising 0 (not_to_retry 0 es)
listed_in_order es = rising_from 0 es

-- a start that is listed is not answered
pub listed_not_answered : (es : List JournalEntry) (k : ℕ) → suc k ∈ not_to_retry 0 es → is_answered (entry_at es k).number (drop (suc k) es) ≡ false
listed_not_answered es k m =
    let o : Open 0 (suc k) es = open_listed 0 (suc k) es m in
    let p : o.place ≡ k = omega (arith, o.is) in
    subst (λ (i : ℕ). is_answered (entry_at es i).number (drop (suc i) es) ≡ false) p o.unanswered
