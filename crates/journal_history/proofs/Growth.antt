-- The kinds of a number's entries: how they grow, and what they say of the listing.
use mathlib.Core.Path.{◌≡◌, refl, sym, ap, subst, ◌∙◌}
use mathlib.Core.Bool.{Bool, true, false}
use mathlib.Core.List.{List, [], ◌∷◌, ◌++◌}
use Prim.Native.Nat.{ℕ, zero, suc, ◌+◌, ◌≤◌, ◌<◌}
use native.Mathlib.Omega.{arith}
use borrow.Author.Tests.{eq-eqb, ne_eqb, le-leb}
use lib.Dec.{eqb, leb}
use lib.ListN.{length, get_or, take, drop}
use Rattle.laws.specs.Pick.{pick}
use Rattle.laws.specs.Runs.{gather, times}
use Rattle.laws.proofs.Pick.{yes, no}
use Rattle.protocol.specs.Fate.{Fate, no_fate, running, complete, may_be_retried, must_not_be_retried}
use Rattle.journal_rules.specs.Block as block
use Rattle.journal_rules.specs.Listing.{is_answered}
use Rattle.journal_rules.specs.Claims.{entry_at}
use Rattle.history.specs.Log.{Entry}
use Rattle.journal_history.specs.Claims.{openings}
use Rattle.journal_history.specs.Sessions.{kinds_for, JournaledSession, journaled_session, journal_kinds}
use Rattle.journal_history.specs.Due.{fate_kind, is_opening}

-- ---- one entry more

pub kinds_snoc : (m : ℕ) (es : List block.JournalEntry) (e : block.JournalEntry)
    → kinds_for m (es ++ e ∷ []) ≡ kinds_for m es ++ pick (eqb e.number m) (e.kind ∷ []) []
unfolding kinds_for pick
kinds_snoc m [] e = refl
kinds_snoc m (x ∷ es) e = go (eqb x.number m) (kinds_snoc m es e)
  where
    go : (b : Bool) → kinds_for m (es ++ e ∷ []) ≡ kinds_for m es ++ pick (eqb e.number m) (e.kind ∷ []) []
        → pick b (x.kind ∷ kinds_for m (es ++ e ∷ [])) (kinds_for m (es ++ e ∷ []))
        ≡ pick b (x.kind ∷ kinds_for m es) (kinds_for m es) ++ pick (eqb e.number m) (e.kind ∷ []) []
    go b ih = elim b as (λ (b : Bool). pick b (x.kind ∷ kinds_for m (es ++ e ∷ [])) (kinds_for m (es ++ e ∷ []))
        ≡ pick b (x.kind ∷ kinds_for m es) (kinds_for m es) ++ pick (eqb e.number m) (e.kind ∷ []) [])
        [ true ↦ ap (λ (l : List ℕ). x.kind ∷ l) ih | false ↦ ih ]

-- a later kind other than a start adds no start
pub times_snoc : (ks : List ℕ) (k : ℕ) → eqb k 0 ≡ false → times 0 (ks ++ k ∷ []) ≡ times 0 ks
unfolding times pick
times_snoc [] k h = rw h
times_snoc (x ∷ ks) k h = ap (λ (t : ℕ). pick (eqb x 0) (suc t) t) (times_snoc ks k h)

-- ---- the listing, by the kinds

-- a 1 or 2 stands before the next start, or the end
abbrev answered_in : List ℕ → Bool
answered_in [] = false
answered_in (k ∷ ks) = pick (eqb k 0) false (pick (leb k 2) true (answered_in ks))

answered_kinds : (m : ℕ) (es : List block.JournalEntry) → is_answered m es ≡ answered_in (kinds_for m es)
unfolding is_answered kinds_for pick
answered_kinds m [] = refl
answered_kinds m (e ∷ es) = go (eqb e.number m) (answered_kinds m es)
  where
    go : (b : Bool) → is_answered m es ≡ answered_in (kinds_for m es)
        → pick b (pick (eqb e.kind 0) false (pick (leb e.kind 2) true (is_answered m es))) (is_answered m es)
        ≡ answered_in (pick b (e.kind ∷ kinds_for m es) (kinds_for m es))
    go true ih = ap (λ (t : Bool). pick (eqb e.kind 0) false (pick (leb e.kind 2) true t)) ih
    go false ih = ih

-- the kinds before a start, the start, and the kinds behind it
kinds_at : (m : ℕ) (es : List block.JournalEntry) (k : ℕ) → k < length es → entry_at es k ≡ block.journal_entry m 0
    → kinds_for m es ≡ kinds_for m (take k es) ++ (0 ∷ kinds_for m (drop (suc k) es))
unfolding kinds_for pick
kinds_at m [] k h q = absurd (omega arith)
kinds_at m (e ∷ es) zero h q =
    yes (eqb e.number m) (e.kind ∷ kinds_for m es) (kinds_for m es) (eq-eqb e.number m (ap (λ (x : block.JournalEntry). x.number) q))
    ∙ ap (λ (x : ℕ). x ∷ kinds_for m es) (ap (λ (x : block.JournalEntry). x.kind) q)
kinds_at m (e ∷ es) (suc k) h q = go (eqb e.number m) (kinds_at m es k (omega arith) q)
  where
    go : (b : Bool) → kinds_for m es ≡ kinds_for m (take k es) ++ (0 ∷ kinds_for m (drop (suc k) es))
        → pick b (e.kind ∷ kinds_for m es) (kinds_for m es)
        ≡ pick b (e.kind ∷ kinds_for m (take k es)) (kinds_for m (take k es)) ++ (0 ∷ kinds_for m (drop (suc k) es))
    go true ih = ap (λ (l : List ℕ). e.kind ∷ l) ih
    go false ih = ih

-- the groups of sessions begin with a start, so they answer nothing
groups_answer : (ts : List JournaledSession) → answered_in (gather journal_kinds ts) ≡ false
unfolding gather pick
groups_answer [] = refl
groups_answer (t ∷ ts) = refl

-- what stands behind a start
own_fate : (t : JournaledSession) (ts : List JournaledSession) → (t.fate ≡ complete → ⊥) → (t.fate ≡ may_be_retried → ⊥)
    → answered_in (pick t.answered (fate_kind t.fate) [] ++ gather journal_kinds ts) ≡ false
unfolding pick
own_fate t ts c r = go t.answered t.fate refl
  where
    go : (b : Bool) (f : Fate) → t.fate ≡ f → answered_in (pick b (fate_kind f) [] ++ gather journal_kinds ts) ≡ false
    go false f q = groups_answer ts
    go true no_fate q = groups_answer ts
    go true running q = groups_answer ts
    go true complete q = absurd (c q)
    go true may_be_retried q = absurd (r q)
    go true must_not_be_retried q = groups_answer ts

-- a kind of a fate is no start
data Fates : List ℕ → Type 0 where
  no_kind : Fates []
  one_kind : (j : ℕ) → Fates (suc j ∷ [])

fates_of : (b : Bool) (f : Fate) → Fates (pick b (fate_kind f) [])
unfolding pick
fates_of false f = no_kind
fates_of true no_fate = no_kind
fates_of true running = no_kind
fates_of true complete = one_kind 0
fates_of true may_be_retried = one_kind 1
fates_of true must_not_be_retried = one_kind 2

-- the kind of a fate is not that of a start
kind_late : (f : Fate) (kind : ℕ) → fate_kind f ≡ kind ∷ [] → eqb kind 0 ≡ false
kind_late f kind q = ne_eqb kind 0 (λ z. go f (q ∙ ap (λ (x : ℕ). x ∷ []) z))
  where
    go : (f : Fate) → fate_kind f ≡ 0 ∷ [] → ⊥
    go no_fate z = absurd (let e : ◌≡◌ {A = ℕ} 0 1 = ap length z in omega arith)
    go running z = absurd (let e : ◌≡◌ {A = ℕ} 0 1 = ap length z in omega arith)
    go complete z = absurd (let e : ◌≡◌ {A = ℕ} 0 1 = cc in omega arith)
    go may_be_retried z = absurd (let e : ◌≡◌ {A = ℕ} 0 2 = cc in omega arith)
    go must_not_be_retried z = absurd (let e : ◌≡◌ {A = ℕ} 0 3 = cc in omega arith)

abbrev first_session : JournaledSession
first_session = journaled_session no_fate false

-- what stands behind the start of a session: its fate, if it is stored, and then the kinds of other sessions
record Located (t : JournaledSession) (c : List ℕ) : Type 0 where
  rest : List JournaledSession
  is : c ≡ pick t.answered (fate_kind t.fate) [] ++ gather journal_kinds rest

abbrev Locates : List JournaledSession → Type 0
Locates ts = (a c : List ℕ) → gather journal_kinds ts ≡ a ++ (0 ∷ c) → Located (get_or ts (times 0 a) first_session) c

-- the start stands behind the kinds of a session before it
behind : (ts : List JournaledSession) → Locates ts → (g : List ℕ) → Fates g → (a c : List ℕ) → g ++ gather journal_kinds ts ≡ a ++ (0 ∷ c)
    → Located (get_or ts (times 0 a) first_session) c
unfolding times pick
behind ts ih g no_kind a c q = ih a c q
behind ts ih g (one_kind j) [] c q = absurd (let z : ◌≡◌ {A = ℕ} 0 (suc j) = cc in omega arith)
behind ts ih g (one_kind j) (zero ∷ a) c q = absurd (let z : ◌≡◌ {A = ℕ} 0 (suc j) = cc in omega arith)
behind ts ih g (one_kind j) (suc i ∷ a) c q =
    let e : times 0 (suc i ∷ a) ≡ times 0 a = no (eqb (suc i) 0) (suc (times 0 a)) (times 0 a) (ne_eqb (suc i) 0 (λ z. omega arith)) in
    subst (λ (l : ℕ). Located (get_or ts l first_session) c) (sym e) (ih a c (cc))

-- the start behind these kinds is that of the session with as many starts before it
located : (ts : List JournaledSession) → Locates ts
unfolding gather times pick
located [] [] c q = absurd (let z : ◌≡◌ {A = ℕ} 0 (suc (length c)) = ap length q in omega arith)
located [] (k ∷ a) c q = absurd (let z : ◌≡◌ {A = ℕ} 0 (suc (length (a ++ (0 ∷ c)))) = ap length q in omega arith)
located (t ∷ ts) [] c q = record { rest = ts; is = sym (cc) }
located (t ∷ ts) (zero ∷ a) c q =
    behind ts (located ts) (pick t.answered (fate_kind t.fate) []) (fates_of t.answered t.fate) a c (cc)
located (t ∷ ts) (suc k ∷ a) c q = absurd (let z : ◌≡◌ {A = ℕ} 0 (suc k) = cc in omega arith)

-- ---- the start at a place, by the sessions of its number

module _ (m : ℕ) (es : List block.JournalEntry) (ts : List JournaledSession) (g : kinds_for m es ≡ gather journal_kinds ts) (k : ℕ) (h : k < length es)
    (q : entry_at es k ≡ block.journal_entry m 0) where
  abbrev started : JournaledSession
  started = get_or ts (times 0 (kinds_for m (take k es))) first_session

  found : Located started (kinds_for m (drop (suc k) es))
  found = located ts (kinds_for m (take k es)) (kinds_for m (drop (suc k) es)) (sym g ∙ kinds_at m es k h q)

  pub start_unanswered : (started.fate ≡ complete → ⊥) → (started.fate ≡ may_be_retried → ⊥) → is_answered m (drop (suc k) es) ≡ false
  start_unanswered x y =
      answered_kinds m (drop (suc k) es) ∙ ap answered_in found.is ∙ own_fate started found.rest x y

  pub start_answered : (kind : ℕ) → started.answered ≡ true → fate_kind started.fate ≡ kind ∷ [] → kind ≤ 2 → is_answered m (drop (suc k) es) ≡ true
  unfolding pick
  start_answered kind a f low =
      answered_kinds m (drop (suc k) es)
      ∙ ap answered_in
      (found.is
      ∙ ap (λ (b : Bool). pick b (fate_kind started.fate) [] ++ gather journal_kinds found.rest) a
      ∙ ap (λ (l : List ℕ). l ++ gather journal_kinds found.rest) f)
      ∙ ap (λ (b : Bool). pick b false (pick (leb kind 2) true (answered_in (gather journal_kinds found.rest)))) (kind_late started.fate kind f)
      ∙ ap (λ (b : Bool). pick b true (answered_in (gather journal_kinds found.rest))) (le-leb kind 2 low)

-- ---- counting starts and openings

pub times_append : (a b : List ℕ) → times 0 (a ++ b) ≡ times 0 a + times 0 b
unfolding times pick
times_append [] b = omega arith
times_append (x ∷ a) b = go (eqb x 0) (times_append a b)
  where
    go : (t : Bool) → times 0 (a ++ b) ≡ times 0 a + times 0 b
        → pick t (suc (times 0 (a ++ b))) (times 0 (a ++ b)) ≡ pick t (suc (times 0 a)) (times 0 a) + times 0 b
    go true ih = omega arith
    go false ih = ih

pub times_start : (ks : List ℕ) → times 0 (ks ++ 0 ∷ []) ≡ times 0 ks + 1
unfolding times pick
times_start ks = times_append ks (0 ∷ [])

pub openings_append : (m : ℕ) (a b : List Entry) → openings m (a ++ b) ≡ openings m a + openings m b
unfolding openings pick
openings_append m [] b = omega arith
openings_append m (e ∷ a) b = go (is_opening m e.answer e.wrote) (openings_append m a b)
  where
    go : (t : Bool) → openings m (a ++ b) ≡ openings m a + openings m b
        → pick t (suc (openings m (a ++ b))) (openings m (a ++ b)) ≡ pick t (suc (openings m a)) (openings m a) + openings m b
    go true ih = omega arith
    go false ih = ih

pub openings_one : (m : ℕ) (e : Entry) → openings m (e ∷ []) ≡ pick (is_opening m e.answer e.wrote) 1 0
unfolding openings
openings_one m e = refl
