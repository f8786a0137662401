-- One entry further: the search for an answer, and the listing.
use mathlib.Core.Path.{◌≡◌, refl, sym, ap, ◌∙◌}
use mathlib.Core.Bool.{Bool, true, false, not, ◌&&◌}
use mathlib.Core.List.{List, [], ◌∷◌, map}
use Prim.Native.Nat.{ℕ, ◌+◌, ◌-◌, ◌≤◌, ◌<◌}
use native.Mathlib.Omega.{arith}
use native.Mathlib.Numerals.{add-one}
use borrow.Author.Tests.{eq-eqb, ne_eqb, le-leb, lt-leb}
use lib.Dec.{eqb}
use lib.ListN.{length, get_or, take, drop, drop_of_length-le, length-drop}
use lib.Seq.{drop-cons, take_all}
use Rattle.laws.specs.Pick.{pick}
use Rattle.journal_rules.specs.Block.{JournalEntry}
use Rattle.laws.specs.Result.{ok, refused}
use Rattle.journal_rules.specs.Region.{sized, entries_of}
use Rattle.journal_rules.specs.Calls.{read_call, list_call}
use Rattle.journal_rules.specs.Listing.{is_answered, not_to_retry}
use Rattle.journal_read.specs.declared.Entry.{Entry}
use Rattle.journal_read.specs.Answers.{entry_as, begins_open}

-- the entries from an index on
abbrev pub from : ℕ → List Entry → List JournalEntry
from i es = map entry_as (drop i es)

pub from_end : (i : ℕ) (es : List Entry) → length es ≤ i → from i es ≡ []
from_end i es h = ap (map entry_as) (drop_of_length-le es h)

pub rest_is : (es : List Entry) (i : ℕ) → begins_open (map entry_as (take (length es - i) (drop i es))) ≡ begins_open (from i es)
rest_is es i = ap (λ (l : List Entry). begins_open (map entry_as l)) (take_all (length es - i) (drop i es) (omega (arith, length-drop i es)))

module _ (es : List Entry) (i : ℕ) (d : Entry) (h : i < length es) where
  on : from i es ≡ entry_as (get_or es i d) ∷ from (i + 1) es
  on =
      ap (map entry_as) (drop-cons es i d h)
      ∙ ap (λ (n : ℕ). entry_as (get_or es i d) ∷ from n es) (sym (add-one i))

  -- ---- the search for an answer

  module _ (number : ℕ) where
    pub answered_here : (get_or es i d).number ≡ number → (get_or es i d).kind < 3
        → not (eqb (get_or es i d).kind 0) ≡ is_answered number (from i es)
    unfolding is_answered pick
    answered_here p l =
        let k : (get_or es i d).kind ≤ 2 = omega arith in
        sym (ap (is_answered number) on ∙ rw (eq-eqb (get_or es i d).number number p, le-leb (get_or es i d).kind 2 k) (go (eqb (get_or es i d).kind 0)))
      where
        go : (t : Bool) → pick t false true ≡ not t
        go true = refl
        go false = refl

    pub answered_other : ((get_or es i d).number ≡ number → ⊥) → is_answered number (from (i + 1) es) ≡ is_answered number (from i es)
    unfolding is_answered pick
    answered_other p = sym (ap (is_answered number) on ∙ rw (ne_eqb (get_or es i d).number number p))

    pub answered_later : (get_or es i d).number ≡ number → 3 ≤ (get_or es i d).kind
        → is_answered number (from (i + 1) es) ≡ is_answered number (from i es)
    unfolding is_answered pick
    answered_later p l =
        let z : (get_or es i d).kind ≡ 0 → ⊥ = λ e. omega arith in
        let k : 2 < (get_or es i d).kind = omega arith in
        sym (ap (is_answered number) on ∙ rw (eq-eqb (get_or es i d).number number p, ne_eqb (get_or es i d).kind 0 z, lt-leb (get_or es i d).kind 2 k))

  -- ---- the listing

  pub list_on : not_to_retry i (from i es)
      ≡ pick (begins_open (from i es)) ((i + 1) ∷ not_to_retry (i + 1) (from (i + 1) es)) (not_to_retry (i + 1) (from (i + 1) es))
  unfolding not_to_retry pick
  list_on =
      ap (not_to_retry i) on
      ∙ step _ _ (eqb (get_or es i d).kind 0) (is_answered (get_or es i d).number (from (i + 1) es))
      ∙ ap (λ (n : ℕ). pick (begins_open (entry_as (get_or es i d) ∷ from (i + 1) es)) (n ∷ not_to_retry n (from (i + 1) es)) (not_to_retry n (from (i + 1) es))) (sym (add-one i))
      ∙ ap (λ (l : List JournalEntry). pick (begins_open l) ((i + 1) ∷ not_to_retry (i + 1) (from (i + 1) es)) (not_to_retry (i + 1) (from (i + 1) es))) (sym on)
    where
      step : (x y : List ℕ) (s a : Bool) → pick s (pick a x y) x ≡ pick (s && not a) y x
      step x y true true = refl
      step x y true false = refl
      step x y false a = refl

-- ---- what a read told

module _ (r : List ℕ) where
  pub listed : (es : List JournalEntry) → ok es ≡ read_call r → ok (not_to_retry 0 es) ≡ list_call r
  unfolding read_call list_call pick
  listed es h = go (sized r) h
    where
      go : (s : Bool) → ok es ≡ pick s (ok (entries_of r)) (refused 8) → ok (not_to_retry 0 es) ≡ pick s (ok (not_to_retry 0 (entries_of r))) (refused 8)
      go true e = let q : es ≡ entries_of r = cc in ap (λ (l : List JournalEntry). ok (not_to_retry 0 l)) q
      go false e = absurd cc

  pub not_listed : (n : ℕ) → refused n ≡ read_call r → refused n ≡ list_call r
  unfolding read_call list_call pick
  not_listed n h = go (sized r) h
    where
      go : (s : Bool) → refused n ≡ pick s (ok (entries_of r)) (refused 8) → refused n ≡ pick s (ok (not_to_retry 0 (entries_of r))) (refused 8)
      go true e = absurd cc
      go false e = let q : n ≡ 8 = cc in ap refused q
