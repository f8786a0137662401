use Rattle.std.proofs.Common.{◌≡◌, ℕ, ◌+◌, ◌-◌, List, ◌∷◌, [], ◌++◌, map, sym, ap, ◌∙◌, append_assoc, append-nil, arith}
use Rattle.std.proofs.lemmas.List.{map-append}
use Rattle.journal_rules.specs.Block.{JournalEntry}
use Rattle.journal_read.specs.declared.Entry.{Entry}
use Rattle.journal_read.specs.Answers.{entry_as}
use Rattle.journal_read.proofs.Standing.{entries_in, entries_on, entries_end, bounds, entries_are}
use Rattle.journal_read.proofs.entries_before.Goals as goal

pub loop-place-init : goal.loop-place-init
loop-place-init c =
    let a = c.args in
    let b = bounds a.region.now c.requires.0 a.count c.requires.1 in
    let z : a.count - 0 ≡ a.count = omega arith in
    record {
      few = b.0;
      room = b.1;
      size = rw c.new-entries.ensures;
      all = rw c.new-entries.ensures (ap (λ (n : ℕ). entries_in n 0 a.region.now) z);
    }

pub loop-place-preserved : goal.loop-place-preserved
loop-place-preserved c =
    let a = c.args in
    let v = c.loop-place.invariant in
    let k = c.loop-place.place in
    let before = c.loop-place.entries.items in
    let rest = entries_in (a.count - (k + 1)) (k + 1) a.region.now in
    record {
      few = v.few;
      room = v.room;
      size = c.push.ensures.len ∙ ap (λ (n : ℕ). n + 1) v.size;
      all =
          ap (λ (l : List Entry). map entry_as l ++ rest) c.push.ensures.items
          ∙ ap (λ (l : List JournalEntry). l ++ rest) (map-append entry_as before (c.entry_at.result ∷ []))
          ∙ append_assoc (map entry_as before) (entry_as c.entry_at.result ∷ []) rest
          ∙ ap (λ (e : JournalEntry). map entry_as before ++ (e ∷ rest)) c.entry_at.ensures
          ∙ ap (λ (l : List JournalEntry). map entry_as before ++ l) (sym (entries_on a.region.now a.count k c.loop-place-test.true))
          ∙ v.all;
    }

pub returns : goal.returns
returns c =
    let a = c.args in
    let v = c.loop-place.invariant in
    let all = c.loop-place.entries.items in
    ap (map entry_as) c.of.ensures
    ∙ sym (append-nil (map entry_as all))
    ∙ ap (λ (l : List JournalEntry). map entry_as all ++ l) (sym (entries_end a.region.now a.count c.loop-place.place c.loop-place-test.false))
    ∙ v.all ∙ sym (entries_are a.region.now c.requires.0 a.count c.requires.1)
