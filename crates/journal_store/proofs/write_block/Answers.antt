use mathlib.Core.Path.{◌≡◌, sym, ap, ◌∙◌}
use mathlib.Core.List.{List}
use Prim.Native.Nat.{ℕ, ◌+◌, ◌*◌}
use native.Mathlib.Omega.{arith}
use native.Mathlib.Numerals.{add-one}
use borrow.Author.Tests.{le-leb, lt-leb}
use lib.ListN.{get_or, set, length-set}
use lib.Seq.{paste, paste-suc}
use Rattle.laws.proofs.Pick.{yes, no}
use Rattle.journal_store.proofs.write_block.Goals as goal

pub loop-i-preserved : goal.loop-i-preserved
loop-i-preserved c =
    let a = c.args in
    let v = c.loop-i.invariant in
    let at : ℕ = 512 * c.from-at.result in
    let i : ℕ = c.loop-i.i in
    let is : c.from-at.result ≡ a.place = c.from-at.ensures in
    record {
      sized = simp length-set v.sized;
      stored =
          ap (λ (x : List ℕ). set x (at + i) (get_or a.block.now i 0)) v.stored
          ∙ paste-suc a.region.now at a.block.now i 0 (omega (arith, is, c.requires.room, c.min-i-end.ensures)) (omega (arith, c.min-i-end.ensures))
          ∙ ap (paste a.region.now at a.block.now) (sym (add-one i));
    }

pub returns-then-stores-lt512-clause-answer : goal.returns-then-stores-lt512-clause-answer
returns-then-stores-lt512-clause-answer c = sym (no _ _ _ (lt-leb 512 c.args.stores c.if-stores-lt512.true))

pub returns-else-stores-lt512-clause-answer : goal.returns-else-stores-lt512-clause-answer
returns-else-stores-lt512-clause-answer c = sym (yes _ _ _ (le-leb 512 c.args.stores c.if-stores-lt512.false))
