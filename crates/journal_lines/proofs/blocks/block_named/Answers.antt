-- `block_named` meets its contract: each test of the code is one of the definition.
use mathlib.Core.Path.{◌≡◌, sym, ap, ◌∙◌}
use mathlib.Core.List.{List}
use Prim.Native.Nat.{ℕ, ◌*◌, ◌+◌, ◌-◌}
use native.Mathlib.Omega.{arith}
use lib.ListN.{take, drop}
use borrow.Author.Tests.{eq-eqb, ne_eqb, le-leb, lt-leb}
use Rattle.laws.proofs.Pick.{yes, no}
use Rattle.journal_lines.specs.Blocks.{block_named}
use Rattle.journal_lines.proofs.blocks.block_named.Goals as goal

-- the part between two places is one of their distance
part-of-block : (from : ℕ) (r : List ℕ) → take (from + 512 - from) (drop from r) ≡ take 512 (drop from r)
part-of-block from r =
    let e : from + 512 - from ≡ 512 = omega arith in
    ap (λ (k : ℕ). take k (drop from r)) e

pub returns-then-n-eq0 : goal.returns-then-n-eq0
unfolding block_named
returns-then-n-eq0 c = sym (yes _ _ _ (eq-eqb _ _ c.if-n-eq0.true))

pub returns-then-from-region : goal.returns-then-from-region
unfolding block_named
returns-then-from-region c =
    let a = c.args in
    part-of-block (512 * (a.n - 1)) a.region.now ∙ sym (no _ _ _ (ne_eqb _ _ c.if-n-eq0.false) ∙ yes _ _ _ (le-leb _ _
    c.if-from-region.true))

pub returns : goal.returns
unfolding block_named
returns c =
    sym (no _ _ _ (ne_eqb _ _ c.if-n-eq0.false) ∙ no _ _ _ (lt-leb _ _ c.if-from-region.false))
