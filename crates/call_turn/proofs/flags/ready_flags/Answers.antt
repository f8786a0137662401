use mathlib.Core.Path.{◌≡◌, refl, ap, ◌∙◌}
use Prim.Native.Nat.{ℕ}
use native.Mathlib.Omega.{arith}
use lib.ListN.{length, replicate, length-set}
use borrow.Author.Rules.{rules}
use Rattle.state.specs.New.{blank}
use Rattle.call_turn.specs.Ready.{flag_of}
use Rattle.call_turn.proofs.Ready.{fill_to, fill_step, fill_zero, fill_end}
use Rattle.call_turn.proofs.flags.ready_flags.Goals as goal

pub loop-i-init : goal.loop-i-init
loop-i-init c = (search rules, search rules, refl, refl, fill_zero flag_of _ _)

pub loop-i-preserved : goal.loop-i-preserved
loop-i-preserved c =
    let t = c.args.table in
    let l = c.loop-i in
    (search rules, search rules, refl, simp length-set l.invariant.3, rw (l.invariant.4, c.flag_of.ensures) (fill_step flag_of l.i t (replicate 128 0) blank (search rules) (omega (arith, c.loop-i-test.true))))

pub returns : goal.returns
returns c =
    let t = c.args.table in
    let l = c.loop-i in
    let e : l.i ≡ length t = omega arith in
    l.invariant.4 ∙ ap (λ (n : ℕ). fill_to flag_of n t (replicate 128 0)) e ∙ fill_end flag_of t (replicate 128 0) l.invariant.1
