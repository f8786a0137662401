use Rattle.std.proofs.Common.{◌≡◌, ℕ, ◌+◌, ◌-◌, length, take, drop, sym, ap, ◌∙◌, arith, length-take, length-drop}
use Rattle.byte_slices.specs.Bytes.{index_of}
use Rattle.byte_slices.proofs.Search.{found, missed, part_is}
use Rattle.byte_slices.proofs.find.Goals as goal

pub returns-in-Some-clause-place : goal.returns-in-Some-clause-place
returns-in-Some-clause-place c =
    let a = c.args in
    ap (λ (n : ℕ). a.from + n) (sym (found a.value _ _ c.in-Some.ensures)
    ∙ ap (index_of a.value) (part_is a.from a.to a.s.now c.requires.low))

pub returns-in-None-clause-place : goal.returns-in-None-clause-place
returns-in-None-clause-place c =
    let a = c.args in
    let l : length (take (a.to - a.from) (drop a.from a.s.now)) ≡ a.to - a.from = length-take _ _ ∙ omega (arith, length-drop a.from a.s.now) in
    let e : a.to ≡ a.from + (a.to - a.from) = omega arith in
    e ∙ ap (λ (n : ℕ). a.from + n) (sym (missed a.value _ c.in-None.ensures ∙ l)
    ∙ ap (index_of a.value) (part_is a.from a.to a.s.now c.requires.low))
