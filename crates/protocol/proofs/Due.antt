-- What the message of a turn has, for every number of bytes that wait: all of them, or as many as the ration allows.
use mathlib.Core.Path.{◌≡◌, refl, ◌∙◌}
use mathlib.Core.Bool.{Bool, true, false, ◌&&◌}
use mathlib.Core.List.{List}
use Prim.Native.Nat.{ℕ, ◌-◌, ◌≤◌, ◌<◌}
use native.Mathlib.Omega.{arith}
use lib.ListN.{length}
use borrow.Author.Tests.{eq-eqb, ne_eqb}
use Rattle.ration.specs.declared.Ration.{Ration}
use Rattle.ration.specs.declared.Ration.TheVariants as ration
use Rattle.protocol.specs.Message.{data_of}
use Rattle.protocol.specs.Observed.{sending, due_length, due_by}
use Rattle.protocol.proofs.Views.{due_length_lem}

module _ (unsent finish : Bool) (waiting : List ℕ) where
  -- nothing remains, so eof tells whether finish was taken
  all_due : (r : Ration) → due_length (length waiting) r ≡ length waiting
      → due_by (sending unsent waiting r finish) ≡ data_of (length waiting) unsent false finish false
  all_due r e = rw (e, eq-eqb (length waiting - length waiting) 0 (omega arith)) (go finish)
    where
      go : (b : Bool) → data_of (length waiting) unsent false (b && true) false ≡ data_of (length waiting) unsent false b false
      go true = refl
      go false = refl

  -- all that waits, where the ration allows it
  pub due_whole : (n : ℕ) → length waiting ≤ n → due_by (sending unsent waiting (ration.Finite n) finish) ≡ data_of (length waiting) unsent false finish false
  due_whole n h = all_due (ration.Finite n) (due_length_lem (length waiting) (ration.Finite n) ∙ omega arith)

  pub due_endless : due_by (sending unsent waiting ration.Endless finish) ≡ data_of (length waiting) unsent false finish false
  due_endless = all_due ration.Endless refl

  -- else as many bytes as the ration allows, and no eof, even if finish was taken
  pub due_cut : (n : ℕ) → n < length waiting → due_by (sending unsent waiting (ration.Finite n) finish) ≡ data_of n unsent false false false
  due_cut n h =
      let some : due_length (length waiting) (ration.Finite n) ≡ n = due_length_lem (length waiting) (ration.Finite n) ∙ omega arith in
      rw (some, ne_eqb (length waiting - n) 0 (λ e. omega arith)) (go finish)
    where
      go : (b : Bool) → data_of n unsent false (b && false) false ≡ data_of n unsent false false false
      go true = refl
      go false = refl
