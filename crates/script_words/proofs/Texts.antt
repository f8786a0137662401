-- Answers of calls on texts.
use mathlib.Core.Path.{◌≡◌, ap, sym, ◌∙◌}
use mathlib.Core.List.{List}
use Prim.Native.Nat.{ℕ}

-- what a call answers about a text that equals another
pub told : {A : Type 0} {h s : List ℕ} (f : List ℕ → A) {r x : A} → h ≡ s → r ≡ f h → r ≡ x → f s ≡ x
told f p q e = ap f (sym p) ∙ sym q ∙ e
