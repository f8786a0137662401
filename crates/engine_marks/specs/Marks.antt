-- A byte that marks what is not written.
use Rattle.std.specs.Prelude.{ℕ, Bool, List, eqb}
use Rattle.std.specs.List.{list_all}

-- whether every byte is the mark
abbrev pub all_marks : ℕ → List ℕ → Bool
all_marks mark s = list_all (λ b. eqb b mark) s
