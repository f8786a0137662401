-- The starts that are not to be retried, by their serials.
use Rattle.std.specs.Prelude.{ℕ, suc, Bool, true, false, List, [], ◌∷◌, leb, eqb}
use Rattle.laws.specs.Pick.{pick}
use Rattle.journal_rules.specs.Block.{JournalEntry}

-- a 1 or 2 for the number stands before its next start, or the end
unfoldable pub is_answered : ℕ → List JournalEntry → Bool
is_answered number [] = false
is_answered number (e ∷ es) =
    pick (eqb e.number number)
    (pick (eqb e.kind 0) false (pick (leb e.kind 2) true (is_answered number es)))
    (is_answered number es)

-- the serials of the starts that are not answered; k entries stand before these
unfoldable pub not_to_retry : ℕ → List JournalEntry → List ℕ
not_to_retry k [] = []
not_to_retry k (e ∷ es) =
    pick (eqb e.kind 0)
    (pick (is_answered e.number es) (not_to_retry (suc k) es) (suc k ∷ not_to_retry (suc k) es))
    (not_to_retry (suc k) es)
