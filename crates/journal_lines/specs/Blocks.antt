-- What lines do to a region that are no calls of the journal.
use Rattle.std.specs.Prelude.{ℕ, ◌*◌, ◌+◌, ◌-◌, List, [], eqb, ltb, leb, length, set}
use Rattle.laws.specs.Pick.{pick}
use Rattle.journal_rules.specs.Region.{block_at}

-- a region with one byte set; a place behind it is left alone
unfoldable pub damaged : ℕ → ℕ → List ℕ → List ℕ
damaged place byte r = pick (ltb place (length r)) (set r place byte) r

-- the block of a number that counts from 1, or no bytes where the region does not hold the whole of it
unfoldable pub block_named : ℕ → List ℕ → List ℕ
block_named n r = pick (eqb n 0) [] (pick (leb (512 * (n - 1) + 512) (length r)) (block_at r (n - 1)) [])
