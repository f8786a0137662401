-- What a search of a region for its first bad block finds.
use Rattle.std.specs.Prelude.{ℕ, List, Result, Ok, Err}
use Rattle.laws.specs.Pick.{pick}
use Rattle.refusal.specs.declared.Refusal.{Refusal}
use Rattle.refusal.specs.declared.Refusal.TheVariants.{WrongRoom}
use Rattle.journal_rules.specs.Region.{sized, full, blocks, first_bad}
use Rattle.journal_region.specs.declared.Search.{Search}
use Rattle.journal_region.specs.declared.Search.TheVariants.{BadAt, AllGood}

-- the region is not 1 to 128 whole blocks, its first bad block is at a place, or this many blocks are all good
unfoldable pub searched : List ℕ → Result Search Refusal
searched r = pick (sized r) (Ok (pick (full r) (AllGood (blocks r)) (BadAt (first_bad r)))) (Err WrongRoom)
