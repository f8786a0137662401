-- Histories of calls on a region that was zero at first, each call cut after any number of byte stores.
use Rattle.std.specs.Prelude.{ℕ, zero, suc, ◌*◌, ◌&&◌, List, [], ◌∷◌, leb, replicate}
use Rattle.laws.specs.Pick.{pick}
use Rattle.laws.specs.Runs.{fold}
use Rattle.journal_rules.specs.Block.{JournalEntry, storable}
use Rattle.journal_rules.specs.Calls.{store_call, repair_call}

-- a call, and how many of its byte stores are made before power is cut; with 512 or more all are
pub data CutCall : Type 0 where
  store : JournalEntry → ℕ → CutCall
  repair : ℕ → CutCall

abbrev pub region_left : List ℕ → CutCall → List ℕ
region_left r (store e j) = (store_call r e j).1
region_left r (repair j) = (repair_call r j).1

-- a region of n blocks of zeros
abbrev pub blank_region : ℕ → List ℕ
blank_region n = replicate (512 * n) 0

-- the region of n blocks after all calls
unfoldable pub region_after : ℕ → List CutCall → List ℕ
region_after n acts = fold region_left (blank_region n) acts

-- the entries stored whole, in order, told from the calls alone; this many blocks are unused
unfoldable pub whole_entries : ℕ → List CutCall → List JournalEntry
whole_entries unused [] = []
whole_entries unused (repair j ∷ acts) = whole_entries unused acts
whole_entries zero (store e j ∷ acts) = whole_entries zero acts
whole_entries (suc unused) (store e j ∷ acts) =
    pick (storable e && leb 512 j) (e ∷ whole_entries unused acts) (whole_entries (suc unused) acts)
