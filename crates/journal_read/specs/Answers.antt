-- What the answers of a read and a listing mean, in the terms of the journal's rules.
use Rattle.std.specs.Prelude.{ℕ, Bool, false, not, ◌&&◌, List, [], ◌∷◌, eqb, map, Result}
use Rattle.laws.specs.Result.{Result as Answer}
use Rattle.refusal.specs.declared.Refusal.{Refusal}
use Rattle.refusal.specs.Failure.{or_refused}
use Rattle.journal_rules.specs.Block.{JournalEntry, journal_entry}
use Rattle.journal_rules.specs.Listing.{is_answered}
use Rattle.journal_read.specs.declared.Entry.{Entry}
use Rattle.journal_read.specs.BlockList.{BlockList}

abbrev pub entry_as : Entry → JournalEntry
entry_as e = journal_entry e.number e.kind

abbrev pub entries_as : Result (BlockList Entry) Refusal → Answer (List JournalEntry)
entries_as a = or_refused (λ (entries : BlockList Entry). map entry_as entries.items) a

abbrev pub listed_as : Result (BlockList ℕ) Refusal → Answer (List ℕ)
listed_as a = or_refused (λ (serials : BlockList ℕ). serials.items) a

-- a start stands first, and no entry behind it answers it
abbrev pub begins_open : List JournalEntry → Bool
begins_open [] = false
begins_open (e ∷ es) = eqb e.kind 0 && not (is_answered e.number es)
