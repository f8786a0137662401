-- The words of what a store, a repair, a read and a listing answer.
use Rattle.std.specs.Prelude.{ℕ, suc, List, [], ◌∷◌, ◌++◌, length, Result, Ok, Err, Option, Some, None, codes}
use Rattle.std.specs.List.{flat_map}
use Rattle.refusal.specs.declared.Refusal.{Refusal}
use Rattle.refusal.specs.Number.{refusal_number}
use Rattle.text_line.specs.Line.{item_text}
use Rattle.journal_store.specs.declared.Written.{Written}
use Rattle.journal_store.specs.declared.Written.TheVariants.{Whole, Cut}
use Rattle.journal_read.specs.BlockList.{BlockList}
use Rattle.journal_read.specs.declared.Entry.{Entry}

abbrev pub store_text : Result Written Refusal → List ℕ
store_text (Ok (Whole serial)) = item_text "store ok serial " serial
store_text (Ok (Cut stores)) = item_text "store cut " stores
store_text (Err r) = item_text "store refused " (refusal_number r)

abbrev pub repair_text : Result (Option Written) Refusal → List ℕ
repair_text (Ok (Some (Whole block))) = item_text "repair ok block " block
repair_text (Ok (Some (Cut stores))) = item_text "repair cut " stores
repair_text (Ok None) = codes "repair ok none"
repair_text (Err r) = item_text "repair refused " (refusal_number r)

-- the line of an entry, by its serial
abbrev pub entry_line : ℕ → Entry → List ℕ
entry_line serial e = item_text "\nentry " serial ++ item_text " id " e.number ++ item_text " kind " e.kind

-- a line for each entry, whose serials go on from a number
abbrev pub entry_lines : ℕ → List Entry → List ℕ
entry_lines serial [] = []
entry_lines serial (e ∷ es) = entry_line serial e ++ entry_lines (suc serial) es

abbrev pub read_text : Result (BlockList Entry) Refusal → List ℕ
read_text (Ok entries) = item_text "read ok " (length entries.items) ++ entry_lines 1 entries.items
read_text (Err r) = item_text "read refused " (refusal_number r)

abbrev pub list_text : Result (BlockList ℕ) Refusal → List ℕ
list_text (Ok serials) = codes "list ok" ++ flat_map (item_text " ") serials.items
list_text (Err r) = item_text "list refused " (refusal_number r)
