-- A keep, as the store of what is due after a call of the engine is called here: number by number, until a store is refused or power is cut.
use Rattle.std.specs.Prelude.{ℕ, zero, suc, ◌-◌, Bool, false, not, List, eqb, get_or, set}
use Rattle.laws.specs.Result.{Result, ok, refused, violation}
use Rattle.state.specs.declared.Session.{Session}
use Rattle.state.specs.declared.Connection.{Connection}
use Rattle.state.specs.New.{blank}
use Rattle.protocol.specs.Judge.{Report}
use Rattle.journal_rules.specs.Block.{journal_entry}
use Rattle.journal_rules.specs.Calls.{Reached, written_whole, cut_after, none_bad, store_call}
use Rattle.journal_history.specs.Due.{DueEntry, nothing_due, new_session, entry_due, is_opening, due_for}

-- all that is due is stored, power is cut, or a store is refused with this number
pub data KeepEnding : Type 0 where
  all_stored : KeepEnding
  cut_off : KeepEnding
  refused_with : ℕ → KeepEnding

-- the region; for each number whether the start of its session is stored and its fate is not; and how many byte stores are made
-- before power is cut
pub record Keeping : Type 0 where
  pub region : List ℕ
  pub starts : List Bool
  pub left : ℕ
  pub ending : KeepEnding

abbrev pub with_start : ℕ → Bool → Keeping → Keeping
with_start n b w = record { region = w.region; starts = set w.starts n b; left = w.left; ending = w.ending }

-- an entry that is not stored: a start is missing, a fate stays due
abbrev pub unstored : ℕ → ℕ → Keeping → Keeping
unstored n kind w = with_start n (not (eqb kind 0)) w

-- an entry that is stored whole: a start, whose fate is not known yet, or a fate, which is stored once; a store answers nothing else than
-- that, a cut or a refusal
abbrev pub after_store : ℕ → ℕ → Keeping → Result Reached × List ℕ → Keeping
after_store n kind w (ok (written_whole serial), r) =
    record { region = r; starts = set w.starts n (eqb kind 0); left = w.left - 512; ending = all_stored }
after_store n kind w (ok (cut_after j), r) = unstored n kind (record { region = r; starts = w.starts; left = 0; ending = cut_off })
after_store n kind w (ok none_bad, r) = unstored n kind (record { region = r; starts = w.starts; left = 0; ending = cut_off })
after_store n kind w (refused k, r) = unstored n kind (record { region = r; starts = w.starts; left = w.left; ending = refused_with k })
after_store n kind w (violation f, r) = unstored n kind (record { region = r; starts = w.starts; left = 0; ending = cut_off })

-- nothing is stored after a store that is refused or cut
abbrev pub store_due : ℕ → ℕ → Keeping → KeepEnding → Keeping
store_due n kind w all_stored = after_store n kind w (store_call w.region (journal_entry n kind) w.left)
store_due n kind w cut_off = unstored n kind w
store_due n kind w (refused_with k) = unstored n kind w

abbrev pub keep_due : ℕ → DueEntry → Keeping → Keeping
keep_due n nothing_due w = w
keep_due n new_session w = with_start n false w
keep_due n (entry_due kind) w = store_due n kind w w.ending

module _ (table : List Session) (answer : Result Report) (written : List ℕ) where
  unfoldable pub keep_number : ℕ → Keeping → Keeping
  keep_number n w = keep_due n (due_for (is_opening n answer written) (get_or w.starts n false) (get_or table n blank)) w

  -- this many numbers, from n on
  unfoldable pub keep_numbers : ℕ → ℕ → Keeping → Keeping
  keep_numbers zero n w = w
  keep_numbers (suc count) n w = keep_numbers count (suc n) (keep_number n w)

-- all 128 numbers, with so many byte stores before power is cut; what stopped an earlier keep stops this one
unfoldable pub keep_all : Connection → Result Report → List ℕ → List ℕ → List Bool → KeepEnding → ℕ → Keeping
keep_all c answer written region starts ending left =
    keep_numbers c.sessions answer written 128 0 (record { region = region; starts = starts; left = left; ending = ending })

-- what a caller sees of it: the ending, which sessions have a start stored and no fate, and the region
abbrev pub seen_of : Keeping → KeepEnding × List Bool × List ℕ
seen_of w = (w.ending, w.starts, w.region)
