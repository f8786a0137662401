-- What the answers and the work of a keep mean, in the terms of its rules.
use Rattle.std.specs.Prelude.{ℕ, ◌≡◌, Bool, List, set, Option, Some, None, Result}
use Rattle.refusal.specs.declared.Refusal.{Refusal}
use Rattle.refusal.specs.Number.{refusal_number}
use Rattle.journal_store.specs.declared.Written.{Written}
use Rattle.journal_store.specs.Answers.{stored_as}
use Rattle.journal_history.specs.Due as rules
use Rattle.journal_history.specs.Keep.{KeepEnding, all_stored, cut_off, refused_with, Keeping, after_store}
use Rattle.journal_keep.specs.declared.fates.Due.{Due}
use Rattle.journal_keep.specs.declared.fates.Due.TheVariants as due
use Rattle.journal_keep.specs.declared.Stopped.{Stopped}
use Rattle.journal_keep.specs.declared.Stopped.TheVariants as stopped
use Rattle.journal_keep.specs.declared.Work.{Work}

abbrev pub due_as : Option Due → rules.DueEntry
due_as None = rules.nothing_due
due_as (Some due.NewSession) = rules.new_session
due_as (Some (due.Entry kind)) = rules.entry_due kind

abbrev pub ending_as : Option Stopped → KeepEnding
ending_as None = all_stored
ending_as (Some stopped.Cut) = cut_off
ending_as (Some (stopped.Refused r)) = refused_with (refusal_number r)

-- the work so far, and the region that it left
abbrev pub work_as : Work → List ℕ → Keeping
work_as w region = record { region = region; starts = w.starts.stored; left = w.left; ending = ending_as w.starts.stopped }

-- the work with another value for a number's start
abbrev pub restarted : ℕ → Bool → Work → Work
restarted n b w = record { starts = record { stored = set w.starts.stored n b; stopped = w.starts.stopped }; left = w.left }

-- the work with as many byte stores left, and what has stopped it
abbrev pub left_with : ℕ → Option Stopped → Work → Work
left_with left why w = record { starts = record { stored = w.starts.stored; stopped = why }; left = left }

-- the work after a store of an entry, whatever the region was and is
abbrev pub Follows : Work → ℕ → ℕ → Result Written Refusal → Work → Type 0
Follows w n kind answer r = (before after : List ℕ) → work_as r after ≡ after_store n kind (work_as w before) (stored_as answer, after)
