-- What the answers of a store and a repair mean, in the terms of the journal's rules.
use Rattle.std.specs.Prelude.{Option, Some, None, Result}
use Rattle.laws.specs.Result.{Result as Answer}
use Rattle.refusal.specs.declared.Refusal.{Refusal}
use Rattle.refusal.specs.Failure.{or_refused}
use Rattle.journal_rules.specs.Calls.{Reached, written_whole, cut_after, none_bad}
use Rattle.journal_store.specs.declared.Written.{Written}
use Rattle.journal_store.specs.declared.Written.TheVariants.{Whole, Cut}

abbrev pub reached_as : Written → Reached
reached_as (Whole number) = written_whole number
reached_as (Cut stores) = cut_after stores

abbrev pub stored_as : Result Written Refusal → Answer Reached
stored_as a = or_refused reached_as a

-- what is written, or that no block is bad
abbrev pub written_or_none : Option Written → Reached
written_or_none (Some w) = reached_as w
written_or_none None = none_bad

abbrev pub repaired_as : Result (Option Written) Refusal → Answer Reached
repaired_as a = or_refused written_or_none a
