-- All that is claimed of the journal.
use Rattle.journal_rules.specs.Claims.{JournalClaims}
use Rattle.journal_rules.proofs.Blocks.{good_exactly}
use Rattle.journal_rules.proofs.Answers.{region_claims}
use Rattle.journal_rules.proofs.Histories.{power_safe, nothing_lost, stored_behind}
use Rattle.journal_rules.proofs.Listings.{listed_exactly, listed_in_order}
use Rattle.journal_rules.proofs.Rows.{layout}

pub journal_claims : JournalClaims
journal_claims =
    record {
      layout = layout;
      good_exactly = good_exactly;
      region = region_claims;
      power_safe = power_safe;
      nothing_lost = nothing_lost;
      stored_behind = stored_behind;
      listed_exactly = listed_exactly;
      listed_in_order = listed_in_order;
    }
