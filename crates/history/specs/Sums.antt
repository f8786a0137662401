-- What a log adds up to for each session number: the ledgers of its rations and the streams of its bytes.
use Rattle.std.specs.Prelude.{ℕ, List, [], drop}
use Rattle.laws.specs.Runs.{fold}
use Rattle.ration.specs.Ration.{from_header}
use Rattle.state.specs.declared.Setup.{Setup}
use Rattle.protocol.specs.Totals.{blank_ledger, Totals, add_up}
use Rattle.history.specs.Log.{Entry}
use Rattle.history.specs.Meaning.{Line}
use Rattle.history.specs.Account.{line_after, events, blank_account, far_of}

pub record Sum : Type 0 where
  pub line : Line
  pub totals : Totals

-- nothing has happened
abbrev pub blank_sum : Setup → Sum
blank_sum s =
    record {
      line = (blank_account s).line;
      totals = record { seen = (blank_account s).seen; sending = blank_ledger; receiving = blank_ledger; put = []; payloads = [] };
    }

-- what follows the four bytes of a message's header is its payload; a call that writes a Data message writes nothing else
unfoldable pub sum_after : Setup → ℕ → Sum → Entry → Sum
sum_after s n z e =
    record {
      line = line_after z.line e;
      totals = fold (add_up (from_header s.header) (far_of z.line) (drop 4 e.wrote)) z.totals (events s.role n e);
    }

unfoldable pub summed : Setup → ℕ → List Entry → Sum
summed s n es = fold (sum_after s n) (blank_sum s) es
