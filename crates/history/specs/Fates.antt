-- What a log tells of the fate of each session number.
use Rattle.std.specs.Prelude.{ℕ, List}
use Rattle.laws.specs.Result.{Result, ok, refused, violation}
use Rattle.laws.specs.Runs.{fold}
use Rattle.state.specs.declared.Setup.{Setup}
use Rattle.protocol.specs.Message.{no_operation_of, shutdown_of, error_of, ping_of, ping_ack_of, Scope, whole, of_session, scope}
use Rattle.protocol.specs.Judge.{Report, done, served, header_received, message}
use Rattle.protocol.specs.Asked.{is_unsent}
use Rattle.protocol.specs.Fate.{Fate, no_fate, fate_after, Ended, not_ended, by_shutdown, by_error, by_lost_line, fate_ended}
use Rattle.history.specs.Log.{Call, Entry}
use Rattle.history.specs.Meaning.{meaning}
use Rattle.history.specs.Account.{Account, told_by, blank_account, account_after}

-- ---- how an entry ends the connection

abbrev pub ended_by_message : Scope → Ended
ended_by_message (whole no_operation_of) = not_ended
ended_by_message (whole shutdown_of) = by_shutdown
ended_by_message (whole error_of) = by_error
ended_by_message (whole (ping_of k)) = not_ended
ended_by_message (whole (ping_ack_of k)) = not_ended
ended_by_message (of_session i m) = not_ended

-- a violation found by us counts as a lost line
abbrev pub end_told : Call → Result Report → Ended
end_told k (ok done) = (meaning k).ended
end_told k (ok (served n)) = not_ended
end_told k (ok (header_received far)) = not_ended
end_told k (ok (message m late)) = ended_by_message (scope m)
end_told k (refused n) = not_ended
end_told k (violation f) = by_lost_line

-- ---- the fate of a number

abbrev pub fate_by_entry : ℕ → Account → Fate → Entry → Fate
fate_by_entry n a f e =
    fate_ended a.seen (end_told e.call e.answer)
    (fold (fate_after (is_unsent a.seen.sends)) f (told_by n e.call e.answer))

-- what is told of a number, and its fate
pub record Fated : Type 0 where
  pub account : Account
  pub fate : Fate

unfoldable pub fated_after : Setup → ℕ → Fated → Entry → Fated
fated_after s n d e = record { account = account_after s n d.account e; fate = fate_by_entry n d.account d.fate e }

-- there is no fate before its first open
unfoldable pub fate_told : Setup → ℕ → List Entry → Fate
fate_told s n es = (fold (fated_after s n) (record { account = blank_account s; fate = no_fate }) es).fate
