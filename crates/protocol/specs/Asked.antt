-- What the local side may ask of a session number, and the number of the refusal otherwise; told from calls, answers and
-- messages. No value of the engine's state appears.
use Rattle.std.specs.Prelude.{ℕ, ◌+◌, Bool, false, not, ◌&&◌, ◌||◌, length, eqb, leb}
use Rattle.laws.specs.Pick.{pick}
use Rattle.ration.specs.declared.Ration.{Ration}
use Rattle.ration.specs.declared.Ration.TheVariants as ration
use Rattle.wire.specs.declared.Role.{Role}
use Rattle.wire.specs.Message.{is_client, is_server, only_if}
use Rattle.protocol.specs.Slot.{slot_size}
use Rattle.protocol.specs.Observed.{Sending, silent, sending, Ends, unused, ends, Seen, established, unfinished, finished, may_open}

abbrev pub is_unsent : Sending → Bool
is_unsent silent = false
is_unsent (sending unsent waiting r finish) = unsent

-- open: a client (else 4), where the number may be used anew and no open of it is unsent (else 5)
abbrev pub may_ask_open : Role → Seen → Bool
may_ask_open r v = is_client r && (may_open r v.standing && not (is_unsent v.sends))

abbrev pub open_number : Role → ℕ
open_number r = pick (is_client r) 5 4

-- finish: a session that sends, with no finish asked for (else 5)
abbrev pub sends_on : Sending → Bool
sends_on silent = false
sends_on (sending unsent waiting r finish) = not finish

abbrev pub may_finish : Role → Seen → Bool
may_finish r v = sends_on v.sends

-- put: where finish may be asked for (else 5), and then no more bytes wait than a slot holds (else 6)
abbrev pub may_put : Sending → ℕ → Bool
may_put silent n = false
may_put (sending unsent waiting r finish) n = not finish && leb (length waiting + n) slot_size

abbrev pub put_number : Sending → ℕ
put_number v = pick (sends_on v) 6 5

-- grant: our end open or finished, theirs open (else 5)
abbrev pub may_grant_to : Ends → Bool
may_grant_to unused = false
may_grant_to (ends o t) = established o && unfinished t

-- an amount of 1 to 65,535 (else 12) that the ration has room for (else 7)
abbrev pub is_amount : ℕ → Bool
is_amount n = not (eqb n 0) && leb n 65_535

abbrev pub has_room : Ration → ℕ → Bool
has_room (ration.Finite left) n = leb (left + n) 2_147_483_647
has_room ration.Endless n = false

abbrev pub may_ask_grant : Seen → ℕ → Bool
may_ask_grant v n = may_grant_to v.standing && (is_amount n && has_room v.inbound n)

abbrev pub grant_number : Seen → ℕ → ℕ
grant_number v n = pick (may_grant_to v.standing) (pick (is_amount n) 7 12) 5

-- abort: an open that is unsent; our end open; or finished, with theirs not ended (else 5). Partial is for servers (else 4)
abbrev pub may_abort : Sending → Ends → Bool
may_abort v unused = is_unsent v
may_abort v (ends o t) = is_unsent v || unfinished o || finished o && established t

abbrev pub may_ask_abort : Role → Seen → Bool → Bool
may_ask_abort r v partial = only_if partial (is_server r) && may_abort v.sends v.standing

abbrev pub abort_number : Role → Bool → ℕ
abort_number r partial = pick (only_if partial (is_server r)) 5 4

-- close: a server (else 4) whose end is finished (else 5)
abbrev pub may_close_at : Ends → Bool
may_close_at unused = false
may_close_at (ends o t) = finished o

abbrev pub may_ask_close : Role → Seen → Bool
may_ask_close r v = is_server r && may_close_at v.standing

abbrev pub close_number : Role → ℕ
close_number r = pick (is_server r) 5 4
