-- What the runs that are computed share: two ends just made, a queue, rooms, and under one name all that a run computes with.
use mathlib.Core.List.{List, [], ◌∷◌}
use Prim.Native.Nat.{ℕ}
use lib.ListN.{replicate}
use Rattle.laws.specs.Pick.{pick}
use Rattle.laws.specs.Result.{fault, ok, refused, violation}
use Rattle.laws.specs.Circle.{following, first_after, nearest}
use Rattle.laws.specs.Runs.{run, log_of, fold, Every, gather}
use Rattle.ration.specs.Ration.{from_header}
use Rattle.wire.specs.declared.Role.TheVariants as role
use Rattle.wire.specs.FirstByte.{kind_of}
use Rattle.wire.specs.Layout.{first_wrong}
use Rattle.wire.specs.Message.{read_message, parse_header, typed, allowed, effective_increment}
use Rattle.wire.specs.Connection.{read_connection_header, parse_connection_header}
use Rattle.state.specs.declared.Setup.{Setup}
use Rattle.protocol.specs.Slot.{queue_size, turn_room}
use Rattle.protocol.specs.Plan.{settle}
use Rattle.protocol.specs.Connection.{well_formed, all_formed, session_formed}
use Rattle.protocol.specs.Receipt.{receipt}
use Rattle.protocol.specs.Ask as ask
use Rattle.protocol.specs.Ask.{open_ask, put_ask, finish_ask, grant_ask, abort_ask, close_ask, turn_ask}
use Rattle.protocol.specs.Judge.{Report, judge}
use Rattle.protocol.specs.Call.{start_rule, open_rule, put_rule, finish_rule, turn_rule, grant_rule, abort_rule, close_rule, ping_rule, shutdown_rule, lost_rule, receive_rule}
use Rattle.protocol.specs.Result.{bytes_of_all, start_call, open_call, put_call, finish_call, turn_call, grant_call, abort_call, close_call, ping_call, shutdown_call, lost_call, receive_call}
use Rattle.history.specs.Log.{Call, start, turn, receive, Entry, next, out, log}
use Rattle.history.specs.Written.{written_up_to}
use Rattle.history.specs.Account.{account_after, observed}
use Rattle.history.specs.Sums.{sum_after, summed}
use Rattle.history.specs.Fates.{fated_after, fate_told}

-- whoever unfolds this unfolds the calls, their rules, the reader and what a log tells
unfoldable pub played : Setup → List ℕ → List Call → List Entry
unfolding run log_of fold Every gather pick following first_after nearest from_header kind_of first_wrong read_message parse_header typed allowed effective_increment
    read_connection_header parse_connection_header settle well_formed all_formed session_formed receipt ask.ready_session open_ask put_ask finish_ask grant_ask abort_ask close_ask turn_ask
    judge start_rule open_rule put_rule finish_rule turn_rule grant_rule abort_rule close_rule ping_rule shutdown_rule lost_rule receive_rule bytes_of_all
    start_call open_call put_call finish_call turn_call grant_call abort_call close_call ping_call shutdown_call lost_call receive_call next out account_after observed
    written_up_to sum_after summed fated_after fate_told
played setup queue calls = log setup queue calls

-- ---- two ends just made, with the header numbers 8 and 4

abbrev pub client : Setup
client = record { role = role.Client; header = 8 }

abbrev pub server : Setup
server = record { role = role.Server; header = 4 }

abbrev pub zeros : ℕ → List ℕ
zeros n = replicate n 0

-- a queue of the right size
abbrev pub queue : List ℕ
queue = zeros queue_size

-- ---- calls with room enough

abbrev pub starts : Call
starts = start (zeros 8)

abbrev pub receives : List ℕ → Call
receives input = receive input (zeros 12)

abbrev pub turns : Call
turns = turn (zeros turn_room)

-- ---- entries

abbrev pub taken : Call → Report → List ℕ → Entry
taken k r bytes = record { call = k; answer = ok r; used = 0; start = 0; end = 0; wrote = bytes }

-- a receive of a header
abbrev pub greets : List ℕ → Report → List ℕ → Entry
greets input r bytes = record { call = receives input; answer = ok r; used = 8; start = 0; end = 0; wrote = bytes }

-- a receive of a message, with the number of bytes used
abbrev pub took : ℕ → List ℕ → Report → List ℕ → Entry
took used input r bytes = record { call = receives input; answer = ok r; used = used; start = 4; end = used; wrote = bytes }

abbrev pub refuses : Call → ℕ → Entry
refuses k n = record { call = k; answer = refused n; used = 0; start = 0; end = 0; wrote = [] }

-- a violation by its number and place: nothing is used, and Error is written
abbrev pub breaks : List ℕ → ℕ → ℕ → Entry
breaks input n place = record { call = receives input; answer = violation (fault n place); used = 0; start = 0; end = 0; wrote = 0x08 ∷ 0x00 ∷ 0x00 ∷ 0x00 ∷ [] }
