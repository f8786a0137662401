-- Every row of the table of sizes holds: by computation from the definitions of the calls.
use mathlib.Core.Path.{refl}
use Rattle.laws.specs.Pick.{pick}
use Rattle.laws.specs.Circle.{following, first_after, nearest}
use Rattle.ration.specs.Ration.{from_header}
use Rattle.wire.specs.FirstByte.{kind_of}
use Rattle.wire.specs.Message.{read_message, parse_header, typed, allowed}
use Rattle.wire.specs.Connection.{read_connection_header, parse_connection_header}
use Rattle.protocol.specs.Plan.{settle}
use Rattle.protocol.specs.Connection.{well_formed, all_formed, session_formed}
use Rattle.protocol.specs.Receipt.{receipt}
use Rattle.protocol.specs.Ask.{ready_session, open_ask, put_ask, finish_ask, grant_ask, abort_ask, close_ask, turn_ask}
use Rattle.protocol.specs.Judge.{judge}
use Rattle.protocol.specs.Call.{start_rule, open_rule, put_rule, finish_rule, turn_rule, grant_rule, abort_rule, close_rule, ping_rule, shutdown_rule, receive_rule}
use Rattle.protocol.specs.Result.{bytes_of_all, start_call, open_call, put_call, finish_call, turn_call, grant_call, abort_call, close_call, ping_call, shutdown_call, receive_call}
use Rattle.bench.specs.Sizes.{AllSizes, size_table}
use Rattle.bench.proofs.Rows.{◌and◌}

pub every_size_row : AllSizes size_table
unfolding pick following first_after nearest from_header kind_of read_message parse_header typed allowed read_connection_header parse_connection_header settle well_formed all_formed
    session_formed receipt ready_session open_ask put_ask finish_ask grant_ask abort_ask close_ask turn_ask judge start_rule open_rule put_rule finish_rule turn_rule grant_rule abort_rule
    close_rule ping_rule shutdown_rule receive_rule bytes_of_all start_call open_call put_call finish_call turn_call grant_call abort_call close_call ping_call shutdown_call receive_call AllSizes
every_size_row =
    -- start
    refl and refl
    -- receive
    and refl and refl and refl and refl
    -- grant, abort, close, ping, shutdown
    and refl and refl and refl and refl and refl and refl and refl and refl and refl and refl and refl and refl
    -- put
    and refl and refl and refl and refl and refl and refl and refl
    -- turn
    and refl and refl and refl and refl
    -- and a room of 516 even if nothing waits
    and refl and refl
    and tt
