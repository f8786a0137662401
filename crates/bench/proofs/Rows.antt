-- Every row of the table holds: by computation from the definitions of the reader, the ration, the rules and the clock.
use mathlib.Core.Path.{refl}
use lib.Ieee.{add, sub, mul, div, lt, le, of_int}
use Rattle.laws.specs.Pick.{pick}
use Rattle.ration.specs.Ration.{from_header}
use Rattle.wire.specs.FirstByte.{kind_of}
use Rattle.wire.specs.Layout.{first_wrong}
use Rattle.wire.specs.Message.{read_message, parse_header, typed, allowed, effective_increment}
use Rattle.wire.specs.Connection.{read_connection_header, parse_connection_header}
use Rattle.protocol.specs.Plan.{settle}
use Rattle.protocol.specs.Connection.{well_formed, all_formed, session_formed}
use Rattle.protocol.specs.Receipt.{receipt}
use Rattle.protocol.specs.Judge.{judge}
use Rattle.protocol.specs.Call.{receive_rule}
use Rattle.protocol.specs.Result.{bytes_of_all, receive_call}
use Rattle.clock_numbers.specs.Arithmetic.{whole_number, 0·75, 0·25, 0·875, 0·125}
use Rattle.clock_sample.specs.Clock.{new_clock, first, later, updated, good_clock, sample_rule}
use Rattle.clock_limit.specs.Limit.{good_setting, measured, limit_rule}
use Rattle.bench.specs.Row.{connection_after, limits_after, RowHolds, All}
use Rattle.bench.specs.Table.{case_table}

-- one row, and the rows behind it
infixr 5 ◌and◌
pub ◌and◌ : {A B : Type 0} → A → B → A × B
a and b = (a, b)

pub every_row : All RowHolds case_table
unfolding pick from_header kind_of first_wrong read_message parse_header typed allowed effective_increment read_connection_header parse_connection_header settle
    well_formed all_formed session_formed receipt judge receive_rule bytes_of_all receive_call
    limits_after new_clock first later updated good_clock sample_rule good_setting measured limit_rule whole_number 0·75 0·25 0·875 0·125 of_int add sub mul div lt le
    connection_after RowHolds All
every_row =
    -- 1
    refl and refl and refl
    -- 2
    and refl
    -- 3
    and refl and refl and refl and (λ from. refl) and (λ from. refl)
    -- 4
    and record { formed = refl; up = refl; running = refl; ration = refl; comes = refl }
    and record { formed = refl; up = refl; running = refl; ration = refl; comes = refl }
    and record { formed = refl; up = refl; running = refl; ration = refl; comes = refl }
    -- 5
    and record { formed = refl; up = refl; running = refl; ration = refl; comes = refl }
    and record { formed = refl; up = refl; running = refl; ration = refl; comes = refl }
    -- 7
    and refl and tt
