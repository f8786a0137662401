-- Every row of the table of places holds: by computation from the definitions of the readers and the rules.
use mathlib.Core.Path.{refl}
use Rattle.laws.specs.Pick.{pick}
use Rattle.ration.specs.Ration.{from_header}
use Rattle.wire.specs.FirstByte.{kind_of}
use Rattle.wire.specs.Layout.{first_wrong}
use Rattle.wire.specs.Message.{read_message, parse_header, typed, allowed, effective_increment}
use Rattle.wire.specs.Connection.{read_connection_header, parse_connection_header}
use Rattle.protocol.specs.Plan.{settle}
use Rattle.protocol.specs.Connection.{well_formed, all_formed, session_formed}
use Rattle.protocol.specs.Receipt.{receipt}
use Rattle.protocol.specs.Judge.{judge}
use Rattle.protocol.specs.Call.{receive_rule}
use Rattle.protocol.specs.Result.{bytes_of_all, receive_call}
use Rattle.bench.specs.Row.{connection_after, RowHolds, All}
use Rattle.bench.specs.Places.{place_table}
use Rattle.bench.proofs.Rows.{◌and◌}

pub every_place_row : All RowHolds place_table
unfolding pick from_header kind_of first_wrong read_message parse_header typed allowed effective_increment read_connection_header parse_connection_header settle
    well_formed all_formed session_formed receipt judge receive_rule bytes_of_all receive_call connection_after RowHolds All
every_place_row =
    -- 22 at the first wrong byte of the connection header: the magic number, the version, the reserved byte
    refl and refl and refl and refl and refl and refl
    -- the first of several, and bytes 5 and 6 are never wrong
    and refl and refl and refl
    -- 21 at byte 1: all of it where the message is of the connection as a whole, else its top bit
    and (λ from. refl) and (λ from. refl) and (λ from. refl) and (λ from. refl) and refl and (λ from. refl) and (λ from. refl) and (λ from. refl) and refl and refl
    -- at byte 2 or 3 of a Close or an Acknowledgment, and at the first of several
    and refl and refl and refl and refl and refl and refl and refl and refl
    -- 20 at byte 0, also where its low bit alone is wrong, which the type's own layout calls reserved
    and (λ from. refl) and (λ from. refl) and (λ from. refl) and (λ from. refl)
    -- 23 and 24 at byte 0
    and refl and refl and refl
    -- 21 at its place though the body is cut short; and 10 where a header is not all there, however wrong its bytes are
    and (λ from. refl) and (λ from. refl) and refl
    -- a receive hands on what the readers say: 20, 21, 23 and 24
    and record { formed = refl; up = refl; running = refl; ration = refl; comes = refl }
    and record { formed = refl; up = refl; running = refl; ration = refl; comes = refl }
    and record { formed = refl; up = refl; running = refl; ration = refl; comes = refl }
    and record { formed = refl; up = refl; running = refl; ration = refl; comes = refl }
    and record { formed = refl; up = refl; running = refl; ration = refl; comes = refl }
    and record { formed = refl; up = refl; running = refl; ration = refl; comes = refl }
    -- 25 at byte 1: Data, an increment, an Abort and an Acknowledgment for an idle number, and one more open
    and record { formed = refl; up = refl; running = refl; ration = refl; comes = refl }
    and record { formed = refl; up = refl; running = refl; ration = refl; comes = refl }
    and record { formed = refl; up = refl; running = refl; ration = refl; comes = refl }
    and record { formed = refl; up = refl; running = refl; ration = refl; comes = refl }
    and record { formed = refl; up = refl; running = refl; ration = refl; comes = refl }
    -- 26 at byte 2: an open, and Data, whose length is above the ration
    and record { formed = refl; up = refl; running = refl; ration = refl; comes = refl }
    and record { formed = refl; up = refl; running = refl; ration = refl; comes = refl }
    -- 27 at byte 2, also where the shift in byte 0 makes the increment too large
    and record { formed = refl; up = refl; running = refl; ration = refl; comes = refl }
    -- 28 at byte 2: no ping is outstanding
    and record { formed = refl; up = refl; running = refl; ration = refl; comes = refl }
    and tt
