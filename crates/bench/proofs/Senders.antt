-- Every row of the senders' table holds: by computation from the definition of the reader.
use mathlib.Core.Path.{refl}
use Rattle.laws.specs.Pick.{pick}
use Rattle.wire.specs.FirstByte.{kind_of}
use Rattle.wire.specs.Layout.{first_wrong}
use Rattle.wire.specs.Message.{read_message, parse_header, typed, allowed}
use Rattle.bench.specs.Row.{RowHolds, All}
use Rattle.bench.specs.Senders.{sender_table}
use Rattle.bench.proofs.Rows.{◌and◌}

pub every_sender_row : All RowHolds sender_table
unfolding pick kind_of first_wrong read_message parse_header typed allowed RowHolds All
every_sender_row =
    -- the ten types
    (λ from. refl) and refl and refl and (λ from. refl) and (λ from. refl) and (λ from. refl) and (λ from. refl) and (λ from. refl) and refl and refl and refl and refl and (λ from. refl)
    -- partial
    and refl and refl
    -- the flags of Data from a client
    and refl and refl and refl and refl and refl and refl and refl and refl and refl and refl and refl and refl and refl and refl and refl and refl
    -- the flags of Data from a server
    and refl and refl and refl and refl and refl and refl and refl and refl and refl and refl and refl and refl and refl and refl and refl and refl
    -- 20 before 21
    and (λ from. refl) and (λ from. refl)
    -- 21 before 23
    and refl and refl and refl and refl
    -- 21 before 24
    and refl and refl
    -- 23 before 10
    and refl
    -- 24 before 10
    and refl and refl and refl and refl
    -- then 10
    and (λ from. refl) and refl and refl and (λ from. refl) and (λ from. refl)
    and tt
