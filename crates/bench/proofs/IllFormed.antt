-- Every row of the table of ill-formed states holds: by computation from the test of a state.
use mathlib.Core.Path.{refl}
use Rattle.protocol.specs.Connection.{well_formed, all_formed, session_formed}
use Rattle.bench.specs.IllFormed.{AllForms, form_table}
use Rattle.bench.proofs.Rows.{◌and◌}

pub every_form_row : AllForms form_table
unfolding well_formed all_formed session_formed AllForms
every_form_row =
    -- finite rations in range
    (refl, refl) and (refl, refl) and (refl, refl) and (refl, refl)
    -- waiting at most 512
    and (refl, refl) and (refl, refl)
    -- and 0 unless our side is opening or open
    and (refl, refl) and (refl, refl) and (refl, refl)
    -- finish asked for only there
    and (refl, refl) and (refl, refl) and (refl, refl) and (refl, refl)
    -- no opening at a server
    and (refl, refl) and (refl, refl)
    -- all numbers idle before the headers
    and (refl, refl) and (refl, refl) and (refl, refl)
    -- and no opening
    and (refl, refl) and (refl, refl)
    -- last served at most 127
    and (refl, refl) and (refl, refl)
    and tt
