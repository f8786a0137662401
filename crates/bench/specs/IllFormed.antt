-- States that each break one item of well formed, each beside a state that differs in one place and is well formed.
use Rattle.std.specs.Prelude.{◌≡◌, true, false, List, [], ◌∷◌, ℕ}
use Rattle.ration.specs.declared.Ration.{Ration}
use Rattle.ration.specs.declared.Ration.TheVariants.{Finite, Endless}
use Rattle.wire.specs.declared.Role.TheVariants.{Client, Server}
use Rattle.state.specs.declared.Side.TheVariants as side
use Rattle.state.specs.declared.Before.TheVariants as before
use Rattle.state.specs.declared.Sides.{Sides}
use Rattle.state.specs.declared.Sides.TheVariants as sides
use Rattle.state.specs.declared.Session.{Session}
use Rattle.state.specs.declared.Stage.{Stage}
use Rattle.state.specs.declared.Stage.TheVariants as stage
use Rattle.state.specs.declared.Connection.{Connection}
use Rattle.state.specs.New.{blank, fresh}
use Rattle.state.specs.With.{with_sides, with_rations, with_waiting, with_session, with_stage, with_last}
use Rattle.protocol.specs.Connection.{well_formed}

pub record FormRow : Type 0 where
  pub broken : Connection
  pub repaired : Connection

abbrev pub form_row : Connection → Connection → FormRow
form_row b r = record { broken = b; repaired = r }

-- each broken state is not well formed, each repaired one is
unfoldable pub AllForms : List FormRow → Type 0
AllForms [] = Unit {0}
AllForms (r ∷ rs) = ((well_formed r.broken ≡ false) × (well_formed r.repaired ≡ true)) × AllForms rs

-- ---- states: a fresh end at a stage, with one number set

abbrev pub end_at : Stage → Connection
end_at st = with_stage st (fresh (record { role = Client; header = 8 }))

abbrev pub client_up : Stage
client_up = stage.Up Client 4

abbrev pub server_up : Stage
server_up = stage.Up Server 4

abbrev pub number_set : Stage → ℕ → Session → Connection
number_set st n x = with_session n x (end_at st)

abbrev pub open_sides : Sides
open_sides = sides.Live side.Open side.Open

abbrev pub session_at : Sides → Session
session_at z = with_sides z blank

-- an open session with these rations, a session with these sides and n bytes waiting, and one with a finish asked for
abbrev pub open_with : Ration → Ration → Session
open_with out in' = with_rations out in' (session_at open_sides)

abbrev pub waiting_on : Sides → ℕ → Session
waiting_on z n = with_waiting n false (session_at z)

abbrev pub finish_asked : Sides → Session
finish_asked z = with_waiting 0 true (session_at z)

-- ---- the table

abbrev pub form_table : List FormRow
form_table =
    -- finite rations in range: outbound, then inbound
    form_row (number_set client_up 0 (open_with (Finite 2_147_483_648) Endless)) (number_set client_up 0 (open_with (Finite 2_147_483_647) Endless))
    ∷ form_row (number_set server_up 127 (open_with (Finite 2_147_483_648) (Finite 0))) (number_set server_up 127 (open_with Endless (Finite 0)))
    ∷ form_row (number_set client_up 5 (open_with Endless (Finite 2_147_483_648))) (number_set client_up 5 (open_with Endless (Finite 2_147_483_647)))
    ∷ form_row (number_set server_up 127 (open_with (Finite 0) (Finite 2_147_483_648))) (number_set server_up 127 (open_with (Finite 0) Endless))
    -- waiting at most 512: on an open side, and on an opening
    ∷ form_row (number_set server_up 5 (waiting_on open_sides 513)) (number_set server_up 5 (waiting_on open_sides 512))
    ∷ form_row (number_set client_up 127 (waiting_on (sides.Opening before.Ended) 513)) (number_set client_up 127 (waiting_on (sides.Opening before.Ended) 512))
    -- and 0 unless our side is opening or open: here it is finished, ended, idle
    ∷ form_row (number_set server_up 0 (waiting_on (sides.Live side.Finished side.Open) 1)) (number_set server_up 0 (waiting_on (sides.Live side.Finished side.Open) 0))
    ∷ form_row (number_set client_up 5 (waiting_on (sides.Live side.Ended side.Open) 1)) (number_set client_up 5 (waiting_on (sides.Live side.Ended side.Open) 0))
    ∷ form_row (number_set client_up 127 (waiting_on sides.Idle 1)) (number_set client_up 127 (waiting_on sides.Idle 0))
    -- finish asked for only there: not on a finished, an ended or an idle number
    ∷ form_row (number_set server_up 5 (finish_asked (sides.Live side.Finished side.Open))) (number_set server_up 5 (session_at (sides.Live side.Finished side.Open)))
    ∷ form_row (number_set client_up 5 (finish_asked (sides.Live side.Ended side.Open))) (number_set client_up 5 (session_at (sides.Live side.Ended side.Open)))
    ∷ form_row (number_set client_up 7 (finish_asked (sides.Live side.Ended side.Open))) (number_set client_up 7 (finish_asked open_sides))
    ∷ form_row (number_set client_up 0 (finish_asked sides.Idle)) (number_set client_up 0 (finish_asked (sides.Opening before.Idle)))
    -- no opening at a server
    ∷ form_row (number_set server_up 5 (session_at (sides.Opening before.Idle))) (number_set client_up 5 (session_at (sides.Opening before.Idle)))
    ∷ form_row (number_set server_up 127 (session_at (sides.Opening before.Finished))) (number_set client_up 127 (session_at (sides.Opening before.Finished)))
    -- all numbers idle before the headers: no live session
    ∷ form_row (number_set (stage.Fresh Server) 5 (session_at open_sides)) (number_set server_up 5 (session_at open_sides))
    ∷ form_row (number_set (stage.Fresh Client) 5 (session_at open_sides)) (number_set client_up 5 (session_at open_sides))
    ∷ form_row (number_set stage.Started 127 (session_at (sides.Live side.Ended side.Ended))) (number_set client_up 127 (session_at (sides.Live side.Ended side.Ended)))
    -- and no opening
    ∷ form_row (number_set (stage.Fresh Client) 0 (session_at (sides.Opening before.Idle))) (number_set client_up 0 (session_at (sides.Opening before.Idle)))
    ∷ form_row (number_set stage.Started 5 (session_at (sides.Opening before.Idle))) (number_set client_up 5 (session_at (sides.Opening before.Idle)))
    -- last served at most 127
    ∷ form_row (with_last 128 (end_at client_up)) (with_last 127 (end_at client_up))
    ∷ form_row (with_last 255 (end_at (stage.Fresh Server))) (with_last 0 (end_at (stage.Fresh Server)))
    ∷ []
