-- What is due for a session number after a call of the engine: the start of an opening that is to be sent, or a fate that is known.
use Rattle.std.specs.Prelude.{ℕ, ◌/◌, ◌%◌, Bool, false, ◌&&◌, List, [], ◌∷◌, eqb, get_or}
use Rattle.laws.specs.Pick.{pick}
use Rattle.laws.specs.Result.{Result, ok, refused, violation}
use Rattle.state.specs.declared.Sides.{Sides}
use Rattle.state.specs.declared.Sides.TheVariants as sides
use Rattle.state.specs.declared.Session.{Session}
use Rattle.protocol.specs.Judge.{Report, done, served, header_received, message}
use Rattle.protocol.specs.Fate.{Fate, no_fate, running, complete, may_be_retried, must_not_be_retried, fate_of}

-- ---- an opening: a turn that serves the number writes a Data message whose open flag, bit 4 of the first byte, is set

abbrev pub has_open : List ℕ → Bool
has_open written = eqb (get_or written 0 0 / 16 % 2) 1

abbrev pub tells_served : ℕ → Result Report → Bool
tells_served n (ok done) = false
tells_served n (ok (served i)) = eqb i n
tells_served n (ok (header_received far)) = false
tells_served n (ok (message m late)) = false
tells_served n (refused k) = false
tells_served n (violation f) = false

abbrev pub is_opening : ℕ → Result Report → List ℕ → Bool
is_opening n answer written = tells_served n answer && has_open written

-- ---- what is due

-- nothing; the session that the number names now has no start in the journal; or an entry of a kind is to be stored
pub data DueEntry : Type 0 where
  nothing_due : DueEntry
  new_session : DueEntry
  entry_due : ℕ → DueEntry

-- an open that is unsent makes the number's session a new one, whose start is not stored
abbrev pub due_running : Sides → DueEntry
due_running sides.Idle = nothing_due
due_running (sides.Opening b) = new_session
due_running (sides.Live o t) = nothing_due

-- the kind of a fate that is known
abbrev pub fate_kind : Fate → List ℕ
fate_kind no_fate = []
fate_kind running = []
fate_kind complete = 1 ∷ []
fate_kind may_be_retried = 2 ∷ []
fate_kind must_not_be_retried = 3 ∷ []

abbrev pub due_known : Bool → List ℕ → DueEntry
due_known stored [] = nothing_due
due_known stored (kind ∷ kinds) = pick stored (entry_due kind) nothing_due

-- a fate is due only where the session's start is stored
abbrev pub due_fate : Bool → Fate → Sides → DueEntry
due_fate stored no_fate s = new_session
due_fate stored running s = due_running s
due_fate stored complete s = due_known stored (fate_kind complete)
due_fate stored may_be_retried s = due_known stored (fate_kind may_be_retried)
due_fate stored must_not_be_retried s = due_known stored (fate_kind must_not_be_retried)

abbrev pub due_for : Bool → Bool → Session → DueEntry
due_for opening stored x = pick opening (entry_due 0) (due_fate stored (fate_of x.outcome) x.sides)
