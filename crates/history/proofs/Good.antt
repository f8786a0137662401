-- What every state of a run keeps, and what a call that is taken does to it; the statement that each call's step proves.
use mathlib.Core.Path.{◌≡◌, sym}
use mathlib.Core.Logic.{◌⊎◌}
use mathlib.Core.Bool.{Bool, true, false}
use mathlib.Core.List.{List, [], ◌∷◌}
use Prim.Native.Nat.{ℕ, ◌≤◌, ◌<◌}
use native.Mathlib.Omega.{arith}
use lib.ListN.{length, drop, set}
use lib.Seq.{get_or-set_same, get_or-set_other}
use Rattle.laws.specs.Circle.{gap}
use Rattle.laws.specs.Result.{ok}
use Rattle.laws.specs.Runs.{fold, Every}
use Rattle.laws.proofs.Runs.{Move}
use Rattle.ration.specs.declared.Ration.{Ration}
use Rattle.ration.specs.Ration.{from_header}
use Rattle.state.specs.declared.Stage.{Stage}
use Rattle.state.specs.declared.Setup.{Setup}
use Rattle.state.specs.declared.Connection.{Connection}
use Rattle.state.specs.New.{blank}
use Rattle.protocol.specs.Queue.{slot}
use Rattle.protocol.specs.Receipt.{Taken}
use Rattle.protocol.specs.Connection.{Cause, at, role_of, exchanged, far_number, far_start}
use Rattle.protocol.specs.Judge.{Report, Ending, goes_on, ends, Effect, accept, setting_session, commit}
use Rattle.protocol.specs.Observed.{Event, observe, is_ready, any_lapse}
use Rattle.protocol.proofs.Views.{look, Formed}
use Rattle.protocol.proofs.Sound.{Sound}
use Rattle.protocol.specs.Asked.{is_unsent}
use Rattle.protocol.specs.Fate.{fate_of, fate_after, Ended, not_ended}
use Rattle.protocol.proofs.Fates.{ended_by}
use Rattle.protocol.proofs.Legal.{AllLegal}
use Rattle.history.specs.Log.{Call, start, open_session, put, finish, turn, grant, abort, close, shutdown, lost, receive, State, Proper}
use Rattle.history.specs.Log as log
use Rattle.history.proofs.Decisions.{queue_after, payload_of, out_by}
use Rattle.history.proofs.InOrder.{Reads}
use Rattle.history.specs.Account.{line_after, events, reported, reported_of}
use Rattle.history.specs.Fates.{end_told}
use Rattle.history.specs.Meant.{meant_for, meant_of_all, meant_by, may_go}
use Rattle.history.specs.Claims.{data_written, has}
pub use Rattle.history.specs.Held.{line_of, holds, account_of}

abbrev pub own_of : Setup → Ration
own_of setup = from_header setup.header

abbrev pub far_by : Stage → Ration
far_by s = from_header (far_number s)

-- what the connection was made from
abbrev pub setup_of : Connection → Setup
setup_of c = record { role = role_of c.stage; header = c.own }

abbrev pub ready_at : State → ℕ → Bool
ready_at s n = is_ready (holds s n).sends

-- ---- calls

abbrev pub is_turn : Call → Bool
is_turn (start room) = false
is_turn (open_session n) = false
is_turn (put n bytes) = false
is_turn (finish n) = false
is_turn (turn room) = true
is_turn (grant n amount room) = false
is_turn (abort n partial room) = false
is_turn (close n room) = false
is_turn (log.ping cookie room) = false
is_turn (shutdown room) = false
is_turn lost = false
is_turn (receive input room) = false

-- ---- what every state of a run keeps

pub record Ok (setup : Setup) (s : State) : Type 0 where
  pub size : length s.connection.sessions ≡ 128
  pub last : s.connection.last < 128
  pub role : role_of s.connection.stage ≡ setup.role
  pub own : s.connection.own ≡ setup.header
  pub proper : Proper setup
  pub far : far_number s.connection.stage < 65_536
  pub formed : (n : ℕ) → n < 128 → Formed setup.role (exchanged s.connection.stage) (at s.connection n)
  pub fits : (n : ℕ) → n < 128 → (at s.connection n).waiting ≤ length (slot n s.queue)

-- ---- a call that is taken

-- the connection after an effect, before it may end
abbrev pub base : Connection → Effect → Connection
base c e = record { sessions = set c.sessions e.number e.session; stage = e.stage; over = c.over; own = c.own; last = e.last; ping = e.ping }

abbrev pub ended_as : Ending → Ended
ended_as goes_on = not_ended
ended_as (ends cause) = ended_by cause

-- the Data message of the number, or none
abbrev pub one : Bool → ℕ → List ℕ
one true n = n ∷ []
one false n = []

pub record Good (setup : Setup) (s : State) (k : Call) (e : Effect) : Type 0 where
  pub inside : e.number < 128
  pub last : e.last < 128
  pub role : role_of e.stage ≡ setup.role
  pub far : far_number e.stage < 65_536
  -- the stage changes only before the headers are exchanged, when no number is used
  pub stages : (e.stage ≡ s.connection.stage) ⊎ (exchanged s.connection.stage ≡ false)
  pub formed : Formed setup.role (exchanged e.stage) e.session
  pub fits : e.session.waiting ≤ length (slot e.number (queue_after s.connection s.queue k (accept e)))
  pub seen : look (far_by e.stage) e.session (slot e.number (queue_after s.connection s.queue k (accept e)))
      ≡ fold (observe (own_of setup) (far_start s.connection)) (holds s e.number) (events setup.role e.number (out_by s k (accept e)))
  pub others : (m : ℕ) → (e.number ≡ m → ⊥) → events setup.role m (out_by s k (accept e)) ≡ []
  pub frame : (m : ℕ) → m < 128 → (e.number ≡ m → ⊥)
      → slot m (queue_after s.connection s.queue k (accept e)) ≡ slot m s.queue
  pub long : length (queue_after s.connection s.queue k (accept e)) ≡ length s.queue
  pub line : line_after (line_of s.connection) (out_by s k (accept e)) ≡ line_of (commit s.connection e)
  pub moves : Move (ready_at s) s.connection.last e.last (data_written setup (out_by s k (accept e)))
  pub by_turn : data_written setup (out_by s k (accept e)) ≡ one (is_turn k) e.number
  pub lasts : ready_at s e.number ≡ true → any_lapse (events setup.role e.number (out_by s k (accept e))) ≡ false
      → has e.number (data_written setup (out_by s k (accept e))) ≡ false
      → is_ready (look (far_by e.stage) e.session (slot e.number (queue_after s.connection s.queue k (accept e)))).sends ≡ true
  -- before the headers are exchanged, and by the report of a turn, no number is told anything
  pub unmoved : exchanged s.connection.stage ≡ false → events setup.role e.number (out_by s k (accept e)) ≡ []
  pub untold : is_turn k ≡ true → reported e.number k e.report ≡ []
  -- the outcome is what the report makes of it, and where the connection ends nothing else is told or changed
  pub fated : fate_of e.session.outcome
      ≡ fold (fate_after (is_unsent (holds s e.number).sends)) (fate_of (at s.connection e.number).outcome) (reported e.number k e.report)
  pub ends_so : end_told k (ok e.report) ≡ ended_as e.ending
  pub end_alone : (cause : Cause) → e.ending ≡ ends cause → (e.session ≡ at s.connection e.number) × (reported e.number k e.report ≡ [])
  pub live : s.connection.over ≡ false
  pub concerns : reported_of k e.report ≡ e.number
  pub means : e.outs ≡ meant_by setup (account_of s e.number) k (ok e.report)
  pub reads : Reads setup.role k (out_by s k (accept e)).wrote e.outs
  -- at most one connection header or one message
  pub single : length e.outs ≤ 1
  pub allowed : Every (may_go setup (account_of s e.number) (out_by s k (accept e))) e.outs
  pub legal : AllLegal setup.role (own_of setup) (far_start s.connection) (drop 4 (out_by s k (accept e)).wrote) (holds s e.number)
      (events setup.role e.number (out_by s k (accept e)))

-- its sessions: the one that the call concerns, and each other
module _ (s : State) (o : Ok (setup_of s.connection) s) (k : Call) (e : Effect) (g : Good (setup_of s.connection) s k e) where
  pub own_at : at (base s.connection e) e.number ≡ e.session
  own_at = get_or-set_same s.connection.sessions e.number e.session blank (let h = g.inside in let z = o.size in omega arith)

  pub other_at : (n : ℕ) → (e.number ≡ n → ⊥) → at (base s.connection e) n ≡ at s.connection n
  other_at n d = get_or-set_other s.connection.sessions e.number n e.session blank (λ z. d (sym z))

-- the mark stays, or moves to the nearest ready number, whose Data message is written
abbrev pub Mark : State → ℕ → ℕ → Bool → Type 0
Mark s n last false = last ≡ s.connection.last
Mark s n last true = (last ≡ n) × ((m : ℕ) → m < 128 → ready_at s m ≡ true → gap s.connection.last n ≤ gap s.connection.last m)

-- what a call that concerns one session has to show; `d` says whether it writes a Data message
pub record ForSession (setup : Setup) (s : State) (k : Call) (n last : ℕ) (rep : Report) (h : List Event) (d : Bool) (t : Taken) : Type 0 where
  pub mark : Mark s n last d
  pub turns : d ≡ is_turn k
  pub inside : n < 128
  pub last_inside : last < 128
  pub up : exchanged s.connection.stage ≡ true
  pub sound : Sound setup.role (own_of setup) (far_start s.connection) (at s.connection n) (slot n s.queue) h
      (payload_of s.queue k (accept (setting_session s.connection n last rep t)))
      (slot n (queue_after s.connection s.queue k (accept (setting_session s.connection n last rep t)))) d t
  pub told : reported n k rep ≡ h
  pub not_told : (m : ℕ) → (n ≡ m → ⊥) → reported m k rep ≡ []
  pub frame : (m : ℕ) → m < 128 → (n ≡ m → ⊥)
      → slot m (queue_after s.connection s.queue k (accept (setting_session s.connection n last rep t))) ≡ slot m s.queue
  pub long : length (queue_after s.connection s.queue k (accept (setting_session s.connection n last rep t))) ≡ length s.queue
  pub line : line_after (line_of s.connection) (out_by s k (accept (setting_session s.connection n last rep t))) ≡ line_of s.connection
  pub untold : is_turn k ≡ true → h ≡ []
  pub fated : fate_of t.session.outcome ≡ fold (fate_after (is_unsent (holds s n).sends)) (fate_of (at s.connection n).outcome) h
  pub goes_on : end_told k (ok rep) ≡ not_ended
  pub live : s.connection.over ≡ false
  pub concerns : reported_of k rep ≡ n
  pub sends : t.sent ≡ meant_for setup.role k rep (holds s n)
  pub quiet : meant_of_all setup k rep ≡ []
  -- what is told may happen, whatever is written then
  pub heard : (payload : List ℕ) → AllLegal setup.role (own_of setup) (far_start s.connection) payload (holds s n) h
