-- A session in three words: its two rations, and its status. The status is one number in mixed radix, so that a session is well formed exactly
-- if each of its words is below a limit.
use Rattle.std.specs.Prelude.{ℕ, ◌+◌, ◌*◌, ◌-◌, ◌/◌, ◌%◌, Bool, true, false, ◌&&◌, eqb, ltb}
use Rattle.laws.specs.Pick.{pick}
use Rattle.ration.specs.declared.Ration.{Ration}
use Rattle.ration.specs.declared.Ration.TheVariants as ration
use Rattle.wire.specs.declared.Role.{Role}
use Rattle.wire.specs.Message.{is_client}
use Rattle.state.specs.declared.Side.{Side}
use Rattle.state.specs.declared.Side.TheVariants as side
use Rattle.state.specs.declared.Before.{Before}
use Rattle.state.specs.declared.Before.TheVariants as before
use Rattle.state.specs.declared.Sides.{Sides}
use Rattle.state.specs.declared.Sides.TheVariants as sides
use Rattle.state.specs.declared.Outcome.{Outcome}
use Rattle.state.specs.declared.Outcome.TheVariants as outcome
use Rattle.state.specs.declared.Session.{Session}
use Rattle.protocol.specs.Slot.{slot_size}

-- ---- rations: a finite one is its number, and the number above the largest is endless

abbrev pub endless_number : ℕ
endless_number = 2_147_483_648

abbrev pub ration_number : Ration → ℕ
ration_number (ration.Finite n) = n
ration_number ration.Endless = endless_number

unfoldable pub ration_in : ℕ → Ration
ration_in n = pick (eqb n endless_number) ration.Endless (ration.Finite n)

-- ---- cases and their numbers

-- how many cases a side, the sides before an open, and an outcome have
abbrev pub side_cases : ℕ
side_cases = 3

abbrev pub before_cases : ℕ
before_cases = 3

abbrev pub outcome_cases : ℕ
outcome_cases = 5

abbrev pub side_number : Side → ℕ
side_number side.Open = 0
side_number side.Finished = 1
side_number side.Ended = 2

unfoldable pub side_of : ℕ → Side
side_of n = pick (eqb n 0) side.Open (pick (eqb n 1) side.Finished side.Ended)

abbrev pub before_number : Before → ℕ
before_number before.Idle = 0
before_number before.Finished = 1
before_number before.Ended = 2

unfoldable pub before_of : ℕ → Before
before_of n = pick (eqb n 0) before.Idle (pick (eqb n 1) before.Finished before.Ended)

abbrev pub outcome_number : Outcome → ℕ
outcome_number outcome.None = 0
outcome_number outcome.Running = 1
outcome_number outcome.Complete = 2
outcome_number outcome.MayRetry = 3
outcome_number outcome.MustNotRetry = 4

unfoldable pub outcome_of : ℕ → Outcome
outcome_of n =
    pick (eqb n 0) outcome.None
    (pick (eqb n 1) outcome.Running (pick (eqb n 2) outcome.Complete (pick (eqb n 3) outcome.MayRetry outcome.MustNotRetry)))

abbrev pub flag_number : Bool → ℕ
flag_number true = 1
flag_number false = 0

-- ---- the phase: the sides, with what is held for a side that sends

-- twice what waits, and one more if a finish is asked for
abbrev pub held_number : ℕ → Bool → ℕ
held_number waiting finish = 2 * waiting + flag_number finish

abbrev pub held_cases : ℕ
held_cases = 2 * (slot_size + 1)

-- idle is 0; behind it our side finished, ours ended, ours open, ours opening
abbrev pub ended_from : ℕ
ended_from = 1 + side_cases

abbrev pub open_from : ℕ
open_from = ended_from + side_cases

abbrev pub opening_from : ℕ
opening_from = open_from + side_cases * held_cases

abbrev pub phases_end : ℕ
phases_end = opening_from + before_cases * held_cases

abbrev pub phase_number : Sides → ℕ → ℕ
phase_number sides.Idle held = 0
phase_number (sides.Live side.Finished theirs) held = 1 + side_number theirs
phase_number (sides.Live side.Ended theirs) held = ended_from + side_number theirs
phase_number (sides.Live side.Open theirs) held = open_from + (side_cases * held + side_number theirs)
phase_number (sides.Opening b) held = opening_from + (before_cases * held + before_number b)

-- a phase with nothing held, or a side that sends and what is held for it
pub data Phase : Type 0 where
  none_held : ℕ → Phase
  open_held : ℕ → ℕ → Phase
  opening_held : ℕ → ℕ → Phase

unfoldable pub phase_of : ℕ → Phase
phase_of z =
    pick (ltb z open_from) (none_held z)
    (pick (ltb z opening_from) (open_held ((z - open_from) % side_cases) ((z - open_from) / side_cases))
    (opening_held ((z - opening_from) % before_cases) ((z - opening_from) / before_cases)))

unfoldable pub resting_sides : ℕ → Sides
resting_sides z =
    pick (eqb z 0) sides.Idle
    (pick (ltb z ended_from) (sides.Live side.Finished (side_of (z - 1))) (sides.Live side.Ended (side_of (z - ended_from))))

abbrev pub sides_in : Phase → Sides
sides_in (none_held z) = resting_sides z
sides_in (open_held theirs held) = sides.Live side.Open (side_of theirs)
sides_in (opening_held b held) = sides.Opening (before_of b)

abbrev pub held_in : Phase → ℕ
held_in (none_held z) = 0
held_in (open_held theirs held) = held
held_in (opening_held b held) = held

-- ---- the three words of a session, and the session of three words

abbrev pub outbound_word : Session → ℕ
outbound_word x = ration_number x.outbound

abbrev pub inbound_word : Session → ℕ
inbound_word x = ration_number x.inbound

-- the status: the outcome, and the phase above it
unfoldable pub status_word : Session → ℕ
status_word x = outcome_number x.outcome + outcome_cases * phase_number x.sides (held_number x.waiting x.finish)

abbrev pub session_parts : ℕ → ℕ → ℕ → Phase → Session
session_parts outbound inbound outcome phase =
    record {
      sides = sides_in phase;
      outbound = ration_in outbound;
      inbound = ration_in inbound;
      waiting = held_in phase / 2;
      finish = eqb (held_in phase % 2) 1;
      outcome = outcome_of outcome;
    }

-- any three words are those of some session, which need not be well formed
unfoldable pub session_of : ℕ → ℕ → ℕ → Session
session_of outbound inbound status = session_parts outbound inbound (status % outcome_cases) (phase_of (status / outcome_cases))

-- ---- rule 14 for a session, in words

-- idle alone before the headers are exchanged, and no opening at a server
abbrev pub phases_at : Role → Bool → ℕ
phases_at r up = pick up (pick (is_client r) phases_end opening_from) 1

unfoldable pub status_limit : Role → Bool → ℕ
status_limit r up = outcome_cases * phases_at r up

abbrev pub words_fit : ℕ → ℕ → ℕ → ℕ → Bool
words_fit outbound inbound status limit = ltb outbound (1 + endless_number) && ltb inbound (1 + endless_number) && ltb status limit

-- ---- ready for a turn, in words

-- the first status of a side that is open with a finish asked for, and the first with bytes waiting
abbrev pub finish_from : ℕ
finish_from = outcome_cases * (open_from + side_cases)

abbrev pub waiting_from : ℕ
waiting_from = outcome_cases * (open_from + side_cases * 2)

-- open with bytes and a ration, open with none and a finish, or opening
unfoldable pub ready_words : ℕ → ℕ → Bool
ready_words outbound status =
    pick (ltb status finish_from) false
    (pick (ltb status waiting_from) true (pick (ltb status (outcome_cases * opening_from)) (ltb 0 outbound) true))
