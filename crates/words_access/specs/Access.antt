-- What is read and set in words, whatever they are: a session, and the end of a connection.
use Rattle.std.specs.Prelude.{ℕ, ◌+◌, ◌*◌, ◌/◌, ◌%◌, List, ◌++◌, map, get_or, set, take, drop, eqb, ltb, Option, None}
use Rattle.laws.specs.Pick.{pick}
use Rattle.wire.specs.declared.Role.TheVariants as role
use Rattle.state.specs.declared.Session.{Session}
use Rattle.state.specs.declared.Stage.{Stage}
use Rattle.state.specs.declared.Stage.TheVariants as stage
use Rattle.state.specs.declared.Head.{Head}
use Rattle.state.specs.New.{blank}
use Rattle.state.specs.With.{with_sides, with_outcome}
use Rattle.protocol.specs.Connection.{Cause, ending}
use Rattle.words.specs.Session.{outcome_cases, phases_end, outcome_number, outcome_of, phase_of, sides_in, outbound_word, inbound_word, status_word, session_of, words_fit}
use Rattle.words.specs.State.{inbound_at, status_at, head_at, stage_at, over_at, own_at, last_at, ping_at, numbers16, stage_cases, ping_cases, stage_of, ping_in}

-- words that are out of their ranges have a blank session
unfoldable pub session_read : ℕ → ℕ → ℕ → Session
session_read outbound inbound status =
    pick (words_fit outbound inbound status (outcome_cases * phases_end)) (session_of outbound inbound status) blank

-- and so has a number above 127
unfoldable pub session_at_words : List ℕ → ℕ → Session
session_at_words w n = pick (ltb n 128) (session_read (get_or w n 0) (get_or w (inbound_at + n) 0) (get_or w (status_at + n) 0)) blank

-- a number above 127 changes nothing
unfoldable pub session_set : List ℕ → ℕ → Session → List ℕ
session_set w n x =
    pick (ltb n 128) (set (set (set w n (outbound_word x)) (inbound_at + n) (inbound_word x)) (status_at + n) (status_word x)) w

-- words of the head above their ranges are read as something in it
unfoldable pub stage_read : ℕ → Stage
stage_read n = pick (ltb n stage_cases) (stage_of n) (stage.Fresh role.Client)

unfoldable pub ping_read : ℕ → Option ℕ
ping_read n = pick (ltb n ping_cases) (ping_in n) None

unfoldable pub head_read : List ℕ → Head
head_read w =
    record {
      stage = stage_read (get_or w stage_at 0);
      over = eqb (get_or w over_at 0) 1;
      own = get_or w own_at 0 % numbers16;
      last = get_or w last_at 0 % 256;
      ping = ping_read (get_or w ping_at 0);
    }

-- the sides and the outcome of a status, and nothing else
abbrev pub status_session : ℕ → Session
status_session s = with_outcome (outcome_of (s % outcome_cases)) (with_sides (sides_in (phase_of (s / outcome_cases))) blank)

-- the same phase, with the outcome that the cause leaves
unfoldable pub ended_status : Cause → ℕ → ℕ
ended_status cause s = outcome_number (ending cause (status_session s)).outcome + outcome_cases * (s / outcome_cases)

abbrev pub ended_column : Cause → List ℕ → List ℕ
ended_column cause w = take status_at w ++ (map (ended_status cause) (take 128 (drop status_at w)) ++ drop head_at w)

unfoldable pub ended_words : Cause → List ℕ → List ℕ
ended_words cause w = set (ended_column cause w) over_at 1
