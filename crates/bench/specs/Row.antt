-- A row is an input and its required result. It holds if the definition that the public call's contract cites gives exactly that result.
use Rattle.std.specs.Prelude.{◌≡◌, Bool, true, false, List, [], ◌∷◌, ℕ, take, drop, replicate, Float}
use Rattle.laws.specs.Result.{Result, ok, refused, violation}
use Rattle.ration.specs.declared.Ration.{Ration}
use Rattle.ration.specs.Ration.{from_header}
use Rattle.wire.specs.declared.Role.{Role}
use Rattle.wire.specs.declared.Message.{Message}
use Rattle.wire.specs.Message.{body_length, read_message}
use Rattle.wire.specs.Connection.{read_connection_header}
use Rattle.state.specs.declared.Connection.{Connection}
use Rattle.state.specs.declared.Setup.{Setup}
use Rattle.state.specs.New.{fresh}
use Rattle.protocol.specs.Connection.{at, exchanged, well_formed}
use Rattle.protocol.specs.Judge.{Report}
use Rattle.protocol.specs.Result.{Given, receive_call}
use Rattle.clock_sample.specs.declared.Clock.{Clock}
use Rattle.clock_sample.specs.Clock.{new_clock, sample_rule}
use Rattle.clock_limit.specs.declared.Setting.{Setting}
use Rattle.clock_limit.specs.Limit.{limit_rule}

-- the ration that a row looks at: of a session, for what it receives or for what it sends
pub data Watched : Type 0 where
  inbound outbound : (session : ℕ) → Watched

-- the result of a receive: the answer, how many bytes of the input are used, the bytes written, the ration after it, and whether the
-- connection is over
pub record Came : Type 0 where
  pub answer : Result Report
  pub used : ℕ
  pub wrote : List ℕ
  pub ration : Ration
  pub over : Bool

-- `Result` carries a refusal by its number, and a violation by its number and place
pub data CaseRow : Type 0 where
  -- a connection header, and the starting ration that it grants
  header_case : (bytes : List ℕ) → Result Ration → CaseRow
  -- a message from a sender, or from either, and the bytes that follow its four header bytes
  message_case : (from : Role) (bytes : List ℕ) → Result (Message × List ℕ) → CaseRow
  message_of_either : (bytes : List ℕ) → Result (Message × List ℕ) → CaseRow
  -- a message to an end that was just made and has received `earlier`, with the ration before it
  receive_case : (end : Setup) (earlier : List (List ℕ)) (watched : Watched) (before : Ration) (input : List ℕ) → Came → CaseRow
  -- samples to a new clock, and the limit after each
  limits : (setting : Setting) (samples : List ℕ) → List (Result Float) → CaseRow

-- ---- headers and messages

-- what a header that is read grants
abbrev pub granted : Result ℕ → Result Ration
granted (ok number) = ok (from_header number)
granted (refused n) = refused n
granted (violation f) = violation f

-- a message that is read, with the bytes of its body, which follow its header
abbrev pub followed : List ℕ → Result Message → Result (Message × List ℕ)
followed bytes (ok m) = ok (m, take (body_length m) (drop 4 bytes))
followed bytes (refused n) = refused n
followed bytes (violation f) = violation f

-- ---- receives

-- the smallest room that a receive takes
abbrev pub room : List ℕ
room = replicate 12 0

-- each receive gets the connection that the last one left
unfoldable pub connection_after : Connection → List (List ℕ) → Connection
connection_after c [] = c
connection_after c (input ∷ inputs) = connection_after (receive_call c input room).0.connection inputs

abbrev pub ration_at : Watched → Connection → Ration
ration_at (inbound n) c = (at c n).inbound
ration_at (outbound n) c = (at c n).outbound

-- the result of a receive, from what the call gives and the room after it
abbrev pub came : Watched → Given × List ℕ → Came
came w (g, lent) =
    record {
      answer = g.answer;
      used = g.used;
      wrote = take g.wrote lent;
      ration = ration_at w g.connection;
      over = g.connection.over;
    }

-- the connection is well formed and up, has this ration, and the input has this result
pub record Receives (c : Connection) (w : Watched) (before : Ration) (input : List ℕ) (must : Came) : Type 0 where
  pub formed : well_formed c ≡ true
  pub up : exchanged c.stage ≡ true
  pub running : c.over ≡ false
  pub ration : ration_at w c ≡ before
  pub comes : came w (receive_call c input room) ≡ must

-- ---- limits

-- the limits after each of the samples
unfoldable pub limits_after : Setting → Clock → List ℕ → List (Result Float)
limits_after setting clock [] = []
limits_after setting clock (R ∷ Rs) = let next = (sample_rule clock R).1 in limit_rule next setting ∷ limits_after setting next Rs

-- ---- what a row claims

unfoldable pub RowHolds : CaseRow → Type 0
RowHolds (header_case bytes must) = granted (read_connection_header bytes) ≡ must
RowHolds (message_case from bytes must) = followed bytes (read_message from bytes) ≡ must
RowHolds (message_of_either bytes must) = (from : Role) → followed bytes (read_message from bytes) ≡ must
RowHolds (receive_case end earlier w before input must) = Receives (connection_after (fresh end) earlier) w before input must
RowHolds (limits setting samples must) = limits_after setting new_clock samples ≡ must

-- a claim about each row of a list
unfoldable pub All : (CaseRow → Type 0) → List CaseRow → Type 0
All claim [] = Unit {0}
All claim (r ∷ rs) = claim r × All claim rs
