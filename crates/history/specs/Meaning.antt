-- What each of our calls means if it is taken: for its session number and for the connection, and what it asks to be written.
use Rattle.std.specs.Prelude.{ℕ, Bool, true, List, [], ◌∷◌, eqb}
use Rattle.laws.specs.Pick.{pick}
use Rattle.wire.specs.declared.Message.TheVariants as msg
use Rattle.protocol.specs.Message.{SessionMessage, increment_of, abort_of, close_of}
use Rattle.protocol.specs.Judge.{Output, header_out, sent}
use Rattle.protocol.specs.Observed.{Greeting, own_header, Pinging, pinged, Event, opens, finishes, aborts, puts, Seen}
use Rattle.protocol.specs.Asked.{is_unsent}
use Rattle.protocol.specs.Fate.{Ended, not_ended, by_own_shutdown, by_lost_line}
use Rattle.history.specs.Log.{Call, start, open_session, put, finish, turn, grant, abort, close, ping, shutdown, lost, receive}

-- ---- what is told of the connection: whether it is over, the headers so far, the ping that is not answered

pub record Line : Type 0 where
  pub over : Bool
  pub greeting : Greeting
  pub pinging : Pinging

abbrev pub line_over : Line → Line
line_over l = record { over = true; greeting = l.greeting; pinging = l.pinging }

abbrev pub with_greeting : Greeting → Line → Line
with_greeting g l = record { over = l.over; greeting = g; pinging = l.pinging }

abbrev pub with_pinging : Pinging → Line → Line
with_pinging p l = record { over = l.over; greeting = l.greeting; pinging = p }

-- ---- the calls

-- the number that a call names, or 0; what it tells of each number; what it asks its session to send; what it writes for the connection as
-- a whole, by our header number; what becomes of the connection, and how it ends
pub record Meaning : Type 0 where
  pub number : ℕ
  pub told : ℕ → List Event
  pub sends : Seen → List SessionMessage
  pub writes : ℕ → List Output
  pub line : Line → Line
  pub ended : Ended

-- an event of number `i` counts for `n` only if they are the same number
abbrev pub only : ℕ → ℕ → Event → List Event
only n i e = pick (eqb i n) (e ∷ []) []

abbrev pub of_number : ℕ → (ℕ → List Event) → (Seen → List SessionMessage) → Meaning
of_number n told sends = record { number = n; told = told; sends = sends; writes = λ own. []; line = λ l. l; ended = not_ended }

abbrev pub of_all : (ℕ → List Output) → (Line → Line) → Ended → Meaning
of_all writes line ended = record { number = 0; told = λ n. []; sends = λ v. []; writes = writes; line = line; ended = ended }

-- turn and receive mean what they report; the abort of an open that is unsent sends nothing
abbrev pub meaning : Call → Meaning
meaning (start room) = of_all (λ own. header_out own ∷ []) (with_greeting own_header) not_ended
meaning (open_session n) = of_number n (λ i. only i n opens) (λ v. [])
meaning (put n bytes) = of_number n (λ i. only i n (puts bytes)) (λ v. [])
meaning (finish n) = of_number n (λ i. only i n finishes) (λ v. [])
meaning (turn room) = of_all (λ own. []) (λ l. l) not_ended
meaning (grant n amount room) = of_number n (λ i. []) (λ v. increment_of amount ∷ [])
meaning (abort n partial room) = of_number n (λ i. only i n aborts) (λ v. pick (is_unsent v.sends) [] (abort_of partial ∷ []))
meaning (close n room) = of_number n (λ i. []) (λ v. close_of ∷ [])
meaning (ping cookie room) = of_all (λ own. sent (msg.Ping cookie) ∷ []) (with_pinging (pinged cookie)) not_ended
meaning (shutdown room) = of_all (λ own. sent (msg.Shutdown 0) ∷ []) line_over by_own_shutdown
meaning lost = of_all (λ own. []) line_over by_lost_line
meaning (receive input room) = of_all (λ own. []) (λ l. l) not_ended
