-- What the events of one session number add up to since its session began: the two ledgers of the rations, and the streams of bytes.
use Rattle.std.specs.Prelude.{ℕ, ◌+◌, ◌≤◌, ◌≡◌, true, false, List, [], ◌++◌}
use Rattle.ration.specs.declared.Ration.{Ration}
use Rattle.ration.specs.declared.Ration.TheVariants as ration
use Rattle.state.specs.declared.Side.TheVariants as side
use Rattle.protocol.specs.Message.{data_of, increment_of, abort_of, close_of, acknowledgment_of}
use Rattle.protocol.specs.Observed.{Event, opens, finishes, aborts, puts, received, wrote, Ends, unused, ends, Seen, observe, if_opens}

-- ---- ledgers: what was granted by increments, and what was spent by Data

pub record Ledger : Type 0 where
  pub granted : ℕ
  pub spent : ℕ

abbrev pub blank_ledger : Ledger
blank_ledger = record { granted = 0; spent = 0 }

abbrev pub grants : ℕ → Ledger → Ledger
grants n l = record { granted = l.granted + n; spent = l.spent }

abbrev pub spends : ℕ → Ledger → Ledger
spends n l = record { granted = l.granted; spent = l.spent + n }

-- for what we send: increments taken, Data written
abbrev pub sending_after : Ledger → Event → Ledger
sending_after l opens = blank_ledger
sending_after l finishes = l
sending_after l aborts = l
sending_after l (puts bytes) = l
sending_after l (received (data_of n true close eof ack)) = blank_ledger
sending_after l (received (data_of n false close eof ack)) = l
sending_after l (received (increment_of n)) = grants n l
sending_after l (received (abort_of partial)) = l
sending_after l (received close_of) = l
sending_after l (received acknowledgment_of) = l
sending_after l (wrote (data_of n begins close eof ack)) = spends n l
sending_after l (wrote (increment_of n)) = l
sending_after l (wrote (abort_of partial)) = l
sending_after l (wrote close_of) = l
sending_after l (wrote acknowledgment_of) = l

-- Data that crossed our end of the session is late and not counted
abbrev pub counted_in : Ends → ℕ → Ledger → Ledger
counted_in unused n l = l
counted_in (ends side.Open t) n l = spends n l
counted_in (ends side.Finished t) n l = spends n l
counted_in (ends side.Ended t) n l = l

-- for what we receive: increments written, Data taken and not late
abbrev pub receiving_after : Ends → Ledger → Event → Ledger
receiving_after st l opens = l
receiving_after st l finishes = l
receiving_after st l aborts = l
receiving_after st l (puts bytes) = l
receiving_after st l (received (data_of n true close eof ack)) = spends n blank_ledger
receiving_after st l (received (data_of n false close eof ack)) = counted_in st n l
receiving_after st l (received (increment_of n)) = l
receiving_after st l (received (abort_of partial)) = l
receiving_after st l (received close_of) = l
receiving_after st l (received acknowledgment_of) = l
receiving_after st l (wrote (data_of n true close eof ack)) = blank_ledger
receiving_after st l (wrote (data_of n false close eof ack)) = l
receiving_after st l (wrote (increment_of n)) = grants n l
receiving_after st l (wrote (abort_of partial)) = l
receiving_after st l (wrote close_of) = l
receiving_after st l (wrote acknowledgment_of) = l

-- a ration now, by its start and its ledger, with no subtraction; an endless one stays endless
abbrev pub Balanced : Ration → Ledger → Ration → Type 0
Balanced (ration.Finite start) l (ration.Finite now) = now + l.spent ≡ start + l.granted
Balanced (ration.Finite start) l ration.Endless = ⊥
Balanced ration.Endless l (ration.Finite now) = ⊥
Balanced ration.Endless l ration.Endless = Unit {0}

-- n more bytes are within the start and what was granted
abbrev pub Covers : Ration → Ledger → ℕ → Type 0
Covers (ration.Finite start) l n = l.spent + n ≤ start + l.granted
Covers ration.Endless l n = Unit {0}

-- ---- streams: the bytes put, and the payloads of the Data messages written

abbrev pub put_after : List ℕ → Event → List ℕ
put_after l opens = []
put_after l finishes = l
put_after l aborts = l
put_after l (puts bytes) = l ++ bytes
put_after l (received m) = if_opens m (λ n. []) l
put_after l (wrote m) = l

-- `payload` is what follows the header that is written
abbrev pub payload_after : List ℕ → List ℕ → Event → List ℕ
payload_after payload l opens = []
payload_after payload l finishes = l
payload_after payload l aborts = l
payload_after payload l (puts bytes) = l
payload_after payload l (received m) = if_opens m (λ n. []) l
payload_after payload l (wrote (data_of n begins close eof ack)) = l ++ payload
payload_after payload l (wrote (increment_of n)) = l
payload_after payload l (wrote (abort_of partial)) = l
payload_after payload l (wrote close_of) = l
payload_after payload l (wrote acknowledgment_of) = l

-- ---- all that the events add up to, beside what is observed

pub record Totals : Type 0 where
  pub seen : Seen
  pub sending : Ledger
  pub receiving : Ledger
  pub put : List ℕ
  pub payloads : List ℕ

abbrev pub add_up : Ration → Ration → List ℕ → Totals → Event → Totals
add_up own far payload t e =
    record {
      seen = observe own far t.seen e;
      sending = sending_after t.sending e;
      receiving = receiving_after t.seen.standing t.receiving e;
      put = put_after t.put e;
      payloads = payload_after payload t.payloads e;
    }
