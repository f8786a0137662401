-- The ways in which the wait of a number lapses because of what happens to the number itself: its abort is taken, or an Abort, a Close or
-- Data with the close flag is received for it.
use Rattle.std.specs.Prelude.{ℕ, ◌≡◌, Bool, true, false, List}
use Rattle.protocol.specs.Message.{data_of, increment_of, abort_of, close_of, acknowledgment_of}
use Rattle.protocol.specs.Observed.{Event, opens, finishes, aborts, puts, received, wrote, lapses}

pub data Lapsing : Event → Type 0 where
  abort_taken : Lapsing aborts
  abort_comes : (partial : Bool) → Lapsing (received (abort_of partial))
  close_comes : Lapsing (received close_of)
  close_flag_comes : (n : ℕ) (begins eof ack : Bool) → Lapsing (received (data_of n begins true eof ack))

-- the events by which a wait does not lapse
pub record Lasting : Type 0 where
  pub by_open : lapses opens ≡ false
  pub by_finish : lapses finishes ≡ false
  pub by_put : (bytes : List ℕ) → lapses (puts bytes) ≡ false
  pub by_data : (n : ℕ) (begins eof ack : Bool) → lapses (received (data_of n begins false eof ack)) ≡ false
  pub by_increment : (n : ℕ) → lapses (received (increment_of n)) ≡ false
  pub by_acknowledgment : lapses (received acknowledgment_of) ≡ false
  pub by_data_written : (n : ℕ) (begins close eof ack : Bool) → lapses (wrote (data_of n begins close eof ack)) ≡ false
  pub by_increment_written : (n : ℕ) → lapses (wrote (increment_of n)) ≡ false
  pub by_abort_written : (partial : Bool) → lapses (wrote (abort_of partial)) ≡ false
  pub by_close_written : lapses (wrote close_of) ≡ false
  pub by_acknowledgment_written : lapses (wrote acknowledgment_of) ≡ false
