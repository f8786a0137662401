-- The ways in which an entry of a log ends the wait of a session number, other than the number's own Data message: its abort is taken;
-- an Abort, a Close or a close flag for it is taken; or the connection is over. Only a receive reports a message that is taken.
use Rattle.std.specs.Prelude.{ℕ, ◌≡◌, Bool, true, List}
use Rattle.laws.specs.Result.{Fault, ok, violation}
use Rattle.wire.specs.declared.Message.TheVariants as msg
use Rattle.protocol.specs.Judge.{done, message}
use Rattle.history.specs.Log.{abort, shutdown, lost, Entry}

pub data Lapsed (n : ℕ) (e : Entry) : Type 0 where
  own_abort_lapses : (partial : Bool) (room : List ℕ) → e.call ≡ abort n partial room → e.answer ≡ ok done → Lapsed n e
  abort_lapses : (partial late : Bool) (detail : ℕ) → e.answer ≡ ok (message (msg.Abort partial n detail) late) → Lapsed n e
  close_lapses : (late : Bool) → e.answer ≡ ok (message (msg.Close n) late) → Lapsed n e
  close_flag_lapses : (begins eof ack late : Bool) (size : ℕ) → e.answer ≡ ok (message (msg.Data begins true eof ack n size) late) → Lapsed n e
  lost_line_lapses : e.call ≡ lost → e.answer ≡ ok done → Lapsed n e
  own_shutdown_lapses : (room : List ℕ) → e.call ≡ shutdown room → e.answer ≡ ok done → Lapsed n e
  shutdown_lapses : (late : Bool) (detail : ℕ) → e.answer ≡ ok (message (msg.Shutdown detail) late) → Lapsed n e
  error_lapses : (late : Bool) (detail : ℕ) → e.answer ≡ ok (message (msg.Error detail) late) → Lapsed n e
  violation_lapses : (f : Fault) → e.answer ≡ violation f → Lapsed n e
