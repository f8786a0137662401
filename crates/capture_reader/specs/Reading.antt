-- What a reader gives when it is asked again and again.
use Rattle.std.specs.Prelude.{ℕ, zero, suc, []}
use Rattle.wire.specs.declared.Role.{Role}
use Rattle.capture_rules.specs.Reading.{MessagesRead, prepended}
use Rattle.capture_reader.specs.declared.Reader.{Reader}
use Rattle.capture_reader.specs.Capture.{advanced}

-- reading by a reader that is asked at most this many times
unfoldable pub read_by : ℕ → Role → Reader → MessagesRead
read_by zero from r = record { messages = []; end = r.place }
read_by (suc n) from r = prepended r.capture.now r.place (advanced from r).0 (read_by n from (advanced from r).1)
