-- When bytes are read back as what was written.
use Rattle.std.specs.Prelude.{◌≡◌, List, ◌++◌, ℕ, ◌+◌, ◌≤◌, length, drop}
use Rattle.laws.specs.Bytes.{Bytes}
use Rattle.laws.specs.Result.{ok}
use Rattle.wire.specs.declared.Role.{Role}
use Rattle.wire.specs.declared.Message.{Message}
use Rattle.wire.specs.Message.{body_length, read_message, header}
use Rattle.wire.specs.Connection.{read_connection_header}

-- bytes that are read as the message, with the body behind its header
pub record GivenBack (from : Role) (m : Message) (body : List ℕ) : Type 0 where
  pub bytes : List ℕ
  pub each : Bytes bytes
  pub reads : read_message from bytes ≡ ok m
  pub whole : length bytes ≡ 4 + body_length m
  pub follows : drop 4 bytes ≡ body

-- bytes that are read as the number of a connection header
pub record NumberBack (n : ℕ) : Type 0 where
  pub bytes : List ℕ
  pub each : Bytes bytes
  pub reads : read_connection_header bytes ≡ ok n

-- the room after a writer wrote k bytes: the message is at the front, is read as itself, and the rest is as lent
pub record WroteMessage (from : Role) (m : Message) (body room : List ℕ) (k : ℕ) (out : List ℕ) : Type 0 where
  pub count : k ≡ 4 + length body
  pub fits : k ≤ length room
  pub bytes : out ≡ header m ++ body ++ drop k room
  pub reads : read_message from out ≡ ok m
