-- A message in words, and what is at a place of a capture.
use Rattle.std.specs.Prelude.{ℕ, ◌+◌, Bool, true, false, List, [], ◌∷◌}
use Rattle.laws.specs.Result.{Result, ok, refused, violation}
use Rattle.wire.specs.declared.Role.{Role}
use Rattle.wire.specs.declared.Role.TheVariants.{Client, Server}
use Rattle.wire.specs.declared.Kind.{Kind}
use Rattle.wire.specs.declared.Kind.TheVariants as kind
use Rattle.wire.specs.declared.Message.{Message}
use Rattle.wire.specs.declared.Message.TheVariants.{NoOperation, Shutdown, Ping, PingAck, Error, IncrementRation, Abort, Close, Acknowledgment, Data}
use Rattle.wire.specs.Message.{weight, second_byte, number_of, kind_of_message}

-- the sender of a capture: the server for true, the client for false
abbrev pub sender_of : Bool → Role
sender_of true = Server
sender_of false = Client

-- ---- a message in words

-- the number of a type: its row in the published table of first bytes, counted from 1
abbrev pub kind_number : Kind → ℕ
kind_number kind.NoOperation = 1
kind_number kind.Shutdown = 2
kind_number kind.Ping = 3
kind_number kind.PingAck = 4
kind_number kind.Error = 5
kind_number kind.IncrementRation = 6
kind_number kind.Abort = 7
kind_number kind.Close = 8
kind_number kind.Acknowledgment = 9
kind_number kind.Data = 10

-- 1, 2, 4 and 8 for open, close, eof and ackRequired
abbrev pub data_flags_of : Bool → Bool → Bool → Bool → ℕ
data_flags_of opens close eof ack = weight 1 opens + weight 2 close + weight 4 eof + weight 8 ack

-- the flags of Data in one number, 1 for the partial of an Abort, the shift of an IncrementRation, and 0 for every other type
abbrev pub flags_of : Message → ℕ
flags_of (NoOperation n) = 0
flags_of (Shutdown n) = 0
flags_of (Ping n) = 0
flags_of (PingAck n) = 0
flags_of (Error n) = 0
flags_of (IncrementRation shift i n) = shift
flags_of (Abort partial i n) = weight 1 partial
flags_of (Close i) = 0
flags_of (Acknowledgment i) = 0
flags_of (Data opens close eof ack i n) = data_flags_of opens close eof ack

-- type, flags, session, and length, cookie or increment
abbrev pub message_words : Message → List ℕ
message_words m = kind_number (kind_of_message m) ∷ flags_of m ∷ second_byte m ∷ number_of m ∷ []

-- ---- a place of a capture

-- the number of a refusal or violation; 0 for a message
abbrev pub result_number : Result Message → ℕ
result_number (ok m) = 0
result_number (refused n) = n
result_number (violation f) = f.number

-- the place of the byte at fault, where there is one; else 0
abbrev pub fault_in : Result Message → ℕ
fault_in (ok m) = 0
fault_in (refused n) = 0
fault_in (violation f) = f.place

-- the words of a message; 0 where there is none
abbrev pub items_in : Result Message → List ℕ
items_in (ok m) = message_words m
items_in (refused n) = 0 ∷ 0 ∷ 0 ∷ 0 ∷ []
items_in (violation f) = 0 ∷ 0 ∷ 0 ∷ 0 ∷ []

-- what is at a place, with the place to read on from
abbrev pub step_words : Result Message × ℕ → List ℕ
step_words (r, next) = result_number r ∷ fault_in r ∷ next ∷ items_in r
