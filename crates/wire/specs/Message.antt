-- Which messages a sender may send, which message is in some bytes, and which bytes a message has.
use Rattle.std.specs.Prelude.{ℕ, ◌+◌, ◌*◌, ◌/◌, ◌%◌, ◌^◌, List, [], ◌∷◌, ◌++◌, Bool, true, false, not, ◌&&◌, ◌||◌, length, get_or, take, drop, eqb, ltb, leb, Option, Some, None}
use Rattle.laws.specs.Pick.{pick}
use Rattle.laws.specs.Result.{fault, Result, ok, refused, violation}
use Rattle.wire.specs.declared.Role.{Role}
use Rattle.wire.specs.declared.Role.TheVariants.{Client, Server}
use Rattle.wire.specs.declared.Kind.{Kind}
use Rattle.wire.specs.declared.Kind.TheVariants as kind
use Rattle.wire.specs.declared.Message.{Message}
use Rattle.wire.specs.declared.Message.TheVariants.{NoOperation, Shutdown, Ping, PingAck, Error, IncrementRation, Abort, Close, Acknowledgment, Data}
use Rattle.wire.specs.FirstByte.{kind_of}
use Rattle.wire.specs.Layout.{layout, fixed, first_wrong, message}

abbrev pub is_client : Role → Bool
is_client Client = true
is_client Server = false

abbrev pub is_server : Role → Bool
is_server Client = false
is_server Server = true

-- Shutdown and Close must only be sent by the server, Acknowledgment only by the client
abbrev pub may_send : Role → Kind → Bool
may_send from kind.NoOperation = true
may_send from kind.Shutdown = is_server from
may_send from kind.Ping = true
may_send from kind.PingAck = true
may_send from kind.Error = true
may_send from kind.IncrementRation = true
may_send from kind.Abort = true
may_send from kind.Close = is_server from
may_send from kind.Acknowledgment = is_client from
may_send from kind.Data = true

-- the first is set only if the second holds
abbrev pub only_if : Bool → Bool → Bool
only_if set holds = not set || holds

-- open only from the client; close and ackRequired only from the server, and only with eof
abbrev pub data_flags : Role → Bool → Bool → Bool → Bool → Bool
data_flags from opens close eof ack =
    only_if opens (is_client from) && only_if (close || ack) (is_server from) && only_if (close || ack) eof

-- the flags that a sender may set; partial only from the server
abbrev pub flags_allowed : Role → Message → Bool
flags_allowed from (NoOperation n) = true
flags_allowed from (Shutdown n) = true
flags_allowed from (Ping n) = true
flags_allowed from (PingAck n) = true
flags_allowed from (Error n) = true
flags_allowed from (IncrementRation s i n) = true
flags_allowed from (Abort partial i n) = only_if partial (is_server from)
flags_allowed from (Close i) = true
flags_allowed from (Acknowledgment i) = true
flags_allowed from (Data opens close eof ack i n) = data_flags from opens close eof ack

-- 23 for a type that is not the sender's, then 24 for a flag that is not; both are in the first byte
unfoldable pub allowed : Role → Kind → Message → Result Message
allowed from k m = pick (may_send from k) (pick (flags_allowed from m) (ok m) (violation (fault 24 0))) (violation (fault 23 0))

-- 20 for a first byte of no type, then 21 for a bit that is not as the layout fixes it, at the first byte with such a bit
unfoldable pub typed : Role → List ℕ → Option Kind → Result Message
typed from header (Some k) =
    pick (fixed (layout k) header) (allowed from k (message k header)) (violation (fault 21 (first_wrong (layout k) header)))
typed from header None = violation (fault 20 0)

-- the message of exactly four header bytes
unfoldable pub parse_header : Role → List ℕ → Result Message
parse_header from header = typed from header (kind_of (get_or header 0 0))

-- how many bytes follow the header
abbrev pub body_length : Message → ℕ
body_length (NoOperation n) = n
body_length (Shutdown n) = n
body_length (Ping n) = 0
body_length (PingAck n) = 0
body_length (Error n) = n
body_length (IncrementRation s i n) = 0
body_length (Abort p i n) = n
body_length (Close i) = 0
body_length (Acknowledgment i) = 0
body_length (Data o c e a i n) = n

-- 10 for a message that is not complete
abbrev pub with_body : ℕ → Result Message → Result Message
with_body have (ok m) = pick (leb (4 + body_length m) have) (ok m) (refused 10)
with_body have (refused n) = refused n
with_body have (violation f) = violation f

-- what is at the front of the input: 10 for fewer than 4 bytes, then what the header says, then 10 again
unfoldable pub read_message : Role → List ℕ → Result Message
read_message from s = pick (ltb (length s) 4) (refused 10) (with_body (length s) (parse_header from (take 4 s)))

-- the increment shifted left by twice the shift, which is a 3-bit integer; of a larger shift, which no reader gives, only the low
-- three bits count, and that is the program's choice
unfoldable pub effective_increment : ℕ → ℕ → ℕ
effective_increment shift increment = increment * 2 ^ (2 * (shift % 8))

-- ---- writing

-- the bit of weight w, if the flag is set
abbrev pub weight : ℕ → Bool → ℕ
weight w true = w
weight w false = 0

-- the row of the type with its items; only the low three bits of a shift count, as in the effective increment
abbrev pub first_byte : Message → ℕ
first_byte (NoOperation n) = 0x00
first_byte (Shutdown n) = 0x02
first_byte (Ping n) = 0x04
first_byte (PingAck n) = 0x06
first_byte (Error n) = 0x08
first_byte (IncrementRation shift i n) = 0x10 + shift % 8 * 2
first_byte (Abort partial i n) = 0x20 + weight 2 partial
first_byte (Close i) = 0x30
first_byte (Acknowledgment i) = 0x40
first_byte (Data opens close eof ack i n) = 0x80 + weight 16 opens + weight 8 close + weight 4 eof + weight 2 ack

-- the session number, or 0
abbrev pub second_byte : Message → ℕ
second_byte (NoOperation n) = 0
second_byte (Shutdown n) = 0
second_byte (Ping n) = 0
second_byte (PingAck n) = 0
second_byte (Error n) = 0
second_byte (IncrementRation s i n) = i
second_byte (Abort p i n) = i
second_byte (Close i) = i
second_byte (Acknowledgment i) = i
second_byte (Data o c e a i n) = i

-- the number in bytes 2 and 3
abbrev pub number_of : Message → ℕ
number_of (NoOperation n) = n
number_of (Shutdown n) = n
number_of (Ping n) = n
number_of (PingAck n) = n
number_of (Error n) = n
number_of (IncrementRation s i n) = n
number_of (Abort p i n) = n
number_of (Close i) = 0
number_of (Acknowledgment i) = 0
number_of (Data o c e a i n) = n

abbrev pub header : Message → List ℕ
header m = first_byte m ∷ second_byte m ∷ number_of m / 256 ∷ number_of m % 256 ∷ []

abbrev pub kind_of_message : Message → Kind
kind_of_message (NoOperation n) = kind.NoOperation
kind_of_message (Shutdown n) = kind.Shutdown
kind_of_message (Ping n) = kind.Ping
kind_of_message (PingAck n) = kind.PingAck
kind_of_message (Error n) = kind.Error
kind_of_message (IncrementRation s i n) = kind.IncrementRation
kind_of_message (Abort p i n) = kind.Abort
kind_of_message (Close i) = kind.Close
kind_of_message (Acknowledgment i) = kind.Acknowledgment
kind_of_message (Data o c e a i n) = kind.Data

abbrev pub shift_of : Message → ℕ
shift_of (NoOperation n) = 0
shift_of (Shutdown n) = 0
shift_of (Ping n) = 0
shift_of (PingAck n) = 0
shift_of (Error n) = 0
shift_of (IncrementRation shift i n) = shift
shift_of (Abort p i n) = 0
shift_of (Close i) = 0
shift_of (Acknowledgment i) = 0
shift_of (Data o c e a i n) = 0

-- the reader gives the message back, with this many bytes after the header; its number has 16 bits by its type
unfoldable pub writable : Role → Message → ℕ → Bool
writable from m len =
    ltb (shift_of m) 8 && ltb (second_byte m) 128 && may_send from (kind_of_message m) && flags_allowed from m
    && eqb (body_length m) len

-- what a writer answers, with its room: 14 for a message that the reader would not give back, then 8 for too little room
unfoldable pub write_message : Role → Message → List ℕ → List ℕ → Result ℕ × List ℕ
write_message from m body room =
    pick (writable from m (length body))
    (pick (leb (4 + length body) (length room))
    (ok (4 + length body), header m ++ body ++ drop (4 + length body) room) (refused 8, room)) (refused 14, room)
