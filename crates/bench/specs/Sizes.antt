-- The sizes that calls need: a room one byte short and a queue one byte short or long are refused with 8, the exact size is not; a slot
-- takes 512 bytes and no more. The states are made by calls.
use Rattle.std.specs.Prelude.{◌≡◌, true, false, List, [], ◌∷◌, ℕ, take, replicate}
use Rattle.laws.specs.Result.{Result, ok, refused}
use Rattle.wire.specs.declared.Role.TheVariants.{Client, Server}
use Rattle.wire.specs.declared.Message.TheVariants.{NoOperation}
use Rattle.state.specs.declared.Connection.{Connection}
use Rattle.state.specs.New.{fresh}
use Rattle.protocol.specs.Judge.{Report, done, served, header_received}
use Rattle.protocol.specs.Judge as report
use Rattle.protocol.specs.Result.{Given, start_call, open_call, put_call, finish_call, turn_call, grant_call, abort_call, close_call, ping_call, shutdown_call, receive_call}

-- what a call answers and the bytes that it writes to its room, beside what these must be
pub record SizeRow : Type 0 where
  pub gives : Result Report × List ℕ
  pub must : Result Report × List ℕ

abbrev pub gives_and_must : Result Report × List ℕ → Result Report → List ℕ → SizeRow
gives_and_must g answer bytes = record { gives = g; must = (answer, bytes) }

-- every row gives what it must
unfoldable pub AllSizes : List SizeRow → Type 0
AllSizes [] = Unit {0}
AllSizes (r ∷ rs) = (r.gives ≡ r.must) × AllSizes rs

-- ---- lent buffers, and what a call answers and writes

abbrev pub of_zeros : ℕ → List ℕ
of_zeros n = replicate n 0

abbrev pub in_room_of : Given × List ℕ → Result Report × List ℕ
in_room_of (g, room) = (g.answer, take g.wrote room)

-- a put is lent no room
abbrev pub of_queue : Given × List ℕ → Result Report × List ℕ
of_queue (g, queue) = (g.answer, [])

abbrev pub of_turn : Given × List ℕ × List ℕ → Result Report × List ℕ
of_turn (g, queue, room) = (g.answer, take g.wrote room)

-- ---- a client: our header number 8, the far one 4, which grants 1,024; it opens number 5

abbrev pub header_of : ℕ → List ℕ
header_of n = 0x4A ∷ 0x6D ∷ 0x75 ∷ 0x78 ∷ 0x01 ∷ 0x00 ∷ n ∷ 0x00 ∷ []

abbrev pub new_client : Connection
new_client = fresh (record { role = Client; header = 8 })

abbrev pub started_client : Connection
started_client = (start_call new_client (of_zeros 8)).0.connection

abbrev pub opening_client : Connection
opening_client = (open_call (receive_call started_client (header_of 4) (of_zeros 12)).0.connection 5).connection

-- 512 bytes, each 7, wait for number 5 and are in its slot
abbrev pub sevens : ℕ → List ℕ
sevens n = replicate n 7

abbrev pub full_client : Connection
full_client = (put_call opening_client 5 (sevens 512) (of_zeros 65_536)).0.connection

abbrev pub full_queue : List ℕ
full_queue = (put_call opening_client 5 (sevens 512) (of_zeros 65_536)).1

-- ---- a server: our header number 8, the far one 4; its client has opened number 5

abbrev pub new_server : Connection
new_server = fresh (record { role = Server; header = 8 })

abbrev pub open_server : Connection
open_server =
    (receive_call (receive_call new_server (header_of 4) (of_zeros 12)).0.connection (0x90 ∷ 0x05 ∷ 0x00 ∷ 0x00 ∷ []) (of_zeros 12)).0.connection

-- our side of number 5 is finished
abbrev pub finished_server : Connection
finished_server = (turn_call (finish_call open_server 5).connection (of_zeros 65_536) (of_zeros 516)).0.connection

-- ---- the table

abbrev pub size_table : List SizeRow
size_table =
    -- start: 8
    gives_and_must (in_room_of (start_call new_client (of_zeros 7))) (refused 8) []
    ∷ gives_and_must (in_room_of (start_call new_client (of_zeros 8))) (ok done) (header_of 8)
    -- receive: 12, for a header and for a message
    ∷ gives_and_must (in_room_of (receive_call new_server (header_of 4) (of_zeros 11))) (refused 8) []
    ∷ gives_and_must (in_room_of (receive_call new_server (header_of 4) (of_zeros 12))) (ok (header_received 4)) (header_of 8)
    ∷ gives_and_must (in_room_of (receive_call open_server (0x00 ∷ 0x00 ∷ 0x00 ∷ 0x00 ∷ []) (of_zeros 11))) (refused 8) []
    ∷ gives_and_must (in_room_of (receive_call open_server (0x00 ∷ 0x00 ∷ 0x00 ∷ 0x00 ∷ []) (of_zeros 12))) (ok (report.message (NoOperation 0) false)) []
    -- grant, abort, close, ping, shutdown: 4; also for an opening, whose abort writes nothing
    ∷ gives_and_must (in_room_of (grant_call open_server 5 256 (of_zeros 3))) (refused 8) []
    ∷ gives_and_must (in_room_of (grant_call open_server 5 256 (of_zeros 4))) (ok done) (0x10 ∷ 0x05 ∷ 0x01 ∷ 0x00 ∷ [])
    ∷ gives_and_must (in_room_of (abort_call open_server 5 true (of_zeros 3))) (refused 8) []
    ∷ gives_and_must (in_room_of (abort_call open_server 5 true (of_zeros 4))) (ok done) (0x22 ∷ 0x05 ∷ 0x00 ∷ 0x00 ∷ [])
    ∷ gives_and_must (in_room_of (abort_call opening_client 5 false (of_zeros 3))) (refused 8) []
    ∷ gives_and_must (in_room_of (abort_call opening_client 5 false (of_zeros 4))) (ok done) []
    ∷ gives_and_must (in_room_of (close_call finished_server 5 (of_zeros 3))) (refused 8) []
    ∷ gives_and_must (in_room_of (close_call finished_server 5 (of_zeros 4))) (ok done) (0x30 ∷ 0x05 ∷ 0x00 ∷ 0x00 ∷ [])
    ∷ gives_and_must (in_room_of (ping_call open_server 0x1234 (of_zeros 3))) (refused 8) []
    ∷ gives_and_must (in_room_of (ping_call open_server 0x1234 (of_zeros 4))) (ok done) (0x04 ∷ 0x00 ∷ 0x12 ∷ 0x34 ∷ [])
    ∷ gives_and_must (in_room_of (shutdown_call open_server (of_zeros 3))) (refused 8) []
    ∷ gives_and_must (in_room_of (shutdown_call open_server (of_zeros 4))) (ok done) (0x02 ∷ 0x00 ∷ 0x00 ∷ 0x00 ∷ [])
    -- put: a queue of 65,536, and 512 bytes for a number
    ∷ gives_and_must (of_queue (put_call opening_client 5 (sevens 1) (of_zeros 65_535))) (refused 8) []
    ∷ gives_and_must (of_queue (put_call opening_client 5 (sevens 1) (of_zeros 65_537))) (refused 8) []
    ∷ gives_and_must (of_queue (put_call opening_client 5 (sevens 1) (of_zeros 65_536))) (ok done) []
    ∷ gives_and_must (of_queue (put_call opening_client 5 (sevens 513) (of_zeros 65_536))) (refused 6) []
    ∷ gives_and_must (of_queue (put_call opening_client 5 (sevens 512) (of_zeros 65_536))) (ok done) []
    ∷ gives_and_must (of_queue (put_call full_client 5 (sevens 1) full_queue)) (refused 6) []
    ∷ gives_and_must (of_queue (put_call full_client 5 [] full_queue)) (ok done) []
    -- turn: a room of 516 and a queue of 65,536, for an opening with a full slot, which is sent whole
    ∷ gives_and_must (of_turn (turn_call full_client full_queue (of_zeros 515))) (refused 8) []
    ∷ gives_and_must (of_turn (turn_call full_client (of_zeros 65_535) (of_zeros 516))) (refused 8) []
    ∷ gives_and_must (of_turn (turn_call full_client (of_zeros 65_537) (of_zeros 516))) (refused 8) []
    ∷ gives_and_must (of_turn (turn_call full_client full_queue (of_zeros 516))) (ok (served 5)) (0x90 ∷ 0x05 ∷ 0x02 ∷ 0x00 ∷ sevens 512)
    -- and a room of 516 even if nothing waits
    ∷ gives_and_must (of_turn (turn_call opening_client (of_zeros 65_536) (of_zeros 515))) (refused 8) []
    ∷ gives_and_must (of_turn (turn_call opening_client (of_zeros 65_536) (of_zeros 516))) (ok (served 5)) (0x90 ∷ 0x05 ∷ 0x00 ∷ 0x00 ∷ [])
    ∷ []
