-- Who may send which message with which flags, and the order of the reader's checks: bytes from a sender, and what is read.
use Rattle.std.specs.Prelude.{true, false, List, [], ◌∷◌}
use Rattle.laws.specs.Result.{fault, ok, refused, violation}
use Rattle.wire.specs.declared.Role.TheVariants.{Client, Server}
use Rattle.wire.specs.declared.Message.TheVariants.{NoOperation, Shutdown, Ping, PingAck, Error, IncrementRation, Abort, Close, Acknowledgment, Data}
use Rattle.bench.specs.Row.{CaseRow, message_case, message_of_either}

abbrev pub sender_table : List CaseRow
sender_table =
    -- the ten types: from either, but Shutdown and Close only from a server, Acknowledgment only from a client
    message_of_either (0x00 ∷ 0x00 ∷ 0x00 ∷ 0x02 ∷ 0xAA ∷ 0xBB ∷ []) (ok (NoOperation 2, 0xAA ∷ 0xBB ∷ []))
    ∷ message_case Server (0x02 ∷ 0x00 ∷ 0x00 ∷ 0x02 ∷ 0xAA ∷ 0xBB ∷ []) (ok (Shutdown 2, 0xAA ∷ 0xBB ∷ []))
    ∷ message_case Client (0x02 ∷ 0x00 ∷ 0x00 ∷ 0x02 ∷ 0xAA ∷ 0xBB ∷ []) (violation (fault 23 0))
    ∷ message_of_either (0x04 ∷ 0x00 ∷ 0x12 ∷ 0x34 ∷ []) (ok (Ping 0x1234, []))
    ∷ message_of_either (0x06 ∷ 0x00 ∷ 0x12 ∷ 0x34 ∷ []) (ok (PingAck 0x1234, []))
    ∷ message_of_either (0x08 ∷ 0x00 ∷ 0x00 ∷ 0x02 ∷ 0xAA ∷ 0xBB ∷ []) (ok (Error 2, 0xAA ∷ 0xBB ∷ []))
    ∷ message_of_either (0x16 ∷ 0x07 ∷ 0x01 ∷ 0x00 ∷ []) (ok (IncrementRation 3 7 256, []))
    ∷ message_of_either (0x20 ∷ 0x07 ∷ 0x00 ∷ 0x02 ∷ 0xAA ∷ 0xBB ∷ []) (ok (Abort false 7 2, 0xAA ∷ 0xBB ∷ []))
    ∷ message_case Server (0x30 ∷ 0x07 ∷ 0x00 ∷ 0x00 ∷ []) (ok (Close 7, []))
    ∷ message_case Client (0x30 ∷ 0x07 ∷ 0x00 ∷ 0x00 ∷ []) (violation (fault 23 0))
    ∷ message_case Client (0x40 ∷ 0x07 ∷ 0x00 ∷ 0x00 ∷ []) (ok (Acknowledgment 7, []))
    ∷ message_case Server (0x40 ∷ 0x07 ∷ 0x00 ∷ 0x00 ∷ []) (violation (fault 23 0))
    ∷ message_of_either (0x80 ∷ 0x07 ∷ 0x00 ∷ 0x02 ∷ 0xAA ∷ 0xBB ∷ []) (ok (Data false false false false 7 2, 0xAA ∷ 0xBB ∷ []))
    -- partial: only from a server
    ∷ message_case Server (0x22 ∷ 0x07 ∷ 0x00 ∷ 0x02 ∷ 0xAA ∷ 0xBB ∷ []) (ok (Abort true 7 2, 0xAA ∷ 0xBB ∷ []))
    ∷ message_case Client (0x22 ∷ 0x07 ∷ 0x00 ∷ 0x02 ∷ 0xAA ∷ 0xBB ∷ []) (violation (fault 24 0))
    -- the flags of Data from a client: open and eof, and no other
    ∷ message_case Client (0x80 ∷ 0x07 ∷ 0x00 ∷ 0x00 ∷ []) (ok (Data false false false false 7 0, []))
    ∷ message_case Client (0x82 ∷ 0x07 ∷ 0x00 ∷ 0x00 ∷ []) (violation (fault 24 0))
    ∷ message_case Client (0x84 ∷ 0x07 ∷ 0x00 ∷ 0x00 ∷ []) (ok (Data false false true false 7 0, []))
    ∷ message_case Client (0x86 ∷ 0x07 ∷ 0x00 ∷ 0x00 ∷ []) (violation (fault 24 0))
    ∷ message_case Client (0x88 ∷ 0x07 ∷ 0x00 ∷ 0x00 ∷ []) (violation (fault 24 0))
    ∷ message_case Client (0x8A ∷ 0x07 ∷ 0x00 ∷ 0x00 ∷ []) (violation (fault 24 0))
    ∷ message_case Client (0x8C ∷ 0x07 ∷ 0x00 ∷ 0x00 ∷ []) (violation (fault 24 0))
    ∷ message_case Client (0x8E ∷ 0x07 ∷ 0x00 ∷ 0x00 ∷ []) (violation (fault 24 0))
    ∷ message_case Client (0x90 ∷ 0x07 ∷ 0x00 ∷ 0x00 ∷ []) (ok (Data true false false false 7 0, []))
    ∷ message_case Client (0x92 ∷ 0x07 ∷ 0x00 ∷ 0x00 ∷ []) (violation (fault 24 0))
    ∷ message_case Client (0x94 ∷ 0x07 ∷ 0x00 ∷ 0x00 ∷ []) (ok (Data true false true false 7 0, []))
    ∷ message_case Client (0x96 ∷ 0x07 ∷ 0x00 ∷ 0x00 ∷ []) (violation (fault 24 0))
    ∷ message_case Client (0x98 ∷ 0x07 ∷ 0x00 ∷ 0x00 ∷ []) (violation (fault 24 0))
    ∷ message_case Client (0x9A ∷ 0x07 ∷ 0x00 ∷ 0x00 ∷ []) (violation (fault 24 0))
    ∷ message_case Client (0x9C ∷ 0x07 ∷ 0x00 ∷ 0x00 ∷ []) (violation (fault 24 0))
    ∷ message_case Client (0x9E ∷ 0x07 ∷ 0x00 ∷ 0x00 ∷ []) (violation (fault 24 0))
    -- the flags of Data from a server: eof; close and ackRequired with eof; never open
    ∷ message_case Server (0x80 ∷ 0x07 ∷ 0x00 ∷ 0x00 ∷ []) (ok (Data false false false false 7 0, []))
    ∷ message_case Server (0x82 ∷ 0x07 ∷ 0x00 ∷ 0x00 ∷ []) (violation (fault 24 0))
    ∷ message_case Server (0x84 ∷ 0x07 ∷ 0x00 ∷ 0x00 ∷ []) (ok (Data false false true false 7 0, []))
    ∷ message_case Server (0x86 ∷ 0x07 ∷ 0x00 ∷ 0x00 ∷ []) (ok (Data false false true true 7 0, []))
    ∷ message_case Server (0x88 ∷ 0x07 ∷ 0x00 ∷ 0x00 ∷ []) (violation (fault 24 0))
    ∷ message_case Server (0x8A ∷ 0x07 ∷ 0x00 ∷ 0x00 ∷ []) (violation (fault 24 0))
    ∷ message_case Server (0x8C ∷ 0x07 ∷ 0x00 ∷ 0x00 ∷ []) (ok (Data false true true false 7 0, []))
    ∷ message_case Server (0x8E ∷ 0x07 ∷ 0x00 ∷ 0x00 ∷ []) (ok (Data false true true true 7 0, []))
    ∷ message_case Server (0x90 ∷ 0x07 ∷ 0x00 ∷ 0x00 ∷ []) (violation (fault 24 0))
    ∷ message_case Server (0x92 ∷ 0x07 ∷ 0x00 ∷ 0x00 ∷ []) (violation (fault 24 0))
    ∷ message_case Server (0x94 ∷ 0x07 ∷ 0x00 ∷ 0x00 ∷ []) (violation (fault 24 0))
    ∷ message_case Server (0x96 ∷ 0x07 ∷ 0x00 ∷ 0x00 ∷ []) (violation (fault 24 0))
    ∷ message_case Server (0x98 ∷ 0x07 ∷ 0x00 ∷ 0x00 ∷ []) (violation (fault 24 0))
    ∷ message_case Server (0x9A ∷ 0x07 ∷ 0x00 ∷ 0x00 ∷ []) (violation (fault 24 0))
    ∷ message_case Server (0x9C ∷ 0x07 ∷ 0x00 ∷ 0x00 ∷ []) (violation (fault 24 0))
    ∷ message_case Server (0x9E ∷ 0x07 ∷ 0x00 ∷ 0x00 ∷ []) (violation (fault 24 0))
    -- 20 before 21: no type has the first byte, and the top bit of the second is set
    ∷ message_of_either (0x03 ∷ 0x80 ∷ 0x00 ∷ 0x00 ∷ []) (violation (fault 20 0))
    ∷ message_of_either (0x81 ∷ 0x80 ∷ 0x00 ∷ 0x00 ∷ []) (violation (fault 20 0))
    -- 21 before 23: a reserved bit is set, and the sender is the wrong one
    ∷ message_case Client (0x02 ∷ 0x01 ∷ 0x00 ∷ 0x00 ∷ []) (violation (fault 21 1))
    ∷ message_case Client (0x30 ∷ 0x87 ∷ 0x00 ∷ 0x00 ∷ []) (violation (fault 21 1))
    ∷ message_case Client (0x30 ∷ 0x07 ∷ 0x00 ∷ 0x01 ∷ []) (violation (fault 21 3))
    ∷ message_case Server (0x40 ∷ 0x07 ∷ 0x01 ∷ 0x00 ∷ []) (violation (fault 21 2))
    -- 21 before 24: a reserved bit is set, and the flags are wrong
    ∷ message_case Client (0x22 ∷ 0x87 ∷ 0x00 ∷ 0x00 ∷ []) (violation (fault 21 1))
    ∷ message_case Server (0x90 ∷ 0x87 ∷ 0x00 ∷ 0x00 ∷ []) (violation (fault 21 1))
    -- 23 before 10: the sender is the wrong one, and the body is cut short
    ∷ message_case Client (0x02 ∷ 0x00 ∷ 0x00 ∷ 0x02 ∷ 0xAA ∷ []) (violation (fault 23 0))
    -- 24 before 10: the flags are wrong, and the body is cut short
    ∷ message_case Client (0x22 ∷ 0x07 ∷ 0x00 ∷ 0x02 ∷ 0xAA ∷ []) (violation (fault 24 0))
    ∷ message_case Server (0x90 ∷ 0x07 ∷ 0x00 ∷ 0x02 ∷ 0xAA ∷ []) (violation (fault 24 0))
    ∷ message_case Server (0x88 ∷ 0x07 ∷ 0x00 ∷ 0x02 ∷ 0xAA ∷ []) (violation (fault 24 0))
    ∷ message_case Client (0x86 ∷ 0x07 ∷ 0x00 ∷ 0x02 ∷ 0xAA ∷ []) (violation (fault 24 0))
    -- then 10: the body is cut short; and before all others, fewer than 4 bytes
    ∷ message_of_either (0x80 ∷ 0x07 ∷ 0x00 ∷ 0x02 ∷ 0xAA ∷ []) (refused 10)
    ∷ message_case Server (0x22 ∷ 0x07 ∷ 0x00 ∷ 0x02 ∷ 0xAA ∷ []) (refused 10)
    ∷ message_case Client (0x90 ∷ 0x07 ∷ 0x00 ∷ 0x02 ∷ 0xAA ∷ []) (refused 10)
    ∷ message_of_either (0x01 ∷ 0x80 ∷ 0x00 ∷ []) (refused 10)
    ∷ message_of_either [] (refused 10)
    ∷ []
