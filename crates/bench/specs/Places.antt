-- The place of each violation: bytes with a fault, the number, and the place of the byte at fault.
use Rattle.std.specs.Prelude.{List, [], ◌∷◌, replicate}
use Rattle.laws.specs.Result.{fault, refused, violation}
use Rattle.ration.specs.declared.Ration.TheVariants.{Finite}
use Rattle.wire.specs.declared.Role.TheVariants.{Client, Server}
use Rattle.bench.specs.Row.{inbound, outbound, CaseRow, header_case, message_case, message_of_either, receive_case}
use Rattle.bench.specs.Table.{server, header_and_open, spent, raised, data_for_5, breaks}

abbrev pub place_table : List CaseRow
place_table =
    -- 22 at the first wrong byte of the connection header: the magic number, the version, the reserved byte
    header_case (0x4B ∷ 0x6D ∷ 0x75 ∷ 0x78 ∷ 0x01 ∷ 0x00 ∷ 0x04 ∷ 0x00 ∷ []) (violation (fault 22 0))
    ∷ header_case (0x4A ∷ 0x6C ∷ 0x75 ∷ 0x78 ∷ 0x01 ∷ 0x00 ∷ 0x04 ∷ 0x00 ∷ []) (violation (fault 22 1))
    ∷ header_case (0x4A ∷ 0x6D ∷ 0x65 ∷ 0x78 ∷ 0x01 ∷ 0x00 ∷ 0x04 ∷ 0x00 ∷ []) (violation (fault 22 2))
    ∷ header_case (0x4A ∷ 0x6D ∷ 0x75 ∷ 0x70 ∷ 0x01 ∷ 0x00 ∷ 0x04 ∷ 0x00 ∷ []) (violation (fault 22 3))
    ∷ header_case (0x4A ∷ 0x6D ∷ 0x75 ∷ 0x78 ∷ 0x00 ∷ 0x00 ∷ 0x04 ∷ 0x00 ∷ []) (violation (fault 22 4))
    ∷ header_case (0x4A ∷ 0x6D ∷ 0x75 ∷ 0x78 ∷ 0x01 ∷ 0x00 ∷ 0x04 ∷ 0x80 ∷ []) (violation (fault 22 7))
    -- the first of several, and bytes 5 and 6 are never wrong
    ∷ header_case (0x4A ∷ 0x6D ∷ 0x75 ∷ 0x79 ∷ 0x02 ∷ 0xFF ∷ 0xFF ∷ 0x01 ∷ []) (violation (fault 22 3))
    ∷ header_case (0x00 ∷ 0x00 ∷ 0x00 ∷ 0x00 ∷ 0x00 ∷ 0x00 ∷ 0x00 ∷ 0x00 ∷ []) (violation (fault 22 0))
    ∷ header_case (0x4A ∷ 0x6D ∷ 0x75 ∷ 0x78 ∷ 0x01 ∷ 0xFF ∷ 0xFF ∷ 0x01 ∷ []) (violation (fault 22 7))
    -- 21 at byte 1: all of it where the message is of the connection as a whole, else its top bit
    ∷ message_of_either (0x00 ∷ 0x01 ∷ 0x00 ∷ 0x00 ∷ []) (violation (fault 21 1))
    ∷ message_of_either (0x04 ∷ 0x01 ∷ 0x00 ∷ 0x00 ∷ []) (violation (fault 21 1))
    ∷ message_of_either (0x06 ∷ 0x01 ∷ 0x00 ∷ 0x00 ∷ []) (violation (fault 21 1))
    ∷ message_of_either (0x08 ∷ 0x01 ∷ 0x00 ∷ 0x00 ∷ []) (violation (fault 21 1))
    ∷ message_case Server (0x02 ∷ 0x80 ∷ 0x00 ∷ 0x00 ∷ []) (violation (fault 21 1))
    ∷ message_of_either (0x1E ∷ 0x80 ∷ 0x00 ∷ 0x00 ∷ []) (violation (fault 21 1))
    ∷ message_of_either (0x20 ∷ 0x80 ∷ 0x00 ∷ 0x00 ∷ []) (violation (fault 21 1))
    ∷ message_of_either (0x80 ∷ 0x80 ∷ 0x00 ∷ 0x00 ∷ []) (violation (fault 21 1))
    ∷ message_case Server (0x30 ∷ 0xFF ∷ 0x00 ∷ 0x00 ∷ []) (violation (fault 21 1))
    ∷ message_case Client (0x40 ∷ 0xFF ∷ 0x00 ∷ 0x00 ∷ []) (violation (fault 21 1))
    -- at byte 2 or 3 of a Close or an Acknowledgment, and at the first of several
    ∷ message_case Server (0x30 ∷ 0x7F ∷ 0x80 ∷ 0x00 ∷ []) (violation (fault 21 2))
    ∷ message_case Server (0x30 ∷ 0x7F ∷ 0x00 ∷ 0x01 ∷ []) (violation (fault 21 3))
    ∷ message_case Server (0x30 ∷ 0x80 ∷ 0x01 ∷ 0x01 ∷ []) (violation (fault 21 1))
    ∷ message_case Server (0x30 ∷ 0x00 ∷ 0xFF ∷ 0xFF ∷ []) (violation (fault 21 2))
    ∷ message_case Client (0x40 ∷ 0x7F ∷ 0x80 ∷ 0x00 ∷ []) (violation (fault 21 2))
    ∷ message_case Client (0x40 ∷ 0x7F ∷ 0x00 ∷ 0x01 ∷ []) (violation (fault 21 3))
    ∷ message_case Client (0x40 ∷ 0x80 ∷ 0x01 ∷ 0x01 ∷ []) (violation (fault 21 1))
    ∷ message_case Client (0x40 ∷ 0x00 ∷ 0xFF ∷ 0xFF ∷ []) (violation (fault 21 2))
    -- 20 at byte 0, also where its low bit alone is wrong, which the type's own layout calls reserved
    ∷ message_of_either (0x11 ∷ 0xFF ∷ 0xFF ∷ 0xFF ∷ []) (violation (fault 20 0))
    ∷ message_of_either (0x21 ∷ 0xFF ∷ 0xFF ∷ 0xFF ∷ []) (violation (fault 20 0))
    ∷ message_of_either (0x81 ∷ 0xFF ∷ 0xFF ∷ 0xFF ∷ []) (violation (fault 20 0))
    ∷ message_of_either (0xFF ∷ 0xFF ∷ 0xFF ∷ 0xFF ∷ []) (violation (fault 20 0))
    -- 23 and 24 at byte 0
    ∷ message_case Client (0x02 ∷ 0x00 ∷ 0x00 ∷ 0x00 ∷ []) (violation (fault 23 0))
    ∷ message_case Server (0x40 ∷ 0x05 ∷ 0x00 ∷ 0x00 ∷ []) (violation (fault 23 0))
    ∷ message_case Client (0x8C ∷ 0x05 ∷ 0x00 ∷ 0x00 ∷ []) (violation (fault 24 0))
    -- 21 at its place though the body is cut short; and 10 where a header is not all there, however wrong its bytes are
    ∷ message_of_either (0x00 ∷ 0x01 ∷ 0x00 ∷ 0x05 ∷ []) (violation (fault 21 1))
    ∷ message_of_either (0x01 ∷ 0xFF ∷ 0xFF ∷ []) (refused 10)
    ∷ header_case (0x4B ∷ 0x6D ∷ 0x75 ∷ 0x78 ∷ 0x01 ∷ 0x00 ∷ 0x04 ∷ []) (refused 10)
    -- a receive hands on what the readers say: 20, 21, 23 and 24
    ∷ receive_case server header_and_open (inbound 5) (Finite 256) (0x01 ∷ 0x00 ∷ 0x00 ∷ 0x00 ∷ []) (breaks 20 0 (Finite 256))
    ∷ receive_case server header_and_open (inbound 5) (Finite 256) (0x30 ∷ 0x07 ∷ 0x00 ∷ 0x01 ∷ []) (breaks 21 3 (Finite 256))
    ∷ receive_case server header_and_open (inbound 5) (Finite 256) (0x40 ∷ 0x07 ∷ 0x01 ∷ 0x01 ∷ []) (breaks 21 2 (Finite 256))
    ∷ receive_case server header_and_open (inbound 5) (Finite 256) (0x04 ∷ 0x80 ∷ 0x00 ∷ 0x00 ∷ []) (breaks 21 1 (Finite 256))
    ∷ receive_case server header_and_open (inbound 5) (Finite 256) (0x30 ∷ 0x07 ∷ 0x00 ∷ 0x00 ∷ []) (breaks 23 0 (Finite 256))
    ∷ receive_case server header_and_open (inbound 5) (Finite 256) (0x22 ∷ 0x07 ∷ 0x00 ∷ 0x00 ∷ []) (breaks 24 0 (Finite 256))
    -- 25 at byte 1: Data, an increment, an Abort and an Acknowledgment for an idle number, and one more open
    ∷ receive_case server header_and_open (inbound 5) (Finite 256) (0x80 ∷ 0x06 ∷ 0x00 ∷ 0x00 ∷ []) (breaks 25 1 (Finite 256))
    ∷ receive_case server header_and_open (inbound 5) (Finite 256) (0x10 ∷ 0x06 ∷ 0x00 ∷ 0x01 ∷ []) (breaks 25 1 (Finite 256))
    ∷ receive_case server header_and_open (inbound 5) (Finite 256) (0x20 ∷ 0x06 ∷ 0x00 ∷ 0x00 ∷ []) (breaks 25 1 (Finite 256))
    ∷ receive_case server header_and_open (inbound 5) (Finite 256) (0x40 ∷ 0x06 ∷ 0x00 ∷ 0x00 ∷ []) (breaks 25 1 (Finite 256))
    ∷ receive_case server header_and_open (inbound 5) (Finite 256) (0x90 ∷ 0x05 ∷ 0x00 ∷ 0x00 ∷ []) (breaks 25 1 (Finite 256))
    -- 26 at byte 2: an open, and Data, whose length is above the ration
    ∷ receive_case server header_and_open (inbound 5) (Finite 256) (0x90 ∷ 0x06 ∷ 0x01 ∷ 0x01 ∷ replicate 257 0) (breaks 26 2 (Finite 256))
    ∷ receive_case server spent (inbound 5) (Finite 0) (data_for_5 1) (breaks 26 2 (Finite 0))
    -- 27 at byte 2, also where the shift in byte 0 makes the increment too large
    ∷ receive_case server raised (outbound 5) (Finite 2_147_483_000) (0x1E ∷ 0x05 ∷ 0x00 ∷ 0x01 ∷ []) (breaks 27 2 (Finite 2_147_483_000))
    -- 28 at byte 2: no ping is outstanding
    ∷ receive_case server header_and_open (inbound 5) (Finite 256) (0x06 ∷ 0x00 ∷ 0x00 ∷ 0x00 ∷ []) (breaks 28 2 (Finite 256))
    ∷ []
