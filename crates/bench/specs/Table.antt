-- Cases 1 to 5 and 7 of docs/PROTOCOL.md, in order, each violation with its place.
use Rattle.std.specs.Prelude.{true, false, List, [], ◌∷◌, ◌++◌, ℕ, ◌/◌, ◌%◌, replicate}
use Rattle.laws.specs.Result.{fault, ok, violation}
use Rattle.ration.specs.declared.Ration.{Ration}
use Rattle.ration.specs.declared.Ration.TheVariants.{Finite, Endless}
use Rattle.wire.specs.declared.Role.TheVariants.{Client, Server}
use Rattle.wire.specs.declared.Message.{Message}
use Rattle.wire.specs.declared.Message.TheVariants.{IncrementRation, Abort, Close, Data}
use Rattle.state.specs.declared.Setup.{Setup}
use Rattle.protocol.specs.Judge as report
use Rattle.clock_limit.specs.declared.Setting.{Setting}
use Rattle.clock_limit.specs.declared.Setting.TheVariants.{Measured}
use Rattle.clock_numbers.specs.Arithmetic.{◌⊘◌, whole_number}
use Rattle.bench.specs.Row.{inbound, outbound, Came, CaseRow, header_case, message_case, message_of_either, receive_case, limits}

-- ---- what the rows of cases 4 and 5 share: a server just made, and session 5

-- our header number 1 grants 256
abbrev pub server : Setup
server = record { role = Server; header = 1 }

-- a client's header with the number 125, which grants 32,000; it opens session 5 with no bytes
abbrev pub header_and_open : List (List ℕ)
header_and_open = (0x4A ∷ 0x6D ∷ 0x75 ∷ 0x78 ∷ 0x01 ∷ 0x00 ∷ 0x7D ∷ 0x00 ∷ []) ∷ (0x90 ∷ 0x05 ∷ 0x00 ∷ 0x00 ∷ []) ∷ []

-- Data of n bytes, no flag set, all zeros; and an increment of n, unshifted
abbrev pub data_for_5 : ℕ → List ℕ
data_for_5 n = 0x80 ∷ 0x05 ∷ n / 256 ∷ n % 256 ∷ replicate n 0

abbrev pub increment_for_5 : ℕ → List ℕ
increment_for_5 n = 0x10 ∷ 0x05 ∷ n / 256 ∷ n % 256 ∷ []

-- Data of 256 spends what our header grants
abbrev pub spent : List (List ℕ)
spent = header_and_open ++ (data_for_5 256 ∷ [])

-- 65,535 times 16,384, twice, and 120, added to 32,000: 2,147,483,000
abbrev pub raised : List (List ℕ)
raised = header_and_open ++ ((0x1E ∷ 0x05 ∷ 0xFF ∷ 0xFF ∷ []) ∷ (0x1E ∷ 0x05 ∷ 0xFF ∷ 0xFF ∷ []) ∷ increment_for_5 120 ∷ [])

-- taken, not late: these bytes are used, nothing is written
abbrev pub takes : (used : ℕ) → Message → Ration → Came
takes used m ration = record { answer = ok (report.message m false); used = used; wrote = []; ration = ration; over = false }

-- a violation: no input is used, an Error is written, the ration stays, the connection is over
abbrev pub breaks : (number place : ℕ) → Ration → Came
breaks number place ration =
    record { answer = violation (fault number place); used = 0; wrote = 0x08 ∷ 0x00 ∷ 0x00 ∷ 0x00 ∷ []; ration = ration; over = true }

-- ---- what the row of case 7 names: the widest limits

abbrev pub wide : Setting
wide = Measured (whole_number 1) (whole_number 60_000)

-- ---- the table

abbrev pub case_table : List CaseRow
case_table =
    -- 1: ration 1,024; header number 0: endless; version 02: 22
    header_case (0x4A ∷ 0x6D ∷ 0x75 ∷ 0x78 ∷ 0x01 ∷ 0x00 ∷ 0x04 ∷ 0x00 ∷ []) (ok (Finite 1_024))
    ∷ header_case (0x4A ∷ 0x6D ∷ 0x75 ∷ 0x78 ∷ 0x01 ∷ 0x00 ∷ 0x00 ∷ 0x00 ∷ []) (ok Endless)
    ∷ header_case (0x4A ∷ 0x6D ∷ 0x75 ∷ 0x78 ∷ 0x02 ∷ 0x00 ∷ 0x04 ∷ 0x00 ∷ []) (violation (fault 22 4))
    -- 2: open, session 5, "abc"
    ∷ message_case Client (0x90 ∷ 0x05 ∷ 0x00 ∷ 0x03 ∷ 0x61 ∷ 0x62 ∷ 0x63 ∷ [])
    (ok (Data true false false false 5 3, 0x61 ∷ 0x62 ∷ 0x63 ∷ []))
    -- 3: Abort, partial; from a client 24; Close; 20; 21
    ∷ message_case Server (0x22 ∷ 0x07 ∷ 0x00 ∷ 0x00 ∷ []) (ok (Abort true 7 0, []))
    ∷ message_case Client (0x22 ∷ 0x07 ∷ 0x00 ∷ 0x00 ∷ []) (violation (fault 24 0))
    ∷ message_case Server (0x30 ∷ 0x07 ∷ 0x00 ∷ 0x00 ∷ []) (ok (Close 7, []))
    ∷ message_of_either (0x01 ∷ 0x00 ∷ 0x00 ∷ 0x00 ∷ []) (violation (fault 20 0))
    ∷ message_of_either (0x04 ∷ 0x80 ∷ 0x00 ∷ 0x00 ∷ []) (violation (fault 21 1))
    -- 4: at ration 256 Data of 256 leaves 0; of 257 gives 26; of 0 at ration 0 is taken
    ∷ receive_case server header_and_open (inbound 5) (Finite 256) (data_for_5 256)
    (takes 260 (Data false false false false 5 256) (Finite 0))
    ∷ receive_case server header_and_open (inbound 5) (Finite 256) (data_for_5 257) (breaks 26 2 (Finite 256))
    ∷ receive_case server spent (inbound 5) (Finite 0) (data_for_5 0) (takes 4 (Data false false false false 5 0) (Finite 0))
    -- 5: at outbound 2,147,483,000, 647 more are taken, 648 more give 27
    ∷ receive_case server raised (outbound 5) (Finite 2_147_483_000) (increment_for_5 647)
    (takes 4 (IncrementRation 0 5 647) (Finite 2_147_483_647))
    ∷ receive_case server raised (outbound 5) (Finite 2_147_483_000) (increment_for_5 648)
    (breaks 27 2 (Finite 2_147_483_000))
    -- 7: samples 100, 100, 180, wide limits: 300, 250, 302.5
    ∷ limits wide (100 ∷ 100 ∷ 180 ∷ []) (ok (whole_number 300) ∷ ok (whole_number 250) ∷ ok (whole_number 605 ⊘ whole_number 2) ∷ [])
    ∷ []
