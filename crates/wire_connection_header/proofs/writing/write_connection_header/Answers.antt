-- `write_connection_header` meets its contract, by the laws of its room.
use Rattle.std.proofs.Common.{◌≡◌, ◌/◌, ◌%◌, refl, arith}
use Rattle.wire.proofs.Writing.{header_ok, header_no_room}
use Rattle.wire_connection_header.proofs.writing.write_connection_header.Goals as goal

pub returns-then-room-lt8 : goal.returns-then-room-lt8
returns-then-room-lt8 c = header_no_room _ _ c.if-room-lt8.true

pub returns : goal.returns
returns c =
    let high : c.args.number / 256 % 256 ≡ c.args.number / 256 = omega arith in
    header_ok _ _ c.if-room-lt8.false
    (rw (c.copy_from_slice.ensures.after, c.to_be_bytes.ensures, high) refl)
