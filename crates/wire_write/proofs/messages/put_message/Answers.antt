-- `put_message` meets its contract: the tests of the lengths, and then the two copies.
use Rattle.std.proofs.Common.{refl, ◌∙◌, arith}
use Rattle.laws.proofs.Rooms.{too_long}
use Rattle.wire.specs.Message.{header}
use Rattle.wire_write.proofs.Copied.{copied}
use Rattle.wire_write.proofs.messages.put_message.Goals.{then-room-lt4-via-then-room-lt4, then-room-lt4-via-else-room-lt4+then-room-body}
use Rattle.wire_write.proofs.messages.put_message.Goals as goal

pub returns-then-room-lt4 : goal.returns-then-room-lt4
returns-then-room-lt4 c =
    let a = c.args in
    elim c.then-room-lt4.branch [
      | then-room-lt4-via-then-room-lt4 w ↦ too_long (header a.m) a.body.now a.room.now refl (omega (arith, w.if-room-lt4.true))
      | then-room-lt4-via-else-room-lt4+then-room-body w ↦
          too_long (header a.m) a.body.now a.room.now refl (omega (arith, w.if-room-body.true, w.if-room-lt4.false))
    ]

pub returns : goal.returns
returns c =
    let a = c.args in
    copied (header a.m) a.body.now a.room.now refl c.if-room-lt4.false c.if-room-body.false
    (c.copy_from_slice.ensures.after ∙ c.header_of-header.ensures) c.copy_from_slice-2.ensures.after
