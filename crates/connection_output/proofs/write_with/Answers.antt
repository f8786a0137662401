-- `write_with` meets its contract: each arm writes the bytes of its case, by the laws of the room.
use Rattle.std.proofs.Common.{ap}
use Rattle.connection_output.specs.Outgoing.{outs_as}
use Rattle.connection_output.proofs.Rooms.{nothing, header_counted, message_with}
use Rattle.connection_output.proofs.write_with.Goals as goal

pub returns-in_default : goal.returns-in_default
returns-in_default c = rw c.in_default.is (nothing _ _)

pub returns-in-Header : goal.returns-in-Header
returns-in-Header c =
    rw (c.in-Some.is, c.in-Header.is) (rw c.unwrap_or.ensures (header_counted _ _ _ _ c.write_connection_header.ensures))

pub returns-in-Message : goal.returns-in-Message
returns-in-Message c =
    let a = c.args in
    message_with a.payload.now a.room.now c.in-Message.m (rw c.in-Message.is at (ap outs_as c.in-Some.is)) c.body_length.ensures c.first_bytes-body.ensures c.put_message.ensures
