-- `write_header_error` meets its contract: the Error follows the header.
use Rattle.call_receive.proofs.Rooms.{header_error}
use Rattle.call_receive.proofs.replies.write_header_error.Goals as goal

pub returns : goal.returns
returns c =
    header_error c.args.own c.args.room.now c.requires c.write.ensures c.write-2.ensures
