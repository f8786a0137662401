-- `conclude_put` meets its contract: each arm is a case of `decision`, and the queue is set if the session takes the bytes.
use Rattle.call_put.proofs.Queued.{put_taken, put_refused}
use Rattle.call_put.proofs.conclude_put.Goals as goal

pub returns-in-Ok : goal.returns-in-Ok
returns-in-Ok c =
    put_taken c.args.c c.args.n c.args.waiting c.args.src.now c.args.queue.now c.in-Ok.is c.requires
    c.with_session.ensures c.put_into.ensures c.done.ensures

pub returns-in-Err : goal.returns-in-Err
returns-in-Err c =
    let a = c.args in
    put_refused a.c a.n a.waiting a.src.now a.queue.now c.in-Err.is c.refused.ensures
