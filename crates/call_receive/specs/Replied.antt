-- The result of a receive and the room after it, from its decision: the bytes used, the payload's place and the bytes written.
use Rattle.std.specs.Prelude.{ℕ, List, [], length}
use Rattle.laws.specs.Room.{overlaid}
use Rattle.protocol.specs.Result.{Given, bytes_of_all}
use Rattle.connection_judge.specs.Extent.{extent_in}
use Rattle.connection_judge.specs.Verdict.{Verdict}

abbrev pub replied : Verdict → List ℕ → Given × List ℕ
replied v room = (
  record {
    connection = v.connection;
    answer = v.answer;
    used = (extent_in v.answer).used;
    wrote = length (bytes_of_all [] v.outs);
    start = (extent_in v.answer).start;
    end = (extent_in v.answer).end;
  },
  overlaid (bytes_of_all [] v.outs) room,
)
