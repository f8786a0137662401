-- The verdict of a receive, before its reply is written: the connection after it, the answer, and what is to be written.
use Rattle.std.specs.Prelude.{List, [], ◌∷◌}
use Rattle.laws.specs.Result.{Result, ok, refused, violation}
use Rattle.wire.specs.declared.Message.TheVariants as msg
use Rattle.state.specs.declared.Connection.{Connection}
use Rattle.protocol.specs.Connection.{ended}
use Rattle.protocol.specs.Judge.{Report, Output, header_out, sent, Decision, refuse, violate, accept, commit}
use Rattle.protocol.specs.Result.{answer_as}
use Rattle.connection_output.specs.Outgoing.{outs_as}
use Rattle.connection_judge.specs.declared.Reply.{Reply}
use Rattle.connection_judge.specs.declared.Reply.TheVariants as reply
use Rattle.connection_judge.specs.declared.Judged.{Judged}

pub record Verdict : Type 0 where
  pub connection : Connection
  pub answer : Result Report
  pub outs : List Output

-- the verdict that a decision gives
abbrev pub verdict : Connection → Decision → Verdict
verdict c (refuse n) = record { connection = c; answer = refused n; outs = [] }
verdict c (violate b) = record { connection = ended b.cause c; answer = violation b.fault; outs = b.reply }
verdict c (accept e) = record { connection = commit c e; answer = ok e.report; outs = e.outs }

abbrev pub replies_as : Reply → List Output
replies_as (reply.Only o) = outs_as o
replies_as (reply.HeaderError n) = header_out n ∷ sent (msg.Error 0) ∷ []

abbrev pub verdict_as : Judged → Verdict
verdict_as j = record { connection = j.connection; answer = answer_as j.answer; outs = replies_as j.reply }
