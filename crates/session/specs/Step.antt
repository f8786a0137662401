-- What each answer of a session's steps means, and the result of a rule about one session.
use Rattle.std.specs.Prelude as prelude
use Rattle.std.specs.Prelude.{false, List, [], ◌∷◌, Option, Some, None}
use Rattle.laws.specs.Result.{Result, ok, refused}
use Rattle.refusal.specs.declared.Refusal.{Refusal}
use Rattle.refusal.specs.Failure.{or_refused}
use Rattle.protocol.specs.Plan.{Plan, settle}
use Rattle.protocol.specs.Message.{SessionMessage, data_of, increment_of, abort_of, close_of}
use Rattle.protocol.specs.Receipt as rule
use Rattle.session.specs.declared.Sent.{Sent}
use Rattle.session.specs.declared.Sent.TheVariants as sent
use Rattle.session.specs.declared.Taken.{Taken}

abbrev pub message_as : Sent → SessionMessage
message_as (sent.Data n opens eof) = data_of n opens false eof false
message_as (sent.Increment n) = increment_of n
message_as (sent.Abort partial) = abort_of partial
message_as sent.Close = close_of

abbrev pub sent_as : Option Sent → List SessionMessage
sent_as None = []
sent_as (Some m) = message_as m ∷ []

abbrev pub taken_as : Taken → rule.Taken
taken_as t = record { session = t.session; sent = sent_as t.sent; late = t.late }

-- the result of a local call for its session
abbrev pub stepped_as : prelude.Result Taken Refusal → Result rule.Taken
stepped_as r = or_refused taken_as r

-- the result of the rule of a local call: it takes, or refuses
abbrev pub to_stepped : Plan rule.Taken → Result rule.Taken
to_stepped p = settle refused ok p
