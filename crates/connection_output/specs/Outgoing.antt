-- What is written, in the rules' terms.
use Rattle.std.specs.Prelude.{Option, Some, None, List, [], ◌∷◌}
use Rattle.protocol.specs.Judge.{Output, header_out, sent}
use Rattle.connection_output.specs.declared.Outgoing.{Outgoing}
use Rattle.connection_output.specs.declared.Outgoing.TheVariants as outgoing

abbrev pub out_as : Outgoing → Output
out_as (outgoing.Header n) = header_out n
out_as (outgoing.Message m) = sent m

-- at most one output is written
abbrev pub outs_as : Option Outgoing → List Output
outs_as None = []
outs_as (Some o) = out_as o ∷ []
