-- Which bytes of the input an answer takes: how many it uses, and where its payload is.
use Rattle.laws.specs.Result.{Result, ok, refused, violation}
use Rattle.protocol.specs.Judge.{Report}
use Rattle.protocol.specs.Result.{extent_of}
use Rattle.connection_judge.specs.declared.Extent.{Extent}

-- only what is taken uses bytes of the input
abbrev pub extent_in : Result Report → Extent
extent_in (ok r) = record { used = (extent_of r).used; start = (extent_of r).start; end = (extent_of r).end }
extent_in (refused n) = record { used = 0; start = 0; end = 0 }
extent_in (violation f) = record { used = 0; start = 0; end = 0 }
