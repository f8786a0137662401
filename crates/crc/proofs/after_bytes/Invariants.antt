-- `after_bytes` meets its contract. The loop's invariant: the state with the bytes that are left comes to what all bytes come to.
use mathlib.Core.Path.{◌≡◌}
use lib.ListN.{drop}
use Rattle.crc.specs.Crc.{message_bits}
use Rattle.crc.specs.Steps.{after_bits}
use Rattle.crc.proofs.Division.{ones}
use Rattle.crc.proofs.after_bytes.Given as goal

abbrev pub invariant-loop-b : goal.invariant-loop-b
invariant-loop-b l = after_bits l.c (message_bits (drop l.b-index l.s)) ≡ after_bits ones (message_bits l.s)
