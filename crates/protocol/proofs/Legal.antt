-- Which events may happen to a session number: the statement from which the ledgers and the streams follow.
use mathlib.Core.Path.{◌≡◌}
use mathlib.Core.Bool.{Bool, true}
use mathlib.Core.List.{List, [], ◌∷◌}
use Prim.Native.Nat.{ℕ}
use lib.ListN.{length, take}
use Rattle.ration.specs.declared.Ration.{Ration}
use Rattle.wire.specs.declared.Role.{Role}
use Rattle.protocol.specs.Message.{SessionMessage, data_of, increment_of, abort_of, close_of, acknowledgment_of}
use Rattle.protocol.specs.Observed.{Event, opens, finishes, aborts, puts, received, wrote, Sending, silent, sending, Seen, observe, may_write, may_arrive, from_role}
use Rattle.protocol.specs.Asked.{may_ask_open}

-- what follows the header of a Data message is the first bytes that wait, with eof all of them
abbrev pub BearsData : List ℕ → ℕ → Bool → Sending → Type 0
BearsData payload n eof silent = ⊥
BearsData payload n eof (sending unsent waiting r finish) = (payload ≡ take n waiting) × (eof ≡ true → n ≡ length waiting)

abbrev pub Bears : List ℕ → Sending → SessionMessage → Type 0
Bears payload v (data_of n begins close eof ack) = BearsData payload n eof v
Bears payload v (increment_of n) = Unit {0}
Bears payload v (abort_of partial) = Unit {0}
Bears payload v close_of = Unit {0}
Bears payload v acknowledgment_of = Unit {0}

pub record Writes (r : Role) (far : Ration) (payload : List ℕ) (v : Seen) (m : SessionMessage) : Type 0 where
  pub now : may_write r far v m ≡ true
  pub ours : from_role r m ≡ true
  pub bears : Bears payload v.sends m

-- an open that may be asked for, a message that may arrive, a message that may be written
abbrev pub Legal : Role → Ration → Ration → List ℕ → Seen → Event → Type 0
Legal r own far payload v opens = may_ask_open r v ≡ true
Legal r own far payload v finishes = Unit {0}
Legal r own far payload v aborts = Unit {0}
Legal r own far payload v (puts bytes) = Unit {0}
Legal r own far payload v (received m) = may_arrive r own v m ≡ true
Legal r own far payload v (wrote m) = Writes r far payload v m

abbrev pub AllLegal : Role → Ration → Ration → List ℕ → Seen → List Event → Type 0
AllLegal r own far payload v [] = Unit {0}
AllLegal r own far payload v (e ∷ es) = Legal r own far payload v e × AllLegal r own far payload (observe own far v e) es
