-- What every rule keeps of the session that it concerns: the statement that each call's lemma proves.
use mathlib.Core.Path.{◌≡◌}
use mathlib.Core.Bool.{Bool, true, false, ◌||◌}
use mathlib.Core.List.{List, [], ◌∷◌, ◌++◌}
use Prim.Native.Nat.{ℕ, ◌≤◌, ◌<◌}
use lib.ListN.{length, take}
use Rattle.laws.specs.Runs.{fold}
use Rattle.ration.specs.declared.Ration.{Ration}
use Rattle.wire.specs.declared.Role.{Role}
use Rattle.state.specs.declared.Session.{Session}
use Rattle.protocol.specs.Slot.{slot_size}
use Rattle.protocol.specs.Message.{SessionMessage, data_of, increment_of, abort_of, close_of, acknowledgment_of}
use Rattle.protocol.specs.Receipt.{Taken}
use Rattle.protocol.specs.Observed.{Event, wrote, Sending, silent, sending, is_ready, any_lapse, observe, may_write, from_role}
use Rattle.protocol.proofs.Views.{look, Formed}

-- the messages written, as events
abbrev pub writes : List SessionMessage → List Event
writes [] = []
writes (m ∷ ms) = wrote m ∷ writes ms

abbrev pub is_data : SessionMessage → Bool
is_data (data_of n begins close eof ack) = true
is_data (increment_of n) = false
is_data (abort_of partial) = false
is_data close_of = false
is_data acknowledgment_of = false

abbrev pub any_data : List SessionMessage → Bool
any_data [] = false
any_data (m ∷ ms) = is_data m || any_data ms

-- the numbers that a message carries fit: the length a slot, an increment its 16 bits
abbrev pub Fits : SessionMessage → Type 0
Fits (data_of n begins close eof ack) = n ≤ slot_size
Fits (increment_of n) = n < 65_536
Fits (abort_of partial) = Unit {0}
Fits close_of = Unit {0}
Fits acknowledgment_of = Unit {0}

-- how many bytes follow the header of a message
abbrev pub carried : SessionMessage → ℕ
carried (data_of n begins close eof ack) = n
carried (increment_of n) = 0
carried (abort_of partial) = 0
carried close_of = 0
carried acknowledgment_of = 0

-- Data that is sent carries the first bytes that wait, with eof all of them
abbrev pub CarriesData : List ℕ → ℕ → Bool → Sending → Type 0
CarriesData payload n eof silent = ⊥
CarriesData payload n eof (sending unsent waiting r finish) = (take n payload ≡ take n waiting) × (eof ≡ true → n ≡ length waiting)

abbrev pub Carries : List ℕ → Sending → SessionMessage → Type 0
Carries payload v (data_of n begins close eof ack) = CarriesData payload n eof v
Carries payload v (increment_of n) = Unit {0}
Carries payload v (abort_of partial) = Unit {0}
Carries payload v close_of = Unit {0}
Carries payload v acknowledgment_of = Unit {0}

-- a message that is written: the published protocol lets us send it when it is written, it is one of our role, its numbers fit, and
-- `payload` has the bytes that follow, which are the first that wait
pub record Lawful (r : Role) (own far : Ration) (x : Session) (s : List ℕ) (h : List Event) (payload : List ℕ) (m : SessionMessage) : Type 0 where
  pub now : may_write r far (fold (observe own far) (look far x s) h) m ≡ true
  pub ours : from_role r m ≡ true
  pub fits : Fits m
  pub body : carried m ≤ length payload
  pub carries : Carries payload (fold (observe own far) (look far x s) h).sends m

-- at most one message is written
abbrev pub AllLawful : Role → Ration → Ration → Session → List ℕ → List Event → List ℕ → List SessionMessage → Type 0
AllLawful r own far x s h payload [] = Unit {0}
AllLawful r own far x s h payload (m ∷ []) = Lawful r own far x s h payload m
AllLawful r own far x s h payload (m ∷ k ∷ ms) = ⊥

-- what is taken for the session x with slot s, told by the events h and what is written; s' is the slot afterwards, and
-- `d` says whether a Data message is written
pub record Sound (r : Role) (own far : Ration) (x : Session) (s : List ℕ) (h : List Event) (payload s' : List ℕ) (d : Bool) (t : Taken) : Type 0 where
  pub seen : look far t.session s' ≡ fold (observe own far) (look far x s) (h ++ writes t.sent)
  pub formed : Formed r true t.session
  pub lasts : is_ready (look far x s).sends ≡ true → any_lapse h ≡ false → any_data t.sent ≡ false
      → is_ready (look far t.session s').sends ≡ true
  pub sends_data : any_data t.sent ≡ d
  pub room : x.waiting ≤ length s → t.session.waiting ≤ length s'
  pub lawful : AllLawful r own far x s h payload t.sent
