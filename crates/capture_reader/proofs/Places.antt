-- The place of a reader: 8 at first, the same place after a refusal or a violation, and always on the same capture.
use mathlib.Core.Path.{◌≡◌, refl}
use mathlib.Core.List.{List}
use Prim.Native.Nat.{ℕ}
use denote.Ref.{Bor}
use Rattle.laws.specs.Result.{ok}
use Rattle.wire.specs.declared.Role.{Role}
use Rattle.wire.specs.declared.Message.{Message}
use Rattle.capture_rules.specs.Place.{message_at}
use Rattle.capture_rules.proofs.Places.{refusal_stays}
use Rattle.capture_reader.specs.declared.Reader.{Reader}
use Rattle.capture_reader.specs.Capture.{reader_at_first, advanced}

pub first_place_lem : (capture : Bor (List ℕ)) → (reader_at_first capture).place ≡ 8
first_place_lem capture = refl

pub same_capture : (from : Role) (r : Reader) → (advanced from r).1.capture ≡ r.capture
same_capture from r = refl

-- a reader that gives no message keeps its place
pub keeps_place : (from : Role) (r : Reader) → ((m : Message) → (advanced from r).0 ≡ ok m → ⊥) → (advanced from r).1.place ≡ r.place
keeps_place from r none = refusal_stays r.place (message_at from r.capture.now r.place) none
