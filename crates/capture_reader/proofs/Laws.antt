-- The law of the reader of captures: until the first refusal it gives exactly the messages whose bytes the capture has.
-- From the law of reading a capture, since a reader that is asked again and again reads the same.
use mathlib.Core.Path.{◌≡◌, refl, sym, ap, ◌∙◌}
use mathlib.Core.Logic.{◌↔◌}
use mathlib.Core.List.{List}
use Prim.Native.Nat.{ℕ, zero, suc}
use lib.ListN.{length}
use denote.Ref.{Bor}
use Rattle.laws.proofs.Lists.{Bytes}
use Rattle.wire.specs.declared.Role.{Role}
use Rattle.capture_rules.specs.Place.{message_at, place_after, step_at}
use Rattle.capture_rules.specs.Reading.{MessagesRead, prepended, read_up_to, read_all, Exact}
use Rattle.capture_rules.proofs.Laws.{read_exactly}
use Rattle.capture_reader.specs.declared.Reader.{Reader}
use Rattle.capture_reader.specs.Capture.{first_place, reader_at_first, advanced}
use Rattle.capture_reader.specs.Reading.{read_by}

read_by_lem : (n : ℕ) (from : Role) (r : Reader) → read_by n from r ≡ read_up_to n from r.capture.now r.place
unfolding read_by read_up_to
read_by_lem zero from r = refl
read_by_lem (suc n) from r =
    let m = message_at from r.capture.now r.place in
    let next : Reader = record { capture = r.capture; place = place_after r.place (message_at from r.capture.now r.place) } in
    ap (prepended r.capture.now r.place m) (read_by_lem n from next)

-- what `read_first` gives, and `read_at` at a place, is what a reader gives there, with the place after it
pub same_step : (from : Role) (r : Reader) → ((advanced from r).0, (advanced from r).1.place) ≡ step_at from r.capture.now r.place
unfolding step_at
same_step from r = refl

-- made on a capture, as by `read_first`, and asked until its first refusal, it gives exactly the messages whose bytes the capture has
pub reader_exactly : (from : Role) (capture : Bor (List ℕ)) → Bytes capture.now → (r : MessagesRead)
    → (r ≡ read_by (length capture.now) from (reader_at_first capture)) ↔ Exact from capture.now first_place r
unfolding read_all
reader_exactly from capture bytes r =
    let same = read_by_lem (length capture.now) from (reader_at_first capture) in
    let law = read_exactly from capture.now bytes first_place r in
    ((λ e. law.0 (e ∙ same)), λ x. law.1 x ∙ sym same)
