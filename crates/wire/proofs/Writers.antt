-- What the writers answer, from the laws of reading and writing: what was written is read back, and when each refusal is given.
use mathlib.Core.Path.{◌≡◌, refl, sym, ap, ◌∙◌}
use mathlib.Core.Logic.{◌↔◌}
use mathlib.Core.Bool.{Bool, true, false}
use mathlib.Core.List.{List, ◌++◌}
use Prim.Native.Nat.{ℕ, ◌+◌, ◌<◌, ◌≤◌}
use native.Mathlib.Omega.{arith}
use lib.ListN.{length, drop}
use lib.Dec.{leb}
use borrow.Author.Tests.{leb-true, leb-false}
use Rattle.laws.specs.Pick.{pick}
use Rattle.laws.specs.Result.{Result, ok, refused}
use Rattle.laws.proofs.Tests.{true_false}
use Rattle.laws.proofs.Results.{ok_same, refused_same, refused_not_ok}
use Rattle.laws.proofs.Lists.{Bytes}
use Rattle.wire.specs.declared.Role.{Role}
use Rattle.wire.specs.declared.Message.{Message}
use Rattle.wire.specs.Back.{GivenBack, WroteMessage}
use Rattle.wire.specs.Message.{read_message, number_of, header, writable, write_message}
use Rattle.wire.specs.Connection.{read_connection_header, write_connection_header}
use Rattle.wire.proofs.Writing.{header_ok, header_no_room}
use Rattle.wire.proofs.Laws.{read_written, writer_exact}
use Rattle.wire.proofs.ConnectionLaws.{header_read_written}

abbrev answer : Result ℕ × List ℕ → Result ℕ
answer r = r.0

abbrev after : Result ℕ × List ℕ → List ℕ
after r = r.1

-- the three ways of the writer
data Way (from : Role) (m : Message) (body room : List ℕ) : Type 0 where
  wrote : writable from m (length body) ≡ true → 4 + length body ≤ length room
      → write_message from m body room ≡ (ok (4 + length body), header m ++ body ++ drop (4 + length body) room) → Way from m body room
  no_room : writable from m (length body) ≡ true → length room < 4 + length body → write_message from m body room ≡ (refused 8, room) → Way from m body room
  not_given : writable from m (length body) ≡ false → write_message from m body room ≡ (refused 14, room) → Way from m body room

module _ (from : Role) (m : Message) (body room : List ℕ) where
  way : Way from m body room
  unfolding write_message pick
  way = go (writable from m (length body)) (leb (4 + length body) (length room)) refl refl
    where
      go : (w f : Bool) → writable from m (length body) ≡ w → leb (4 + length body) (length room) ≡ f → Way from m body room
      go true true w f = wrote w (leb-true _ _ f) (rw (w, f))
      go true false w f = no_room w (leb-false _ _ f) (rw (w, f))
      go false true w f = not_given w (rw w)
      go false false w f = not_given w (rw w)

  -- what is written is read back as the same message
  pub written_read : {k : ℕ} {out : List ℕ} → number_of m < 65_536 → write_message from m body room ≡ (ok k, out) → WroteMessage from m body room k out
  written_read {k} {out} n e = go way
    where
      go : Way from m body room → WroteMessage from m body room k out
      go (wrote w f p) =
          let q = sym p ∙ e in
          let same : 4 + length body ≡ k = ok_same (ap answer q) in
          record {
            count = sym same;
            fits = rw same at f;
            bytes = sym (ap after q) ∙ ap (λ (i : ℕ). header m ++ body ++ drop i room) same;
            reads = ap (read_message from) (sym (ap after q)) ∙ read_written from m body n w (drop (4 + length body) room);
          }
      go (no_room w f p) = absurd (refused_not_ok (ap answer (sym p ∙ e)))
      go (not_given w p) = absurd (refused_not_ok (ap answer (sym p ∙ e)))

  -- a refusal leaves the room as lent
  pub refused_room : {k : ℕ} → (write_message from m body room).0 ≡ refused k → (write_message from m body room).1 ≡ room
  refused_room {k} e = go way
    where
      go : Way from m body room → (write_message from m body room).1 ≡ room
      go (wrote w f p) = absurd (refused_not_ok (sym e ∙ ap answer p))
      go (no_room w f p) = ap after p
      go (not_given w p) = ap after p

  -- 14 exactly if no bytes at all are read as the message with that body
  pub refused_14 : Bytes body → number_of m < 65_536 → ((write_message from m body room).0 ≡ refused 14) ↔ (GivenBack from m body → ⊥)
  refused_14 bs n = (to way, back way)
    where
      to : Way from m body room → (write_message from m body room).0 ≡ refused 14 → GivenBack from m body → ⊥
      to (wrote w f p) e g = refused_not_ok (sym e ∙ ap answer p)
      to (no_room w f p) e g = let z : ◌≡◌ {A = ℕ} 8 14 = refused_same (sym (ap answer p) ∙ e) in omega arith
      to (not_given w p) e g = true_false ((writer_exact from m body bs n).1 g) w

      back : Way from m body room → (GivenBack from m body → ⊥) → (write_message from m body room).0 ≡ refused 14
      back (wrote w f p) none = absurd (none ((writer_exact from m body bs n).0 w))
      back (no_room w f p) none = absurd (none ((writer_exact from m body bs n).0 w))
      back (not_given w p) none = ap answer p

  -- 8 exactly if it is not 14 and the room is too small
  pub refused_8 : Bytes body → number_of m < 65_536 → ((write_message from m body room).0 ≡ refused 8) ↔ (GivenBack from m body × (length room < 4 + length body))
  refused_8 bs n = (to way, back way)
    where
      to : Way from m body room → (write_message from m body room).0 ≡ refused 8 → GivenBack from m body × (length room < 4 + length body)
      to (wrote w f p) e = absurd (refused_not_ok (sym e ∙ ap answer p))
      to (no_room w f p) e = ((writer_exact from m body bs n).0 w, f)
      to (not_given w p) e = let z : ◌≡◌ {A = ℕ} 14 8 = refused_same (sym (ap answer p) ∙ e) in absurd (omega arith)

      back : Way from m body room → GivenBack from m body × (length room < 4 + length body) → (write_message from m body room).0 ≡ refused 8
      back (wrote w f p) h = let l = h.1 in absurd (omega arith)
      back (no_room w f p) h = ap answer p
      back (not_given w p) h = absurd (true_false ((writer_exact from m body bs n).1 h.0) w)

-- ---- the connection header

module _ (n : ℕ) (room : List ℕ) where
  -- what is written is read back as the same number, and a room of 8 bytes is all that is needed
  pub header_written_read : n < 65_536 → 8 ≤ length room → ((write_connection_header n room).0 ≡ ok 8) × (read_connection_header (write_connection_header n room).1 ≡ ok n)
  header_written_read h f =
      let e = sym (header_ok n room f refl) in
      (ap answer e, ap (λ (r : Result ℕ × List ℕ). read_connection_header r.1) e ∙ header_read_written n (drop 8 room) h)

  -- 8 exactly if the room is too small, whatever the number, and then the room is as lent
  pub header_refused_8 : ((write_connection_header n room).0 ≡ refused 8) ↔ (length room < 8)
  header_refused_8 = (to (leb 8 (length room)) refl, λ l. ap answer (sym (header_no_room n room l)))
    where
      to : (b : Bool) → leb 8 (length room) ≡ b → (write_connection_header n room).0 ≡ refused 8 → length room < 8
      to true e p = absurd (refused_not_ok (sym p ∙ ap answer (sym (header_ok n room (leb-true 8 (length room) e) refl))))
      to false e p = leb-false 8 (length room) e

  pub header_refused_room : length room < 8 → (write_connection_header n room).1 ≡ room
  header_refused_room l = ap after (sym (header_no_room n room l))
