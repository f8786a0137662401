-- What is written for nothing, for our connection header and for one message.
use mathlib.Core.Path.{◌≡◌, refl, sym, ap, ◌∙◌}
use mathlib.Core.List.{List, [], ◌∷◌, ◌++◌, append-nil}
use mathlib.Core.Bool.{Bool, true, false}
use Prim.Native.Nat.{ℕ, ◌/◌, ◌%◌}
use native.Mathlib.Omega.{arith}
use lib.Dec.{leb}
use lib.ListN.{length, take}
use lib.Seq.{take-nil}
use Rattle.std.specs.Prelude as prelude
use Rattle.std.specs.Prelude.{Ok, Err}
use Rattle.std.specs.Result.{result_unwrap_or}
use Rattle.laws.specs.Pick.{pick}
use Rattle.laws.specs.Result.{Result, ok, refused}
use Rattle.laws.specs.Room.{overlaid, at_front}
use Rattle.laws.proofs.Results.{ok_same, refused_not_ok}
use Rattle.laws.proofs.Rooms.{fits, both}
use Rattle.refusal.specs.declared.Refusal.{Refusal}
use Rattle.wire_connection_header.specs.Answer.{written_as}
use Rattle.wire.specs.declared.Message.{Message}
use Rattle.wire.specs.Message.{header, body_length, first_byte, second_byte, number_of}
use Rattle.wire.specs.Connection.{connection_header, write_connection_header}
use Rattle.protocol.specs.Judge.{Output, header_out, sent}
use Rattle.protocol.specs.Result.{bytes_of_all}

-- nothing is written
pub nothing : (payload room : List ℕ) → (0, room) ≡ at_front (bytes_of_all payload []) room
unfolding bytes_of_all
nothing payload room = sym (fits [] room (omega arith))

-- a message without a body is its header
pub one_message : (m : Message) → bytes_of_all [] (sent m ∷ []) ≡ header m
unfolding bytes_of_all
one_message m = ap (λ (l : List ℕ). first_byte m ∷ second_byte m ∷ number_of m / 256 ∷ number_of m % 256 ∷ l ++ []) (take-nil (body_length m))

-- a message is its header and as many bytes of the payload as its length says
pub one_with : (payload : List ℕ) (m : Message) → bytes_of_all payload (sent m ∷ []) ≡ header m ++ take (body_length m) payload
unfolding bytes_of_all
one_with payload m = append-nil (header m ++ take (body_length m) payload)

-- what is written for a message, from its parts
pub message_with : (payload room : List ℕ) (m : Message) {outs : List Output} {n : ℕ} {body : List ℕ} {r : ℕ × List ℕ} → outs ≡ sent m ∷ []
    → n ≡ body_length m → body ≡ take n payload → r ≡ at_front (header m ++ body) room → r ≡ at_front (bytes_of_all payload outs) room
message_with payload room m o k b w =
    w
    ∙ ap (λ (s : List ℕ). at_front (header m ++ s) room) (b ∙ ap (λ (i : ℕ). take i payload) k)
    ∙ ap (λ (s : List ℕ). at_front s room) (sym (one_with payload m))
    ∙ ap (λ (s : List Output). at_front (bytes_of_all payload s) room) (sym o)

-- what the writer of a connection header answers
module _ {k : ℕ} {last : List ℕ} (size : ℕ) (bytes room : List ℕ) where
  wrote : (b : Bool) → ◌≡◌ {A = Result ℕ × List ℕ} (ok k, last) (pick b (ok size, bytes) (refused 8, room))
      → ◌≡◌ {A = ℕ × List ℕ} (k, last) (pick b (size, bytes) (0, room))
  unfolding pick
  wrote true q = both (ok_same (ap (λ (p : Result ℕ × List ℕ). p.0) q)) (ap (λ (p : Result ℕ × List ℕ). p.1) q)
  wrote false q = absurd (refused_not_ok (sym (ap (λ (p : Result ℕ × List ℕ). p.0) q)))

  wrote_none : (b : Bool) → ◌≡◌ {A = Result ℕ × List ℕ} (refused k, last) (pick b (ok size, bytes) (refused 8, room))
      → ◌≡◌ {A = ℕ × List ℕ} (0, last) (pick b (size, bytes) (0, room))
  unfolding pick
  wrote_none true q = absurd (refused_not_ok (ap (λ (p : Result ℕ × List ℕ). p.0) q))
  wrote_none false q = both refl (ap (λ (p : Result ℕ × List ℕ). p.1) q)

module _ (n : ℕ) (payload room : List ℕ) where
  header_wrote : {k : ℕ} {last : List ℕ} → (ok k, last) ≡ write_connection_header n room → (k, last) ≡ at_front (bytes_of_all payload (header_out n ∷ [])) room
  unfolding write_connection_header at_front bytes_of_all
  header_wrote e = wrote 8 (overlaid (connection_header n) room) room (leb 8 (length room)) e

  header_refused : {k : ℕ} {last : List ℕ} → (refused k, last) ≡ write_connection_header n room → (0, last) ≡ at_front (bytes_of_all payload (header_out n ∷ [])) room
  unfolding write_connection_header at_front bytes_of_all
  header_refused e = wrote_none 8 (overlaid (connection_header n) room) room (leb 8 (length room)) e

  pub header_counted : (r : prelude.Result ℕ Refusal) {last : List ℕ} → (written_as r, last) ≡ write_connection_header n room
      → (result_unwrap_or r 0, last) ≡ at_front (bytes_of_all payload (header_out n ∷ [])) room
  header_counted (Ok k) e = header_wrote e
  header_counted (Err k) e = header_refused e
