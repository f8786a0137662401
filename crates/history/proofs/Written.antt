-- What a call writes is read back by the reader as the message meant: from the round trip of the wire format.
use mathlib.Core.Path.{◌≡◌, refl, sym, ap, ◌∙◌}
use mathlib.Core.Bool.{true, false}
use mathlib.Core.List.{List, [], ◌∷◌, append-nil}
use Prim.Native.Nat.{ℕ, ◌+◌, ◌≤◌, ◌<◌}
use native.Mathlib.Nat.{mul-one}
use native.Mathlib.Omega.{arith}
use lib.ListN.{length, take, drop}
use lib.Seq.{length-take-le, drop_at}
use borrow.Author.Tests.{lt-ltb, eq-eqb, ne_eqb}
use Rattle.laws.specs.Result.{ok}
use Rattle.laws.proofs.Pick.{yes, no}
use Rattle.laws.proofs.Tests.{and_both}
use Rattle.wire.specs.declared.Role.{Role}
use Rattle.wire.specs.declared.Message.{Message}
use Rattle.wire.specs.Message.{may_send, flags_allowed, kind_of_message, effective_increment, shift_of, second_byte, number_of, body_length, writable, read_message}
use Rattle.wire.proofs.Laws.{read_written}
use Rattle.wire.proofs.ConnectionLaws.{header_read_written}
use Rattle.protocol.specs.Message.{SessionMessage, data_of, increment_of, abort_of, close_of, acknowledgment_of, of_session, scope, numbered}
use Rattle.protocol.specs.Judge.{Output, header_out, sent}
use Rattle.protocol.specs.Result.{bytes_of, bytes_of_all}
use Rattle.protocol.specs.Observed.{Event, wrote, from_role}
use Rattle.protocol.proofs.Sound.{Fits, carried}
use Rattle.protocol.proofs.Reports.{used_is}
use Rattle.history.specs.Meaning.{only}
use Rattle.history.specs.Account.{in_scope, output_seen}
use Rattle.history.specs.Meant.{ReadInOrder}

-- ---- a message without a body, or with one

-- what the writer requires of a message, and the reader gives back
pub record Sendable (r : Role) (m : Message) (payload : List ℕ) : Type 0 where
  pub shift : shift_of m < 8
  pub session : second_byte m < 128
  pub number : number_of m < 65_536
  pub sender : may_send r (kind_of_message m) ≡ true
  pub flags : flags_allowed r m ≡ true
  pub body : body_length m ≤ length payload

pub sent_read : (r : Role) (m : Message) (payload : List ℕ) → Sendable r m payload → read_message r (bytes_of_all payload (sent m ∷ [])) ≡ ok m
unfolding writable bytes_of_all
sent_read r m payload w =
    let body = take (body_length m) payload in
    let size : length (take (body_length m) payload) ≡ body_length m = length-take-le (body_length m) payload w.body in
    let may : writable r m (length (take (body_length m) payload)) ≡ true =
    and_both
    (and_both (and_both (and_both (lt-ltb _ _ w.shift) (lt-ltb _ _ w.session)) w.sender) w.flags)
    (eq-eqb (body_length m) (length (take (body_length m) payload)) (sym size)) in
    read_written r m body w.number may []

-- what follows the header is the payload, and behind it nothing is left
pub sent_payload : (m : Message) (payload : List ℕ) → drop 4 (bytes_of_all payload (sent m ∷ [])) ≡ take (body_length m) payload
unfolding bytes_of_all
sent_payload m payload = append-nil (take (body_length m) payload)

pub sent_length : (m : Message) (payload : List ℕ) → body_length m ≤ length payload → drop (4 + body_length m) (bytes_of_all payload (sent m ∷ [])) ≡ []
unfolding bytes_of_all
sent_length m payload h = drop_at (bytes_of payload (sent m)) [] (4 + body_length m) (used_is m false payload h)

pub sent_read_back : (r : Role) (m : Message) (payload : List ℕ) → Sendable r m payload → ReadInOrder r (bytes_of_all payload (sent m ∷ [])) (sent m ∷ [])
unfolding ReadInOrder
sent_read_back r m payload w = (sent_read r m payload w, sent_length m payload w.body)

-- a connection header, and what follows it
pub opening_read_back : (r : Role) (n : ℕ) (payload : List ℕ) (outs : List Output) → n < 65_536 → ReadInOrder r (bytes_of_all payload outs) outs
    → ReadInOrder r (bytes_of_all payload (header_out n ∷ outs)) (header_out n ∷ outs)
unfolding ReadInOrder bytes_of_all
opening_read_back r n payload outs h k = (header_read_written n (bytes_of_all payload outs) h, k)

pub nothing_read_back : (r : Role) (payload : List ℕ) → ReadInOrder r (bytes_of_all payload []) []
unfolding ReadInOrder bytes_of_all
nothing_read_back r payload = refl

-- ---- messages of a session

unshifted : (n : ℕ) → effective_increment 0 n ≡ n
unfolding effective_increment
unshifted n = mul-one n

pub scope_numbered : (i : ℕ) (m : SessionMessage) → scope (numbered i m) ≡ of_session i m
scope_numbered i (data_of n begins close eof ack) = refl
scope_numbered i (increment_of n) = ap (λ (k : ℕ). of_session i (increment_of k)) (unshifted n)
scope_numbered i (abort_of partial) = refl
scope_numbered i close_of = refl
scope_numbered i acknowledgment_of = refl

sendable : (r : Role) (i : ℕ) (m : SessionMessage) (payload : List ℕ) → i < 128 → from_role r m ≡ true → Fits m → carried m ≤ length payload
    → Sendable r (numbered i m) payload
sendable r i (data_of n begins close eof ack) payload h f fits l =
    record { shift = omega arith; session = h; number = omega arith; sender = refl; flags = f; body = l }
sendable r i (increment_of n) payload h f fits l =
    record { shift = omega arith; session = h; number = fits; sender = refl; flags = refl; body = l }
sendable r i (abort_of partial) payload h f fits l =
    record { shift = omega arith; session = h; number = omega arith; sender = refl; flags = f; body = l }
sendable r i close_of payload h f fits l = record { shift = omega arith; session = h; number = omega arith; sender = f; flags = refl; body = l }
sendable r i acknowledgment_of payload h f fits l =
    record { shift = omega arith; session = h; number = omega arith; sender = f; flags = refl; body = l }

pub numbered_read_back : (r : Role) (i : ℕ) (m : SessionMessage) (payload : List ℕ) → i < 128 → from_role r m ≡ true → Fits m → carried m ≤ length payload
    → ReadInOrder r (bytes_of_all payload (sent (numbered i m) ∷ [])) (sent (numbered i m) ∷ [])
numbered_read_back r i m payload h f fits l = sent_read_back r (numbered i m) payload (sendable r i m payload h f fits l)

-- ---- as events

pub only_own : (n : ℕ) (e : Event) → only n n e ≡ e ∷ []
only_own n e = yes _ _ _ (eq-eqb n n refl)

pub only_other : (n i : ℕ) (e : Event) → (i ≡ n → ⊥) → only n i e ≡ []
only_other n i e d = no _ _ _ (ne_eqb i n d)

pub written_own : (i : ℕ) (m : SessionMessage) → output_seen i (sent (numbered i m)) ≡ wrote m ∷ []
written_own i m = ap (in_scope i wrote) (scope_numbered i m) ∙ only_own i (wrote m)

pub written_other : (n i : ℕ) (m : SessionMessage) → (i ≡ n → ⊥) → output_seen n (sent (numbered i m)) ≡ []
written_other n i m d = ap (in_scope n wrote) (scope_numbered i m) ∙ only_other n i (wrote m) d
