-- The writers' definitions, one law for each way through their checks; callers cite these.
use mathlib.Core.Path.{◌≡◌, ap, sym, ◌∙◌}
use mathlib.Core.Bool.{Bool, true, false, ◌&&◌}
use mathlib.Core.List.{List, ◌++◌}
use Prim.Native.Nat.{ℕ, ◌+◌, ◌≤◌, ◌<◌}
use native.Mathlib.Omega.{arith}
use lib.ListN.{length, drop, length-append}
use lib.Dec.{ltb, leb, eqb}
use borrow.Author.Tests.{le-leb, lt-leb, ltb-true, eqb-true}
use Rattle.laws.specs.Pick.{pick}
use Rattle.laws.specs.Result.{Result, ok, refused}
use Rattle.laws.specs.Room.{at_front}
use Rattle.laws.proofs.Pick.{yes, no}
use Rattle.laws.proofs.Tests.{and_first, and_second}
use Rattle.wire.specs.declared.Role.{Role}
use Rattle.wire.specs.declared.Kind.{Kind}
use Rattle.wire.specs.declared.Message.{Message}
use Rattle.wire.specs.Message.{may_send, flags_allowed, kind_of_message, body_length, second_byte, shift_of, header, writable, write_message}
use Rattle.wire.specs.Connection.{connection_header, write_connection_header}

-- what a message that may be written has
pub record Writable (from : Role) (m : Message) (len : ℕ) : Type 0 where
  pub shift : shift_of m < 8
  pub session : second_byte m < 128
  pub sender : may_send from (kind_of_message m) ≡ true
  pub flags : flags_allowed from m ≡ true
  pub body : body_length m ≡ len

pub writable_has : (from : Role) (m : Message) (len : ℕ) → writable from m len ≡ true → Writable from m len
unfolding writable
writable_has from m len e =
    let A = ltb (shift_of m) 8 in
    let B = ltb (second_byte m) 128 in
    let C = may_send from (kind_of_message m) in
    let D = flags_allowed from m in
    let E = eqb (body_length m) len in
    let abcd = and_first (A && B && C && D) E e in
    let abc = and_first (A && B && C) D abcd in
    let ab = and_first (A && B) C abc in
    record {
      shift = ltb-true _ _ (and_first A B ab);
      session = ltb-true _ _ (and_second A B ab);
      sender = and_second (A && B) C abc;
      flags = and_second (A && B && C) D abcd;
      body = eqb-true _ _ (and_second (A && B && C && D) E e);
    }

-- the checks of a message, each by what its part is
pub writable_is : (from : Role) (m : Message) (len : ℕ) {s i n : ℕ} {k : Kind} {sender flags : Bool} → s ≡ shift_of m → i ≡ second_byte m
    → k ≡ kind_of_message m → sender ≡ may_send from k → flags ≡ flags_allowed from m → n ≡ body_length m
    → (ltb s 8 && ltb i 128 && sender && flags && eqb n len) ≡ writable from m len
unfolding writable
writable_is from m len p q e a b r = rw (p, q, a, e, b, r)

module _ (k : ℕ) (x room : List ℕ) {n : ℕ} {last : List ℕ} where
  wrote : (b : Bool) → ◌≡◌ {A = ℕ × List ℕ} (n, last) (pick b (k, x) (0, room)) → 0 < n
      → ◌≡◌ {A = Result ℕ × List ℕ} (ok n, last) (pick b (ok k, x) (refused 8, room))
  unfolding pick
  wrote true e h = ap (λ (p : ℕ × List ℕ). (ok p.0, p.1)) e
  wrote false e h = let z : n ≡ 0 = ap (λ (p : ℕ × List ℕ). p.0) e in absurd (omega arith)

  wrote_none : (b : Bool) → ◌≡◌ {A = ℕ × List ℕ} (n, last) (pick b (k, x) (0, room)) → 0 < k → n ≤ 0
      → ◌≡◌ {A = Result ℕ × List ℕ} (refused 8, last) (pick b (ok k, x) (refused 8, room))
  unfolding pick
  wrote_none true e positive h = let z : n ≡ k = ap (λ (p : ℕ × List ℕ). p.0) e in absurd (omega arith)
  wrote_none false e positive h = ap (λ (p : ℕ × List ℕ). (refused 8, p.1)) e

module _ (from : Role) (m : Message) (body room : List ℕ) where
  at_front_lem : at_front (header m ++ body) room ≡ pick (leb (4 + length body) (length room)) (4 + length body, header m ++ body ++ drop (4 + length body) room) (0, room)
  unfolding at_front
  at_front_lem = let p : length (header m ++ body) ≡ 4 + length body = length-append (header m) body in cc

  -- the header and the body at the front of a room, as many bytes as were put there; none if the room is too small
  pub put_wrote : {n : ℕ} {last : List ℕ} → writable from m (length body) ≡ true → (n, last) ≡ at_front (header m ++ body) room → 0 < n
      → (ok n, last) ≡ write_message from m body room
  unfolding write_message
  put_wrote w e h = wrote (4 + length body) _ room (leb (4 + length body) (length room)) (e ∙ at_front_lem) h ∙ sym (yes _ _ _ w)

  pub put_none : {n : ℕ} {last : List ℕ} → writable from m (length body) ≡ true → (n, last) ≡ at_front (header m ++ body) room → n ≤ 0
      → (refused 8, last) ≡ write_message from m body room
  unfolding write_message
  put_none w e h = wrote_none (4 + length body) _ room (leb (4 + length body) (length room)) (e ∙ at_front_lem) (omega arith) h ∙ sym (yes _ _ _ w)

  pub write_refused : writable from m (length body) ≡ false → (refused 14, room) ≡ write_message from m body room
  unfolding write_message
  write_refused w = sym (no _ _ _ w)

module _ (n : ℕ) (room : List ℕ) where
  pub header_ok : {last : List ℕ} → 8 ≤ length room → last ≡ connection_header n ++ drop 8 room → (ok 8, last) ≡ write_connection_header n room
  unfolding write_connection_header
  header_ok h e = ap (λ (l : List ℕ). (ok 8, l)) e ∙ sym (yes _ _ _ (le-leb _ _ h))

  pub header_no_room : length room < 8 → (refused 8, room) ≡ write_connection_header n room
  unfolding write_connection_header
  header_no_room h = sym (no _ _ _ (lt-leb _ _ h))
