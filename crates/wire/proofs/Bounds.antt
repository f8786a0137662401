-- What holds of every message that the reader gives, whatever its input is: its fields fit, and its sender may send it.
use Rattle.std.specs.Prelude.{Option, Some, None}
use mathlib.Core.Path.{◌≡◌, refl, sym, ap, ◌∙◌, subst}
use mathlib.Core.Bool.{Bool, true, false, ◌||◌}
use mathlib.Core.List.{List}
use Prim.Native.Nat.{ℕ, ◌+◌, ◌*◌, ◌/◌, ◌%◌, ◌<◌}
use native.Mathlib.Omega.{arith}
use lib.ListN.{length, get_or, take}
use native.Mathlib.Nat.{mod-lt}
use lib.Dec.{eqb, ltb, leb}
use Rattle.laws.specs.Pick.{pick}
use Rattle.laws.specs.Result.{fault, Result, ok, refused, violation}
use Rattle.laws.proofs.Results.{ok_same, refused_not_ok, violation_not_ok}
use Rattle.wire.specs.declared.Role.{Role}
use Rattle.wire.specs.declared.Kind.{Kind}
use Rattle.wire.specs.declared.Kind.TheVariants as kind
use Rattle.wire.specs.declared.Message.{Message}
use Rattle.wire.specs.Pattern.{x, -, bits, with_bits}
use Rattle.wire.specs.FirstByte.{kind_of}
use Rattle.wire.specs.Layout.{layout, fixed, first_wrong, message, digits, initial_ration}
use Rattle.wire.specs.Message.{flags_allowed, may_send, allowed, typed, parse_header, body_length, with_body, read_message, second_byte, number_of, kind_of_message}
use Rattle.wire.specs.Connection.{connection_layout, parse_connection_header, read_connection_header}
use Rattle.wire.proofs.Inverse.{passed}

-- ---- bits

below_eight : (n p q r s t u v w : ℕ) → p < 2 → q < 2 → r < 2 → s < 2 → t < 2 → u < 2 → v < 2 → w < 2
    → (((((((n * 2 + p) * 2 + q) * 2 + r) * 2 + s) * 2 + t) * 2 + u) * 2 + v) * 2 + w < n * 256 + 256
below_eight n p q r s t u v w hp hq hr hs ht hu hv hw = omega arith

bit : (a w : ℕ) → a / w % 2 < 2
bit a w = mod-lt (a / w) (omega arith)

byte_bound : (n a : ℕ) → with_bits (bits x x x x x x x x) 128 a n < n * 256 + 256
byte_bound n a =
    below_eight n _ _ _ _ _ _ _ _ (bit a 128) (bit a 64) (bit a 32) (bit a 16) (bit a 8) (bit a 4) (bit a 2) (bit a 1)

-- two bytes hold less than 65,536
wide_bound : (a b : ℕ) → with_bits (bits x x x x x x x x) 128 b (with_bits (bits x x x x x x x x) 128 a 0) < 65_536
wide_bound a b = both (byte_bound 0 a) (byte_bound (with_bits (bits x x x x x x x x) 128 a 0) b)
  where
    both : {u v : ℕ} → u < 0 * 256 + 256 → v < u * 256 + 256 → v < 65_536
    both hu hv = omega arith

below_seven : (q r s t u v w : ℕ) → q < 2 → r < 2 → s < 2 → t < 2 → u < 2 → v < 2 → w < 2
    → ((((((0 * 2 + q) * 2 + r) * 2 + s) * 2 + t) * 2 + u) * 2 + v) * 2 + w < 128
below_seven q r s t u v w hq hr hs ht hu hv hw = omega arith

session_bound : (b : ℕ) → with_bits (bits - x x x x x x x) 128 b 0 < 128
session_bound b = below_seven _ _ _ _ _ _ _ (bit b 64) (bit b 32) (bit b 16) (bit b 8) (bit b 4) (bit b 2) (bit b 1)

-- ---- messages

second_bound : (k : Kind) (h : List ℕ) → second_byte (message k h) < 128
unfolding pick
second_bound kind.NoOperation h = omega arith
second_bound kind.Shutdown h = omega arith
second_bound kind.Ping h = omega arith
second_bound kind.PingAck h = omega arith
second_bound kind.Error h = omega arith
second_bound kind.IncrementRation h = session_bound (get_or h 1 0)
second_bound kind.Abort h = session_bound (get_or h 1 0)
second_bound kind.Close h = session_bound (get_or h 1 0)
second_bound kind.Acknowledgment h = session_bound (get_or h 1 0)
second_bound kind.Data h = session_bound (get_or h 1 0)

number_bound : (k : Kind) (h : List ℕ) → number_of (message k h) < 65_536
unfolding pick
number_bound kind.NoOperation h = wide_bound (get_or h 2 0) (get_or h 3 0)
number_bound kind.Shutdown h = wide_bound (get_or h 2 0) (get_or h 3 0)
number_bound kind.Ping h = wide_bound (get_or h 2 0) (get_or h 3 0)
number_bound kind.PingAck h = wide_bound (get_or h 2 0) (get_or h 3 0)
number_bound kind.Error h = wide_bound (get_or h 2 0) (get_or h 3 0)
number_bound kind.IncrementRation h = wide_bound (get_or h 2 0) (get_or h 3 0)
number_bound kind.Abort h = wide_bound (get_or h 2 0) (get_or h 3 0)
number_bound kind.Close h = omega arith
number_bound kind.Acknowledgment h = omega arith
number_bound kind.Data h = wide_bound (get_or h 2 0) (get_or h 3 0)

kind_is : (k : Kind) (h : List ℕ) → kind_of_message (message k h) ≡ k
kind_is kind.NoOperation h = refl
kind_is kind.Shutdown h = refl
kind_is kind.Ping h = refl
kind_is kind.PingAck h = refl
kind_is kind.Error h = refl
kind_is kind.IncrementRation h = refl
kind_is kind.Abort h = refl
kind_is kind.Close h = refl
kind_is kind.Acknowledgment h = refl
kind_is kind.Data h = refl

-- what the reader's checks leave
pub record Sent (from : Role) (m : Message) : Type 0 where
  pub session : second_byte m < 128
  pub number : number_of m < 65_536
  pub sender : may_send from (kind_of_message m) ≡ true
  pub flags : flags_allowed from m ≡ true

pub header_sent : (from : Role) (h : List ℕ) (m : Message) → parse_header from h ≡ ok m → Sent from m
unfolding parse_header typed pick
header_sent from h m q = go (kind_of (get_or h 0 0)) q
  where
    by_kind : (k : Kind) (f : Bool) → pick f (allowed from k (message k h)) (violation (fault 21 (first_wrong (layout k) h))) ≡ ok m → Sent from m
    by_kind k true p =
        let w = passed from k (message k h) m p in
        record {
          session = subst (λ (l : Message). second_byte l < 128) w.is (second_bound k h);
          number = subst (λ (l : Message). number_of l < 65_536) w.is (number_bound k h);
          sender = ap (may_send from) (sym (ap kind_of_message w.is) ∙ kind_is k h) ∙ w.sends;
          flags = subst (λ (l : Message). flags_allowed from l ≡ true) w.is w.allows;
        }
    by_kind k false p = absurd (violation_not_ok p)

    go : (n : Option Kind) → typed from h n ≡ ok m → Sent from m
    go (Some k) p = by_kind k (fixed (layout k) h) p
    go None p = absurd (violation_not_ok p)

pub message_sent : (from : Role) (s : List ℕ) (m : Message) → read_message from s ≡ ok m → Sent from m
unfolding read_message pick
message_sent from s m q = go (ltb (length s) 4) q
  where
    body : (r : Result Message) → parse_header from (take 4 s) ≡ r → with_body (length s) r ≡ ok m → Sent from m
    body (ok l) e p = header_sent from (take 4 s) m (e ∙ ap ok (same (leb (4 + body_length l) (length s)) p))
      where
        same : (b : Bool) → pick b (ok l) (refused 10) ≡ ok m → l ≡ m
        same true z = ok_same z
        same false z = absurd (refused_not_ok z)
    body (refused n) e p = absurd (refused_not_ok p)
    body (violation n) e p = absurd (violation_not_ok p)

    go : (b : Bool) → pick b (refused 10) (with_body (length s) (parse_header from (take 4 s))) ≡ ok m → Sent from m
    go true p = absurd (refused_not_ok p)
    go false p = body (parse_header from (take 4 s)) refl p

-- ---- the connection header

pub parsed_number : (h : List ℕ) (n : ℕ) → parse_connection_header h ≡ ok n → n < 65_536
unfolding parse_connection_header pick
parsed_number h n q = number (fixed connection_layout h) q
  where
    number : (b : Bool) → pick b (ok (digits initial_ration connection_layout h 0)) (violation (fault 22 (first_wrong connection_layout h))) ≡ ok n → n < 65_536
    number true p = subst (λ (k : ℕ). k < 65_536) (ok_same p) (wide_bound (get_or h 5 0) (get_or h 6 0))
    number false p = absurd (violation_not_ok p)

pub header_number : (s : List ℕ) (n : ℕ) → read_connection_header s ≡ ok n → n < 65_536
unfolding read_connection_header pick
header_number s n q = go (ltb (length s) 8) q
  where
    go : (b : Bool) → pick b (refused 10) (parse_connection_header (take 8 s)) ≡ ok n → n < 65_536
    go true p = absurd (refused_not_ok p)
    go false p = parsed_number (take 8 s) n p

-- ---- an input that is too short is refused with 10, and no other is refused; each violation passes a test

abbrev pub Only : {A : Type 0} → (ℕ → Bool) → Result A → Type 0
Only v (ok a) = Unit {0}
Only v (refused n) = n ≡ 10
Only v (violation f) = v f.number ≡ true

either : {A : Type 0} (v : ℕ → Bool) (p q : Result A) (b : Bool) → Only v p → Only v q → Only v (pick b p q)
unfolding pick
either v p q true hp hq = hp
either v p q false hp hq = hq

module _ (v : ℕ → Bool) (h20 : v 20 ≡ true) (h21 : v 21 ≡ true) (h23 : v 23 ≡ true) (h24 : v 24 ≡ true) (from : Role) where
  typed_only : (h : List ℕ) (n : Option Kind) → Only v (typed from h n)
  unfolding typed allowed
  typed_only h (Some k) =
      let m = message k h in
      let flags = either v (ok m) (violation (fault 24 0)) (flags_allowed from m) tt h24 in
      let sender = either v (pick (flags_allowed from m) (ok m) (violation (fault 24 0))) (violation (fault 23 0)) (may_send from k) flags h23 in
      either v (allowed from k m) (violation (fault 21 (first_wrong (layout k) h))) (fixed (layout k) h) sender h21
  typed_only h None = h20

  parsed_only : (h : List ℕ) → Only v (parse_header from h)
  unfolding parse_header
  parsed_only h = typed_only h (kind_of (get_or h 0 0))

  message_only : (s : List ℕ) → Only v (read_message from s)
  unfolding read_message
  message_only s =
      let r = parse_header from (take 4 s) in
      either v (refused 10) (with_body (length s) r) (ltb (length s) 4) refl (body r (parsed_only (take 4 s)))
    where
      body : (r : Result Message) → Only v r → Only v (with_body (length s) r)
      body (ok m) h = either v (ok m) (refused 10) (leb (4 + body_length m) (length s)) tt refl
      body (refused n) h = h
      body (violation n) h = h

-- the violations that a reader of messages finds
abbrev pub is_readers : ℕ → Bool
is_readers n = eqb n 20 || eqb n 21 || eqb n 23 || eqb n 24

pub message_numbers : (from : Role) (s : List ℕ) → Only is_readers (read_message from s)
message_numbers from s = message_only is_readers refl refl refl refl from s

-- refused only with 10, and a violation is a number from 20 up
abbrev pub ShortOnly : {A : Type 0} → Result A → Type 0
ShortOnly r = Only (leb 20) r

pub parsed_short : (from : Role) (h : List ℕ) → ShortOnly (parse_header from h)
parsed_short from h = parsed_only (leb 20) refl refl refl refl from h

pub message_short : (from : Role) (s : List ℕ) → ShortOnly (read_message from s)
message_short from s = message_only (leb 20) refl refl refl refl from s

pub connection_short : (h : List ℕ) → ShortOnly (parse_connection_header h)
unfolding parse_connection_header
connection_short h = either (leb 20) (ok (digits initial_ration connection_layout h 0)) (violation (fault 22 (first_wrong connection_layout h))) (fixed connection_layout h) tt refl

pub header_short : (s : List ℕ) → ShortOnly (read_connection_header s)
unfolding read_connection_header
header_short s = either (leb 20) (refused 10) (parse_connection_header (take 8 s)) (ltb (length s) 8) refl (connection_short (take 8 s))
