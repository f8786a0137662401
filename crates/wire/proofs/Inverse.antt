-- Header bytes and messages are inverse to each other, from the tables: the header of a message is read as that message,
-- and a message that is read has the header that it is read from.
use Rattle.std.specs.Prelude.{Option, Some, None}
use mathlib.Core.Path.{◌≡◌, refl, sym, ap, ◌∙◌, subst}
use mathlib.Core.Bool.{Bool, true, false, ◌&&◌}
use mathlib.Core.List.{[], ◌∷◌}
use Prim.Native.Nat.{ℕ, ◌+◌, ◌*◌, ◌/◌, ◌%◌, ◌<◌, ◌≤◌}
use native.Mathlib.Nat.{mod-eq_of_lt, mod-lt}
use native.Mathlib.Omega.{arith}
use lib.Dec.{T, eqb, ltb, eqb→eq}
use borrow.Author.Tests.{ltb-true, eqb-true, lt-ltb}
use Rattle.laws.specs.Pick.{pick}
use Rattle.laws.specs.Result.{fault, ok, violation}
use Rattle.laws.proofs.Below.{below}
use Rattle.laws.proofs.Tests.{T-first, T-second, and_first, and_second, and_both}
use Rattle.laws.proofs.Results.{ok_same, violation_not_ok}
use Rattle.laws.proofs.Words.{joined}
use Rattle.wire.specs.declared.Role.{Role}
use Rattle.wire.specs.declared.Kind.{Kind}
use Rattle.wire.specs.declared.Kind.TheVariants as kind
use Rattle.wire.specs.declared.Message.{Message}
use Rattle.wire.specs.declared.Message.TheVariants.{NoOperation, Shutdown, Ping, PingAck, Error, IncrementRation, Abort, Close, Acknowledgment, Data}
use Rattle.wire.specs.FirstByte.{kind_of}
use Rattle.wire.specs.Layout.{layout, fixed, first_wrong, message}
use Rattle.wire.specs.Message.{may_send, flags_allowed, allowed, typed, parse_header, weight, first_byte, second_byte, number_of, shift_of, kind_of_message, header}
use Rattle.wire.proofs.FirstBytes.{code, code_of, same}
use Rattle.wire.proofs.Tables.{clear, decoded, fixed_clear, message_decoded}
use Rattle.wire.proofs.Reading.{allowed_ok, header_clear}

-- ---- the header of a message is read as that message

weight_most : (w : ℕ) (b : Bool) → weight w b ≤ w
weight_most w true = omega arith
weight_most w false = omega arith

pub first_byte_lem : (m : Message) → first_byte m < 256
first_byte_lem (NoOperation n) = omega arith
first_byte_lem (Shutdown n) = omega arith
first_byte_lem (Ping n) = omega arith
first_byte_lem (PingAck n) = omega arith
first_byte_lem (Error n) = omega arith
first_byte_lem (IncrementRation t i n) = omega arith
first_byte_lem (Abort p i n) = omega (arith, weight_most 2 p)
first_byte_lem (Close i) = omega arith
first_byte_lem (Acknowledgment i) = omega arith
first_byte_lem (Data o c e k i n) = omega (arith, weight_most 16 o, weight_most 8 c, weight_most 4 e, weight_most 2 k)

shift_test : ℕ → Bool
shift_test t = eqb (code kind.IncrementRation) (code_of (kind_of (0x10 + t * 2))) && eqb ((0x10 + t * 2) / 2 % 8) t

shift_known : (t : ℕ) → T (eqb (code kind.IncrementRation) (code_of (kind_of (0x10 + t % 8 * 2))) && eqb ((0x10 + t % 8 * 2) / 2 % 8) (t % 8))
unfolding shift_test kind_of pick
shift_known t = below shift_test 8 tt (t % 8) (mod-lt t (omega arith))

flags_back : (o c e k : Bool) (i n : ℕ)
    → (kind_of (first_byte (Data o c e k i n)) ≡ Some kind.Data) × (decoded kind.Data (first_byte (Data o c e k i n)) i n ≡ Data o c e k (i % 128) n)
unfolding kind_of pick
flags_back true true true true i n = (refl, refl)
flags_back true true true false i n = (refl, refl)
flags_back true true false true i n = (refl, refl)
flags_back true true false false i n = (refl, refl)
flags_back true false true true i n = (refl, refl)
flags_back true false true false i n = (refl, refl)
flags_back true false false true i n = (refl, refl)
flags_back true false false false i n = (refl, refl)
flags_back false true true true i n = (refl, refl)
flags_back false true true false i n = (refl, refl)
flags_back false true false true i n = (refl, refl)
flags_back false true false false i n = (refl, refl)
flags_back false false true true i n = (refl, refl)
flags_back false false true false i n = (refl, refl)
flags_back false false false true i n = (refl, refl)
flags_back false false false false i n = (refl, refl)

partial_back : (p : Bool) (i n : ℕ)
    → (kind_of (first_byte (Abort p i n)) ≡ Some kind.Abort) × (decoded kind.Abort (first_byte (Abort p i n)) i n ≡ Abort p (i % 128) n)
unfolding kind_of pick
partial_back true i n = (refl, refl)
partial_back false i n = (refl, refl)

first_names : (m : Message) → kind_of (first_byte m) ≡ Some (kind_of_message m)
unfolding kind_of pick
first_names (NoOperation n) = refl
first_names (Shutdown n) = refl
first_names (Ping n) = refl
first_names (PingAck n) = refl
first_names (Error n) = refl
first_names (IncrementRation t i n) =
    sym (same (Some kind.IncrementRation) (kind_of (0x10 + t % 8 * 2)) (T-first (eqb (code kind.IncrementRation) (code_of (kind_of (0x10 + t % 8 * 2)))) (eqb ((0x10 + t % 8 * 2) / 2 % 8) (t % 8)) (shift_known t)))
first_names (Abort p i n) = (partial_back p i n).0
first_names (Close i) = refl
first_names (Acknowledgment i) = refl
first_names (Data o c e k i n) = (flags_back o c e k i n).0

decoded_back : (m : Message) → shift_of m < 8 → second_byte m < 128 → decoded (kind_of_message m) (first_byte m) (second_byte m) (number_of m) ≡ m
decoded_back (NoOperation n) s h = refl
decoded_back (Shutdown n) s h = refl
decoded_back (Ping n) s h = refl
decoded_back (PingAck n) s h = refl
decoded_back (Error n) s h = refl
decoded_back (IncrementRation t i n) s h =
    rw (eqb→eq ((0x10 + t % 8 * 2) / 2 % 8) (t % 8) (T-second (eqb (code kind.IncrementRation) (code_of (kind_of (0x10 + t % 8 * 2)))) (eqb ((0x10 + t % 8 * 2) / 2 % 8) (t % 8)) (shift_known t)), mod-eq_of_lt h, mod-eq_of_lt s)
decoded_back (Abort p i n) s h = (partial_back p i n).1 ∙ rw (mod-eq_of_lt h)
decoded_back (Close i) s h = ap Close (mod-eq_of_lt h)
decoded_back (Acknowledgment i) s h = ap Acknowledgment (mod-eq_of_lt h)
decoded_back (Data o c e k i n) s h = (flags_back o c e k i n).1 ∙ rw (mod-eq_of_lt h)

clear_back : (m : Message) → second_byte m < 128 → clear (kind_of_message m) (second_byte m) (number_of m / 256) (number_of m % 256) ≡ true
clear_back (NoOperation n) h = refl
clear_back (Shutdown n) h = refl
clear_back (Ping n) h = refl
clear_back (PingAck n) h = refl
clear_back (Error n) h = refl
clear_back (IncrementRation t i n) h = lt-ltb i 128 h
clear_back (Abort p i n) h = lt-ltb i 128 h
clear_back (Close i) h = and_both (and_both (lt-ltb i 128 h) refl) refl
clear_back (Acknowledgment i) h = and_both (and_both (lt-ltb i 128 h) refl) refl
clear_back (Data o c e k i n) h = lt-ltb i 128 h

-- the header of a message whose items fit is read as the message, where its sender may send it
pub header_reads : (from : Role) (m : Message) → shift_of m < 8 → second_byte m < 128 → number_of m < 65_536
    → may_send from (kind_of_message m) ≡ true → flags_allowed from m ≡ true → parse_header from (header m) ≡ ok m
header_reads from m s i n p q =
    let a = first_byte m in
    let b = second_byte m in
    let c = number_of m / 256 in
    let d = number_of m % 256 in
    let hb : second_byte m < 256 = omega arith in
    let hc : number_of m / 256 < 256 = omega arith in
    let hd : number_of m % 256 < 256 = omega arith in
    let named = first_names m in
    sym
    (header_clear from a b c d named
    (sym (fixed_clear a b c d hb hc hd (first_byte_lem m) (kind_of_message m) (kind_of_message m) refl named) ∙ clear_back m i)
    (sym (decoded_back m s i)
    ∙ message_decoded a b c d (first_byte_lem m) hb hc hd (kind_of_message m) (kind_of_message m) (number_of m) refl (sym (joined (number_of m))))
    (allowed_ok from (kind_of_message m) m p q))

-- ---- a message that is read has the header that it is read from

abbrev first_back : Option Kind → ℕ → Bool
first_back (Some k) a = eqb (first_byte (decoded k a 0 0)) a
first_back None a = true

first_alone : (k : Kind) (a b n : ℕ) → first_byte (decoded k a b n) ≡ first_byte (decoded k a 0 0)
first_alone kind.NoOperation a b n = refl
first_alone kind.Shutdown a b n = refl
first_alone kind.Ping a b n = refl
first_alone kind.PingAck a b n = refl
first_alone kind.Error a b n = refl
first_alone kind.IncrementRation a b n = refl
first_alone kind.Abort a b n = refl
first_alone kind.Close a b n = refl
first_alone kind.Acknowledgment a b n = refl
first_alone kind.Data a b n = refl

first_decoded : (a : ℕ) → a < 256 → (k : Kind) (b n : ℕ) → kind_of a ≡ Some k → first_byte (decoded k a b n) ≡ a
unfolding kind_of pick
first_decoded a h k b n e =
    first_alone k a b n
    ∙ eqb→eq (first_byte (decoded k a 0 0)) a
    (subst (λ (m : Option Kind). T (first_back m a)) e (below (λ a. first_back (kind_of a) a) 256 tt a h))

-- what a message has that is decoded from a header with the fixed bits of its type
pub record Decoded (k : Kind) (b n : ℕ) (m : Message) : Type 0 where
  pub second : second_byte m ≡ b
  pub number : number_of m ≡ n
  pub shift : shift_of m < 8
  pub session : second_byte m < 128
  pub kinds : kind_of_message m ≡ k

zero_second : (b n : ℕ) → eqb b 0 ≡ true → 0 ≡ b
zero_second b n e = sym (eqb-true b 0 e)

session_same : (b : ℕ) → ltb b 128 ≡ true → b % 128 ≡ b
session_same b e = mod-eq_of_lt (ltb-true b 128 e)

session_small : (b : ℕ) → b % 128 < 128
session_small b = omega arith

no_number : (b c d : ℕ) → (ltb b 128 && eqb c 0 && eqb d 0) ≡ true → 0 ≡ c * 256 + d
no_number b c d e =
    let p = eqb-true c 0 (and_second (ltb b 128) (eqb c 0) (and_first (ltb b 128 && eqb c 0) (eqb d 0) e)) in
    let q = eqb-true d 0 (and_second (ltb b 128 && eqb c 0) (eqb d 0) e) in
    omega arith

bare_session : (b c d : ℕ) → (ltb b 128 && eqb c 0 && eqb d 0) ≡ true → b % 128 ≡ b
bare_session b c d e = session_same b (and_first (ltb b 128) (eqb c 0) (and_first (ltb b 128 && eqb c 0) (eqb d 0) e))

decoded_has : (k : Kind) (a b c d : ℕ) → clear k b c d ≡ true → Decoded k b (c * 256 + d) (decoded k a b (c * 256 + d))
decoded_has kind.NoOperation a b c d e = record { second = zero_second b c e; number = refl; shift = omega arith; session = omega arith; kinds = refl }
decoded_has kind.Shutdown a b c d e = record { second = zero_second b c e; number = refl; shift = omega arith; session = omega arith; kinds = refl }
decoded_has kind.Ping a b c d e = record { second = zero_second b c e; number = refl; shift = omega arith; session = omega arith; kinds = refl }
decoded_has kind.PingAck a b c d e = record { second = zero_second b c e; number = refl; shift = omega arith; session = omega arith; kinds = refl }
decoded_has kind.Error a b c d e = record { second = zero_second b c e; number = refl; shift = omega arith; session = omega arith; kinds = refl }
decoded_has kind.IncrementRation a b c d e = record { second = session_same b e; number = refl; shift = omega arith; session = session_small b; kinds = refl }
decoded_has kind.Abort a b c d e = record { second = session_same b e; number = refl; shift = omega arith; session = session_small b; kinds = refl }
decoded_has kind.Close a b c d e = record { second = bare_session b c d e; number = no_number b c d e; shift = omega arith; session = session_small b; kinds = refl }
decoded_has kind.Acknowledgment a b c d e = record { second = bare_session b c d e; number = no_number b c d e; shift = omega arith; session = session_small b; kinds = refl }
decoded_has kind.Data a b c d e = record { second = session_same b e; number = refl; shift = omega arith; session = session_small b; kinds = refl }

-- a message that the checks let pass
pub record Passed (from : Role) (k : Kind) (l m : Message) : Type 0 where
  pub is : l ≡ m
  pub sends : may_send from k ≡ true
  pub allows : flags_allowed from l ≡ true

pub passed : (from : Role) (k : Kind) (l m : Message) → allowed from k l ≡ ok m → Passed from k l m
unfolding allowed pick
passed from k l m q = go (may_send from k) (flags_allowed from l) refl refl q
  where
    go : (s f : Bool) → may_send from k ≡ s → flags_allowed from l ≡ f → pick s (pick f (ok l) (violation (fault 24 0))) (violation (fault 23 0)) ≡ ok m → Passed from k l m
    go true true s f p = record { is = ok_same p; sends = s; allows = f }
    go true false s f p = absurd (violation_not_ok p)
    go false true s f p = absurd (violation_not_ok p)
    go false false s f p = absurd (violation_not_ok p)

-- what a message read from four bytes has
pub record Parsed (from : Role) (a b n : ℕ) (m : Message) : Type 0 where
  pub first : first_byte m ≡ a
  pub second : second_byte m ≡ b
  pub number : number_of m ≡ n
  pub shift : shift_of m < 8
  pub session : second_byte m < 128
  pub sender : may_send from (kind_of_message m) ≡ true
  pub flags : flags_allowed from m ≡ true

module _ (from : Role) (a b c d : ℕ) (ha : a < 256) (hb : b < 256) (hc : c < 256) (hd : d < 256) (m : Message) where
  parsed_decoded : (k : Kind) → kind_of a ≡ Some k → clear k b c d ≡ true → may_send from k ≡ true → decoded k a b (c * 256 + d) ≡ m → flags_allowed from m ≡ true → Parsed from a b (c * 256 + d) m
  parsed_decoded k e cl s p f =
      let h = subst (λ (l : Message). Decoded k b (c * 256 + d) l) p (decoded_has k a b c d cl) in
      record {
        first = ap first_byte (sym p) ∙ first_decoded a ha k b (c * 256 + d) e;
        second = h.second;
        number = h.number;
        shift = h.shift;
        session = h.session;
        sender = ap (may_send from) h.kinds ∙ s;
        flags = f;
      }

  known_parsed : (k : Kind) → kind_of a ≡ Some k → typed from (a ∷ b ∷ c ∷ d ∷ []) (Some k) ≡ ok m → Parsed from a b (c * 256 + d) m
  unfolding typed pick
  known_parsed k e q = go (fixed (layout k) (a ∷ b ∷ c ∷ d ∷ [])) refl q
    where
      go : (f : Bool) → fixed (layout k) (a ∷ b ∷ c ∷ d ∷ []) ≡ f
          → pick f (allowed from k (message k (a ∷ b ∷ c ∷ d ∷ []))) (violation (fault 21 (first_wrong (layout k) (a ∷ b ∷ c ∷ d ∷ [])))) ≡ ok m
          → Parsed from a b (c * 256 + d) m
      go true f p =
          let w = passed from k (message k (a ∷ b ∷ c ∷ d ∷ [])) m p in
          parsed_decoded k e (fixed_clear a b c d hb hc hd ha k k refl e ∙ f) w.sends
          (message_decoded a b c d ha hb hc hd k k (c * 256 + d) refl refl ∙ w.is)
          (subst (λ (l : Message). flags_allowed from l ≡ true) w.is w.allows)
      go false f p = absurd (violation_not_ok p)

  pub header_parsed : parse_header from (a ∷ b ∷ c ∷ d ∷ []) ≡ ok m → Parsed from a b (c * 256 + d) m
  unfolding parse_header typed
  header_parsed q = go (kind_of a) refl q
    where
      go : (n : Option Kind) → kind_of a ≡ n → typed from (a ∷ b ∷ c ∷ d ∷ []) n ≡ ok m → Parsed from a b (c * 256 + d) m
      go (Some k) e p = known_parsed k e p
      go None e p = absurd (violation_not_ok p)
