-- Each way through the checks of a header is what the definitions say of its four bytes.
use Rattle.std.specs.Prelude.{Some}
use mathlib.Core.Path.{◌≡◌, refl, ap, sym, ◌∙◌}
use mathlib.Core.Bool.{Bool, true, false, ◌&&◌}
use mathlib.Core.List.{List, [], ◌∷◌}
use Prim.Native.Nat.{ℕ, ◌*◌, ◌+◌, ◌/◌, ◌%◌, ◌<◌, ◌≤◌}
use native.Mathlib.Omega.{arith}
use lib.Dec.{ltb, eqb}
use borrow.Author.Tests.{ltb-true, eq-eqb, ne_eqb, le-leb, lt-leb}
use Rattle.laws.specs.Pick.{pick}
use Rattle.laws.specs.Result.{fault, Result, ok, refused, violation}
use Rattle.laws.proofs.Pick.{yes, no}
use Rattle.wire.specs.declared.Role.{Role}
use Rattle.wire.specs.declared.Kind.{Kind}
use Rattle.wire.specs.declared.Kind.TheVariants as kind
use Rattle.wire.specs.declared.Message.{Message}
use Rattle.wire.specs.declared.Message.TheVariants.{IncrementRation, Abort, Close, Acknowledgment, Data}
use Rattle.wire.specs.FirstByte.{kind_of}
use Rattle.wire.specs.Layout.{layout, fixed, message}
use Rattle.wire.specs.Message.{may_send, flags_allowed, allowed, body_length, with_body, parse_header}
use Rattle.wire.proofs.Tables.{clear, wrong_place, decoded, fixed_clear, place_is, message_decoded}
use Rattle.wire.proofs.Reading.{header_clear, header_reserved}
use Rattle.wire_read.specs.Answer.{with_size}
use Rattle.wire_read.specs.Order.{in_order}

-- ---- the body

module _ (have length : ℕ) (m : Message) (e : length ≡ body_length m) where
  pub body_fits : 4 + length ≤ have → (ok m, 4 + length) ≡ with_size (with_body have (ok m))
  body_fits h = rw e (ap with_size (sym (yes _ _ _ (le-leb (4 + body_length m) have (omega (arith, e))))))

  pub body_short : have < 4 + length → with_size (refused 10) ≡ with_size (with_body have (ok m))
  body_short h = ap with_size (sym (no _ _ _ (lt-leb (4 + body_length m) have (omega (arith, e)))))

-- ---- one law for each way

module _ (s f c : Bool) (place : ℕ) (m : Message) where
  pub order_reserved : c ≡ false → violation (fault 21 place) ≡ in_order c place s f m
  unfolding in_order
  order_reserved p = sym (no _ _ _ p)

  pub order_sender : c ≡ true → s ≡ false → violation (fault 23 0) ≡ in_order c place s f m
  unfolding in_order
  order_sender p q = sym (yes _ _ _ p ∙ no _ _ _ q)

  pub order_flags : c ≡ true → s ≡ true → f ≡ false → violation (fault 24 0) ≡ in_order c place s f m
  unfolding in_order
  order_flags p q r = sym (yes _ _ _ p ∙ yes _ _ _ q ∙ no _ _ _ r)

  pub order_taken : c ≡ true → s ≡ true → f ≡ true → ok m ≡ in_order c place s f m
  unfolding in_order
  order_taken p q r = sym (yes _ _ _ p ∙ yes _ _ _ q ∙ yes _ _ _ r)

-- what is left to ask where the reserved bits are clear and the flags are right
pub order_clear : (s : Bool) {f c : Bool} (place : ℕ) (m : Message) → c ≡ true → f ≡ true
    → pick s (ok m) (violation (fault 23 0)) ≡ in_order c place s f m
order_clear true {f} {c} place m p q = yes _ _ _ refl ∙ order_taken true f c place m p refl q
order_clear false {f} {c} place m p q = no _ _ _ refl ∙ order_sender false f c place m p refl

-- ---- the test of a session number, as the code has it

pub no_session : {x t : Bool} → x ≡ t → x ≡ false → t ≡ false
no_session p q = sym p ∙ q

pub a_session : {x t : Bool} → x ≡ t → x ≡ true → t ≡ true
a_session p q = sym p ∙ q

-- ---- a session and nothing else

abbrev bare_clear : ℕ → ℕ → ℕ → Bool
bare_clear b c d = ltb b 128 && eqb c 0 && eqb d 0

-- the place of the first wrong byte, where one is wrong
abbrev bare_place : ℕ → ℕ → ℕ
bare_place b c = pick (ltb b 128) (pick (eqb c 0) 3 2) 1

module _ (s : Bool) (b c d : ℕ) (m : Message) where
  abbrev Bare : Result Message → Type 0
  Bare r = r ≡ in_order (bare_clear b c d) (bare_place b c) s true m

  -- a violation at the place of the first wrong byte
  at_place : (place : ℕ) → bare_place b c ≡ place → bare_clear b c d ≡ false → Bare (violation (fault 21 place))
  at_place place p q = ap (λ (n : ℕ). violation (fault 21 n)) (sym p) ∙ order_reserved s true (bare_clear b c d) (bare_place b c) m q

  pub bare_second : ltb b 128 ≡ false → Bare (violation (fault 21 1))
  bare_second wrong = at_place 1 (no _ _ _ wrong) (rw wrong)

  pub bare_third : ltb b 128 ≡ true → (c ≡ 0 → ⊥) → Bare (violation (fault 21 2))
  bare_third h q = let wrong = ne_eqb c 0 q in at_place 2 (yes _ _ _ h ∙ no _ _ _ wrong) (rw (h, wrong))

  pub bare_fourth : ltb b 128 ≡ true → c ≡ 0 → (d ≡ 0 → ⊥) → Bare (violation (fault 21 3))
  bare_fourth h q r = at_place 3 (yes _ _ _ h ∙ yes _ _ _ (eq-eqb c 0 q)) (rw (h, eq-eqb c 0 q, ne_eqb d 0 r))

  pub bare_clear_lem : ltb b 128 ≡ true → c ≡ 0 → d ≡ 0 → Bare (pick s (ok m) (violation (fault 23 0)))
  bare_clear_lem h q r = order_clear s (bare_place b c) m (rw (h, eq-eqb c 0 q, eq-eqb d 0 r)) refl

-- ---- the items of the types with a session, whose number is below 128 if its reserved bit is clear

same_session : (f : ℕ → Message) {m : Message} (b : ℕ) → ltb b 128 ≡ true → f (b % 128) ≡ m → f b ≡ m
same_session f b t e = let h : b < 128 = ltb-true b 128 t in ap f (omega arith) ∙ e

module _ (a b c d : ℕ) (ha : a < 256) (hb : b < 256) (hc : c < 256) (hd : d < 256) (t : ltb b 128 ≡ true) where
  abbrev header : List ℕ
  header = a ∷ b ∷ c ∷ d ∷ []

  is_decoded : (k : Kind) → decoded k a b (c * 256 + d) ≡ message k header
  is_decoded k = message_decoded a b c d ha hb hc hd k k (c * 256 + d) refl refl

  pub data_items : (i n : ℕ) → i ≡ b → n ≡ c * 256 + d
      → Data (eqb (a / 16 % 2) 1) (eqb (a / 8 % 2) 1) (eqb (a / 4 % 2) 1) (eqb (a / 2 % 2) 1) i n ≡ message kind.Data header
  data_items i n p q =
      rw (p, q)
      (same_session (λ (i : ℕ). Data (eqb (a / 16 % 2) 1) (eqb (a / 8 % 2) 1) (eqb (a / 4 % 2) 1) (eqb (a / 2 % 2) 1) i (c * 256 + d)) b t
      (is_decoded kind.Data))

  pub increment_items : (i n : ℕ) → i ≡ b → n ≡ c * 256 + d → IncrementRation (a / 2 % 8) i n ≡ message kind.IncrementRation header
  increment_items i n p q = rw (p, q) (same_session (λ (i : ℕ). IncrementRation (a / 2 % 8) i (c * 256 + d)) b t (is_decoded kind.IncrementRation))

  pub abort_items : (i n : ℕ) → i ≡ b → n ≡ c * 256 + d → Abort (eqb (a / 2 % 2) 1) i n ≡ message kind.Abort header
  abort_items i n p q = rw (p, q) (same_session (λ (i : ℕ). Abort (eqb (a / 2 % 2) 1) i (c * 256 + d)) b t (is_decoded kind.Abort))

  pub close_items : Close b ≡ message kind.Close header
  close_items = same_session Close b t (is_decoded kind.Close)

  pub acknowledgment_items : Acknowledgment b ≡ message kind.Acknowledgment header
  acknowledgment_items = same_session Acknowledgment b t (is_decoded kind.Acknowledgment)

-- ---- the four bytes of a type

module _ (from : Role) (a b c d : ℕ) (ha : a < 256) (hb : b < 256) (hc : c < 256) (hd : d < 256) (k : Kind) (e : kind_of a ≡ Some k)
    (m : Message) (q : clear k b c d ≡ true → m ≡ message k (a ∷ b ∷ c ∷ d ∷ [])) where
  fixed_is : {t : Bool} → clear k b c d ≡ t → fixed (layout k) (a ∷ b ∷ c ∷ d ∷ []) ≡ t
  fixed_is p = sym (fixed_clear a b c d hb hc hd ha k k refl e) ∙ p

  pub arm_reserved : clear k b c d ≡ false → violation (fault 21 (wrong_place k b c)) ≡ parse_header from (a ∷ b ∷ c ∷ d ∷ [])
  arm_reserved p = header_reserved from a b c d e (fixed_is p) (place_is a b c d hb hc hd ha k e (fixed_is p))

  allowed_read : {r : Result Message} → clear k b c d ≡ true → r ≡ allowed from k m → r ≡ parse_header from (a ∷ b ∷ c ∷ d ∷ [])
  allowed_read p r = header_clear from a b c d e (fixed_is p) (q p) r

  -- the three ways where the reserved bits are clear, with the sender's test as the code has it
  pub arm_clear : {s : Bool} → clear k b c d ≡ true → s ≡ may_send from k
      → pick s (pick (flags_allowed from m) (ok m) (violation (fault 24 0))) (violation (fault 23 0)) ≡ parse_header from (a ∷ b ∷ c ∷ d ∷ [])
  unfolding allowed
  arm_clear p r = rw r (allowed_read p refl)

  pub arm_flags : clear k b c d ≡ true → may_send from k ≡ true → pick (flags_allowed from m) (ok m) (violation (fault 24 0)) ≡ parse_header from (a ∷ b ∷ c ∷ d ∷ [])
  arm_flags p s = sym (yes true _ (violation (fault 23 0)) refl) ∙ arm_clear p (sym s)

  pub arm_taken : clear k b c d ≡ true → may_send from k ≡ true → flags_allowed from m ≡ true → ok m ≡ parse_header from (a ∷ b ∷ c ∷ d ∷ [])
  arm_taken p s f = sym (yes _ _ (violation (fault 24 0)) f) ∙ arm_flags p s

  -- all four ways at once
  pub in_order_lem : {s : Bool} → s ≡ may_send from k
      → in_order (clear k b c d) (wrong_place k b c) s (flags_allowed from m) m ≡ parse_header from (a ∷ b ∷ c ∷ d ∷ [])
  unfolding in_order
  in_order_lem {s} r = go (clear k b c d) refl
    where
      go : (t : Bool) → clear k b c d ≡ t
          → in_order t (wrong_place k b c) s (flags_allowed from m) m ≡ parse_header from (a ∷ b ∷ c ∷ d ∷ [])
      go false p = no _ _ _ refl ∙ arm_reserved p
      go true p = yes _ _ _ refl ∙ arm_clear p r

-- ---- the first bytes without an item

-- a byte that is another one names the type of that one
names : {a n : ℕ} {k : Kind} → a ≡ n → kind_of n ≡ Some k → kind_of a ≡ Some k
names p q = ap kind_of p ∙ q

module _ {a : ℕ} where
  pub no_operation : a ≡ 0x00 → kind_of a ≡ Some kind.NoOperation
  unfolding kind_of pick
  no_operation p = names p refl

  pub shutdown : a ≡ 0x02 → kind_of a ≡ Some kind.Shutdown
  unfolding kind_of pick
  shutdown p = names p refl

  pub ping : a ≡ 0x04 → kind_of a ≡ Some kind.Ping
  unfolding kind_of pick
  ping p = names p refl

  pub ping_ack : a ≡ 0x06 → kind_of a ≡ Some kind.PingAck
  unfolding kind_of pick
  ping_ack p = names p refl

  pub error : a ≡ 0x08 → kind_of a ≡ Some kind.Error
  unfolding kind_of pick
  error p = names p refl

  pub close : a ≡ 0x30 → kind_of a ≡ Some kind.Close
  unfolding kind_of pick
  close p = names p refl

  pub acknowledgment : a ≡ 0x40 → kind_of a ≡ Some kind.Acknowledgment
  unfolding kind_of pick
  acknowledgment p = names p refl

-- the message of a type whose items do not name the session
module _ (a b c d : ℕ) (ha : a < 256) (hb : b < 256) (hc : c < 256) (hd : d < 256) {n : ℕ} (q : n ≡ c * 256 + d) (k : Kind) where
  pub whole_items : decoded k a b n ≡ message k (a ∷ b ∷ c ∷ d ∷ [])
  whole_items = message_decoded a b c d ha hb hc hd k k n refl q
