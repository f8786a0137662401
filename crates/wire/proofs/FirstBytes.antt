-- Which type each byte names, computed over the 256 bytes from the table of first bytes.
use Rattle.std.specs.Prelude.{Option, Some, None}
use mathlib.Core.Path.{◌≡◌, refl, ap, sym, ◌∙◌, subst}
use mathlib.Core.Bool.{Bool, true, not, ◌&&◌, ◌||◌}
use mathlib.Core.List.{List, [], ◌∷◌}
use Prim.Native.Nat.{ℕ, ◌<◌, ◌/◌, ◌%◌}
use lib.Dec.{T, eqb, eqb→eq}
use borrow.Author.Tests.{eq-eqb, ne_eqb}
use lib.ListN.{get_or}
use Rattle.laws.specs.Pick.{pick}
use Rattle.wire.specs.declared.Kind.{Kind}
use Rattle.wire.specs.declared.Kind.TheVariants.{NoOperation, Shutdown, Ping, PingAck, Error, IncrementRation, Abort, Close, Acknowledgment, Data}
use Rattle.wire.specs.FirstByte.{kind_of}
use Rattle.laws.proofs.Below.{every, below}
use Rattle.laws.proofs.Tests.{and_both}

-- a number for each type, so that types are compared by computation
abbrev pub code : Kind → ℕ
code NoOperation = 0
code Shutdown = 1
code Ping = 2
code PingAck = 3
code Error = 4
code IncrementRation = 5
code Abort = 6
code Close = 7
code Acknowledgment = 8
code Data = 9

abbrev pub code_of : Option Kind → ℕ
code_of (Some k) = code k
code_of None = 10

abbrev decode : ℕ → Option Kind
decode n =
    get_or
    (Some NoOperation ∷ Some Shutdown ∷ Some Ping ∷ Some PingAck ∷ Some Error ∷ Some IncrementRation ∷ Some Abort
    ∷ Some Close ∷ Some Acknowledgment ∷ Some Data ∷ []) n None

decode_code : (k : Kind) → decode (code k) ≡ Some k
decode_code NoOperation = refl
decode_code Shutdown = refl
decode_code Ping = refl
decode_code PingAck = refl
decode_code Error = refl
decode_code IncrementRation = refl
decode_code Abort = refl
decode_code Close = refl
decode_code Acknowledgment = refl
decode_code Data = refl

decoded : (n : Option Kind) → decode (code_of n) ≡ n
decoded (Some k) = decode_code k
decoded None = refl

pub same : (m n : Option Kind) → T (eqb (code_of m) (code_of n)) → m ≡ n
same m n t = sym (decoded m) ∙ ap decode (eqb→eq (code_of m) (code_of n) t) ∙ decoded n

-- each byte that passes the test names n
abbrev names : (ℕ → Bool) → Option Kind → ℕ → Bool
names f n a = not (f a) || eqb (code_of (kind_of a)) (code_of n)

named : (f : ℕ → Bool) (n : Option Kind) → T (every (names f n) 256) → (a : ℕ) → a < 256 → f a ≡ true → kind_of a ≡ n
named f n t a h e =
    same (kind_of a) n
    (subst (λ (b : Bool). T (not b || eqb (code_of (kind_of a)) (code_of n))) e (below (names f n) 256 t a h))

pub odd_unknown : (a : ℕ) → a < 256 → a % 2 ≡ 1 → kind_of a ≡ None
unfolding kind_of pick
odd_unknown a h e = named (λ a. eqb (a % 2) 1) None tt a h (eq-eqb _ _ e)

-- an even byte whose high bits are those of a type with items in the byte
module _ (a : ℕ) (h : a < 256) (even : a % 2 ≡ 1 → ⊥) where
  ranged : (w v : ℕ) (k : Kind) → T (every (names (λ a. not (eqb (a % 2) 1) && eqb (a / w) v) (Some k)) 256) → a / w ≡ v → kind_of a ≡ Some k
  ranged w v k t e =
      named (λ a. not (eqb (a % 2) 1) && eqb (a / w) v) (Some k) t a h
      (and_both (ap not (ne_eqb _ _ even)) (eq-eqb _ _ e))

  pub increment_ranged : a / 16 ≡ 1 → kind_of a ≡ Some IncrementRation
  unfolding kind_of pick
  increment_ranged e = ranged 16 1 IncrementRation tt e

  pub abort_ranged : a / 4 ≡ 8 → kind_of a ≡ Some Abort
  unfolding kind_of pick
  abort_ranged e = ranged 4 8 Abort tt e

  pub data_ranged : a / 32 ≡ 4 → kind_of a ≡ Some Data
  unfolding kind_of pick
  data_ranged e = ranged 32 4 Data tt e

-- a byte that none of the ranges has
abbrev unranged : ℕ → Bool
unranged a = not (eqb (a / 16) 1) && not (eqb (a / 4) 8) && not (eqb (a / 32) 4)

-- a byte that is not in the list
abbrev absent : List ℕ → ℕ → Bool
absent [] a = true
absent (b ∷ bs) a = not (eqb a b) && absent bs a

abbrev Absent : List ℕ → ℕ → Type 0
Absent [] a = Unit {0}
Absent (b ∷ bs) a = (a ≡ b → ⊥) × Absent bs a

absent_test : (bs : List ℕ) (a : ℕ) → Absent bs a → absent bs a ≡ true
absent_test [] a n = refl
absent_test (b ∷ bs) a n = and_both (ap not (ne_eqb a b n.0)) (absent_test bs a n.1)

-- the bytes that are a type each
abbrev pub single : List ℕ
single = 0x00 ∷ 0x02 ∷ 0x04 ∷ 0x06 ∷ 0x08 ∷ 0x30 ∷ 0x40 ∷ []

pub rest_unknown : (a : ℕ) → a < 256 → (a / 16 ≡ 1 → ⊥) × (a / 4 ≡ 8 → ⊥) × (a / 32 ≡ 4 → ⊥) → Absent single a → kind_of a ≡ None
unfolding kind_of pick
rest_unknown a h r n =
    named (λ a. unranged a && absent single a) None tt a h
    (and_both
    (and_both (and_both (ap not (ne_eqb _ _ r.0)) (ap not (ne_eqb _ _ r.1))) (ap not (ne_eqb _ _ r.2)))
    (absent_test single a n))
