-- The laws of the words: they tell messages apart, and steps; and the number of a type is its row in the published table.
use mathlib.Core.Path.{◌≡◌, refl, sym, ap, ◌∙◌}
use mathlib.Core.Bool.{Bool, true, false}
use mathlib.Core.List.{List, [], ◌∷◌}
use Prim.Native.Nat.{ℕ, ◌-◌, ◌/◌, ◌%◌}
use native.Mathlib.Omega.{arith}
use lib.Dec.{eqb}
use lib.ListN.{get_or, drop}
use Rattle.laws.specs.Result.{fault, Result, ok, refused, violation}
use Rattle.wire.specs.declared.Role.{Role}
use Rattle.wire.specs.declared.Kind.{Kind}
use Rattle.wire.specs.declared.Kind.TheVariants as kind
use Rattle.wire.specs.declared.Message.{Message}
use Rattle.wire.specs.declared.Message.TheVariants.{NoOperation, Shutdown, Ping, PingAck, Error, IncrementRation, Abort, Close, Acknowledgment, Data}
use Rattle.wire.specs.FirstByte.{TypeRow, type_table}
use Rattle.capture_rules.specs.Place.{message_at, place_after, step_at}
use Rattle.capture_export.specs.Words.{kind_number, data_flags_of, message_words, result_number, fault_in, items_in, step_words}
use Rattle.capture_export.proofs.Numbers.{InRange, in_range_lem}

-- ---- messages

-- a type's row in the published table is the one with its number, counted from 1: whatever 0 would be, it is no type's number
pub in_table : (k : Kind) (none other : TypeRow) → (get_or (none ∷ type_table) (kind_number k) other).kind ≡ k
in_table kind.NoOperation none other = refl
in_table kind.Shutdown none other = refl
in_table kind.Ping none other = refl
in_table kind.PingAck none other = refl
in_table kind.Error none other = refl
in_table kind.IncrementRation none other = refl
in_table kind.Abort none other = refl
in_table kind.Close none other = refl
in_table kind.Acknowledgment none other = refl
in_table kind.Data none other = refl

-- the flag of this worth
flag_at : ℕ → ℕ → Bool
flag_at worth flags = eqb (flags / worth % 2) 1

-- the message of a type with these flags, session and number
message : Kind → ℕ → ℕ → ℕ → Message
message kind.NoOperation f i n = NoOperation n
message kind.Shutdown f i n = Shutdown n
message kind.Ping f i n = Ping n
message kind.PingAck f i n = PingAck n
message kind.Error f i n = Error n
message kind.IncrementRation f i n = IncrementRation f i n
message kind.Abort f i n = Abort (flag_at 1 f) i n
message kind.Close f i n = Close i
message kind.Acknowledgment f i n = Acknowledgment i
message kind.Data f i n = Data (flag_at 1 f) (flag_at 2 f) (flag_at 4 f) (flag_at 8 f) i n

-- the message that words tell
told : List ℕ → Message
told ws =
    message (get_or type_table (get_or ws 0 0 - 1) (record { pattern = []; kind = kind.NoOperation })).kind (get_or ws 1 0) (get_or ws 2 0) (get_or ws 3 0)

data_told : (o c e a : Bool) (i n : ℕ) → message kind.Data (data_flags_of o c e a) i n ≡ Data o c e a i n
unfolding message flag_at
data_told true true true true i n = refl
data_told true true true false i n = refl
data_told true true false true i n = refl
data_told true true false false i n = refl
data_told true false true true i n = refl
data_told true false true false i n = refl
data_told true false false true i n = refl
data_told true false false false i n = refl
data_told false true true true i n = refl
data_told false true true false i n = refl
data_told false true false true i n = refl
data_told false true false false i n = refl
data_told false false true true i n = refl
data_told false false true false i n = refl
data_told false false false true i n = refl
data_told false false false false i n = refl

told_back : (m : Message) → told (message_words m) ≡ m
unfolding told message flag_at
told_back (NoOperation n) = refl
told_back (Shutdown n) = refl
told_back (Ping n) = refl
told_back (PingAck n) = refl
told_back (Error n) = refl
told_back (IncrementRation shift i n) = refl
told_back (Abort true i n) = refl
told_back (Abort false i n) = refl
told_back (Close i) = refl
told_back (Acknowledgment i) = refl
told_back (Data o c e a i n) = data_told o c e a i n

-- no two messages have the same words
pub words_tell : (m l : Message) → message_words m ≡ message_words l → m ≡ l
words_tell m l e = sym (told_back m) ∙ ap told e ∙ told_back l

-- ---- steps

-- no two results whose numbers are in range have the same number, place of the fault and words
results_tell : (r q : Result Message) → InRange r → InRange q → result_number r ≡ result_number q → fault_in r ≡ fault_in q → items_in r ≡ items_in q → r ≡ q
results_tell (ok m) (ok l) h k n f i = ap ok (words_tell m l i)
results_tell (ok m) (refused b) h k n f i = absurd (omega arith)
results_tell (ok m) (violation b) h k n f i = absurd (omega arith)
results_tell (refused a) (ok l) h k n f i = absurd (omega arith)
results_tell (refused a) (refused b) h k n f i = ap refused n
results_tell (refused a) (violation b) h k n f i = absurd (omega arith)
results_tell (violation a) (ok l) h k n f i = absurd (omega arith)
results_tell (violation a) (refused b) h k n f i = absurd (omega arith)
results_tell (violation a) (violation b) h k n f i = λ j. violation (fault (n j) (f j))

-- no two steps have the same words: they tell what is at a place, and the place to read on from
pub step_tells : (from to : Role) (s t : List ℕ) (p q : ℕ) → step_words (step_at from s p) ≡ step_words (step_at to t q) → step_at from s p ≡ step_at to t q
unfolding step_at
step_tells from to s t p q e =
    let r = message_at from s p in
    let o = message_at to t q in
    let same : message_at from s p ≡ message_at to t q =
    results_tell r o (in_range_lem from s p) (in_range_lem to t q) (ap (λ (l : List ℕ). get_or l 0 0) e) (ap (λ (l : List ℕ). get_or l 1 0) e) (ap (drop 3) e) in
    let place : place_after p r ≡ place_after q o = ap (λ (l : List ℕ). get_or l 2 0) e in
    cc
