-- The law of the sum's numbers: they tell the messages of a capture apart.
use Rattle.std.proofs.Common.{◌≡◌, ℕ, ◌+◌, ◌*◌, ◌%◌, ◌^◌, ◌<◌, ◌≤◌, Bool, true, false, List, [], ◌∷◌, length, drop, sym, ap, ◌∙◌, mod-eq_of_lt, arith, get_or-drop}
use native.Mathlib.Nat.{add-mul-mod_self_left}
use Rattle.laws.specs.Result.{ok}
use Rattle.laws.proofs.Lists.{Bytes}
use Rattle.wire.specs.declared.Role.{Role}
use Rattle.wire.specs.declared.Kind.{Kind}
use Rattle.wire.specs.declared.Kind.TheVariants as kind
use Rattle.wire.specs.declared.Message.{Message}
use Rattle.wire.specs.declared.Message.TheVariants.{NoOperation, Shutdown, Ping, PingAck, Error, IncrementRation, Abort, Close, Acknowledgment, Data}
use Rattle.wire.specs.Message.{weight, second_byte, number_of, kind_of_message, body_length, shift_of}
use Rattle.wire.proofs.Laws.{read_writable}
use Rattle.wire.proofs.Writing.{Writable, writable_has}
use Rattle.capture_rules.specs.Place.{message_at}
use Rattle.capture_rules.specs.Reading.{WholeMessage, whole_bytes, MessagesRead, read_all, Exact}
use Rattle.capture_rules.proofs.Laws.{stands, read_exactly}
use Rattle.capture_export.specs.Words.{kind_number, flags_of, result_number, fault_in}
use Rattle.capture_export.proofs.Laws.{words_tell}
use Rattle.capture_scan.specs.Scan.{packed, sum_of, read_words, all_words}

kind_small : (k : Kind) → kind_number k < 16
kind_small kind.NoOperation = omega arith
kind_small kind.Shutdown = omega arith
kind_small kind.Ping = omega arith
kind_small kind.PingAck = omega arith
kind_small kind.Error = omega arith
kind_small kind.IncrementRation = omega arith
kind_small kind.Abort = omega arith
kind_small kind.Close = omega arith
kind_small kind.Acknowledgment = omega arith
kind_small kind.Data = omega arith

weight_small : (w : ℕ) (b : Bool) → weight w b ≤ w
weight_small w true = omega arith
weight_small w false = omega arith

flags_small : (m : Message) → shift_of m < 8 → flags_of m < 16
flags_small (NoOperation n) h = omega arith
flags_small (Shutdown n) h = omega arith
flags_small (Ping n) h = omega arith
flags_small (PingAck n) h = omega arith
flags_small (Error n) h = omega arith
flags_small (IncrementRation shift i n) h = omega arith
flags_small (Abort partial i n) h = omega (arith, weight_small 1 partial)
flags_small (Close i) h = omega arith
flags_small (Acknowledgment i) h = omega arith
flags_small (Data o c e a i n) h = omega (arith, weight_small 1 o, weight_small 2 c, weight_small 4 e, weight_small 8 a)

-- the lowest digit of a number is one
low_same : (k a b x y : ℕ) → a < k → b < k → a + k * x ≡ b + k * y → a ≡ b
low_same k a b x y h l e =
    sym (add-mul-mod_self_left a k x ∙ mod-eq_of_lt h) ∙ ap (λ (n : ℕ). n % k) e ∙ add-mul-mod_self_left b k y ∙ mod-eq_of_lt l

-- no two messages whose shift has 3 bits and whose session has 8 are the same number
pub packed_tells : (m l : Message) → shift_of m < 8 → second_byte m < 256 → shift_of l < 8 → second_byte l < 256 → packed m ≡ packed l → m ≡ l
packed_tells m l hm im hl il e =
    let km = kind_small (kind_of_message m) in
    let kl = kind_small (kind_of_message l) in
    let fm = flags_small m hm in
    let fl = flags_small l hl in
    let above : Message → ℕ = λ x. second_byte x + 256 * number_of x in
    let kinds = low_same 16 (kind_number (kind_of_message m)) (kind_number (kind_of_message l)) (flags_of m + 16 * above m) (flags_of l + 16 * above l) km kl (omega arith) in
    let flags = low_same 16 (flags_of m) (flags_of l) (above m) (above l) fm fl (omega arith) in
    let sessions = low_same 256 (second_byte m) (second_byte l) (number_of m) (number_of l) im il (omega arith) in
    let numbers : number_of m ≡ number_of l = omega arith in
    words_tell m l (cc)

-- a message of a capture can be written
has : (from : Role) (s : List ℕ) → Bytes s → (place : ℕ) (m : Message) → message_at from s place ≡ ok m → Writable from m (body_length m)
has from s bytes place m e =
    writable_has from m (body_length m)
    (read_writable from (drop place s) m (λ i. rw get_or-drop (bytes (place + i))) (stands from s place m e).reads)

-- so no two messages of captures are the same number
pub read_packed_tells : (from to : Role) (s t : List ℕ) → Bytes s → Bytes t → (p q : ℕ) (m l : Message) → message_at from s p ≡ ok m
    → message_at to t q ≡ ok l → packed m ≡ packed l → m ≡ l
read_packed_tells from to s t bs bt p q m l e f same =
    let h = has from s bs p m e in
    let k = has to t bt q l f in
    packed_tells m l h.shift (omega arith) k.shift (omega arith) same

-- the words of messages behind which reading ends at a place
abbrev end_words : Role → List ℕ → List WholeMessage → ℕ → List ℕ
end_words from s ws end =
    result_number (message_at from s end) ∷ fault_in (message_at from s end) ∷ end ∷ length ws ∷ sum_of ws % 2 ^ 64 ∷ []

-- messages that stand one after the other behind 8 bytes, up to an end where there is none, come to these words
pub scan_tells : (from : Role) (s : List ℕ) (r : MessagesRead) → Bytes s → Exact from s 8 r
    → all_words from s ≡ end_words from s r.messages (8 + length (whole_bytes r.messages))
unfolding all_words
scan_tells from s r bytes x =
    let all : read_all from s 8 ≡ r = sym ((read_exactly from s bytes 8 r).1 x) in
    ap (read_words from s) all ∙ ap (end_words from s r.messages) x.ends
