-- What the layout tables say of four header bytes, in sums and tests of each byte, from tests computed over the 256 bytes.
use Rattle.std.specs.Prelude.{Option, Some, None}
use mathlib.Core.Path.{◌≡◌, refl, ap, sym, ◌∙◌, subst}
use mathlib.Core.Bool.{Bool, true, false, ◌&&◌, beq, and-true, and_assoc, true≢false}
use mathlib.Core.List.{List, [], ◌∷◌, ◌++◌}
use Prim.Native.Nat.{ℕ, ◌+◌, ◌*◌, ◌/◌, ◌%◌, ◌<◌}
use native.Mathlib.Omega.{arith}
use lib.Dec.{T, eqb, ltb}
use lib.ListN.{get_or, take, drop, take-append-drop}
use Rattle.wire.specs.declared.Kind.{Kind}
use Rattle.wire.specs.declared.Kind.TheVariants as kind
use Rattle.wire.specs.declared.Message.{Message}
use Rattle.wire.specs.declared.Message.TheVariants.{NoOperation, Shutdown, Ping, PingAck, Error, IncrementRation, Abort, Close, Acknowledgment, Data}
use Rattle.wire.specs.Pattern.{Bit, O, I, x, -, bits, fits, with_bits}
use Rattle.wire.specs.FirstByte.{kind_of}
use Rattle.wire.specs.Layout.{LayoutRow, layout, fixed, first_wrong, has_item, item, message, body, length}
use Rattle.wire.specs.Message.{body_length}
use Rattle.wire.specs.Connection.{connection_layout}
use Rattle.laws.specs.Pick.{pick}
use Rattle.laws.proofs.Below.{every, below, below_number, below_test}
use Rattle.laws.proofs.Pick.{yes, no}
use Rattle.laws.proofs.Tests.{T_true, and_first, and_second, and_same}

-- a byte as its eight bits
byte_bits : (a : ℕ) → a < 256 → with_bits (bits x x x x x x x x) 128 a 0 ≡ a
byte_bits = below_number (λ a. with_bits (bits x x x x x x x x) 128 a 0) (λ a. a) 256 tt

shifted : (n p q r s t u v w : ℕ)
    → (((((((n * 2 + p) * 2 + q) * 2 + r) * 2 + s) * 2 + t) * 2 + u) * 2 + v) * 2 + w
    ≡ n * 256 + ((((((((0 * 2 + p) * 2 + q) * 2 + r) * 2 + s) * 2 + t) * 2 + u) * 2 + v) * 2 + w)
shifted n p q r s t u v w = omega arith

-- a byte behind a number
pub byte_behind : (n a : ℕ) → a < 256 → with_bits (bits x x x x x x x x) 128 a n ≡ n * 256 + a
byte_behind n a h =
    shifted n (a / 128 % 2) (a / 64 % 2) (a / 32 % 2) (a / 16 % 2) (a / 8 % 2) (a / 4 % 2) (a / 2 % 2) (a / 1 % 2)
    ∙ ap (λ (b : ℕ). n * 256 + b) (byte_bits a h)

-- the 16-bit number in two bytes
pub two_bytes : (c d : ℕ) → c < 256 → d < 256 → with_bits (bits x x x x x x x x) 128 d (with_bits (bits x x x x x x x x) 128 c 0) ≡ c * 256 + d
two_bytes c d hc hd = byte_behind _ d hd ∙ ap (λ (n : ℕ). n * 256 + d) (byte_bits c hc)

low_seven : (b : ℕ) → b < 256 → with_bits (bits - x x x x x x x) 128 b 0 ≡ b % 128
low_seven = below_number (λ b. with_bits (bits - x x x x x x x) 128 b 0) (λ b. b % 128) 256 tt

shift_bits : (a : ℕ) → a < 256 → with_bits (bits - - - - x x x -) 128 a 0 ≡ a / 2 % 8
shift_bits = below_number (λ a. with_bits (bits - - - - x x x -) 128 a 0) (λ a. a / 2 % 8) 256 tt

flag_16 : (a : ℕ) → a < 256 → eqb (with_bits (bits - - - x - - - -) 128 a 0) 1 ≡ eqb (a / 16 % 2) 1
flag_16 = below_test (λ a. eqb (with_bits (bits - - - x - - - -) 128 a 0) 1) (λ a. eqb (a / 16 % 2) 1) 256 tt

flag_8 : (a : ℕ) → a < 256 → eqb (with_bits (bits - - - - x - - -) 128 a 0) 1 ≡ eqb (a / 8 % 2) 1
flag_8 = below_test (λ a. eqb (with_bits (bits - - - - x - - -) 128 a 0) 1) (λ a. eqb (a / 8 % 2) 1) 256 tt

flag_4 : (a : ℕ) → a < 256 → eqb (with_bits (bits - - - - - x - -) 128 a 0) 1 ≡ eqb (a / 4 % 2) 1
flag_4 = below_test (λ a. eqb (with_bits (bits - - - - - x - -) 128 a 0) 1) (λ a. eqb (a / 4 % 2) 1) 256 tt

flag_2 : (a : ℕ) → a < 256 → eqb (with_bits (bits - - - - - - x -) 128 a 0) 1 ≡ eqb (a / 2 % 2) 1
flag_2 = below_test (λ a. eqb (with_bits (bits - - - - - - x -) 128 a 0) 1) (λ a. eqb (a / 2 % 2) 1) 256 tt

zero_byte : (b : ℕ) → b < 256 → fits (bits O O O O O O O O) 128 b ≡ eqb b 0
zero_byte = below_test (fits (bits O O O O O O O O) 128) (λ b. eqb b 0) 256 tt

top_bit : (b : ℕ) → b < 256 → fits (bits O - - - - - - -) 128 b ≡ ltb b 128
top_bit = below_test (fits (bits O - - - - - - -) 128) (λ b. ltb b 128) 256 tt

-- ---- the bits that a layout fixes

-- how many rows of a layout, its first ones, describe the first byte
abbrev first_rows : Kind → ℕ
first_rows kind.NoOperation = 1
first_rows kind.Shutdown = 1
first_rows kind.Ping = 1
first_rows kind.PingAck = 1
first_rows kind.Error = 1
first_rows kind.IncrementRation = 3
first_rows kind.Abort = 3
first_rows kind.Close = 1
first_rows kind.Acknowledgment = 1
first_rows kind.Data = 6

fixed_append : (rs qs : List LayoutRow) (h : List ℕ) → fixed (rs ++ qs) h ≡ (fixed rs h && fixed qs h)
fixed_append [] qs h = refl
fixed_append (r ∷ rs) qs h = ap (λ (b : Bool). fits r.pattern 128 (get_or h r.offset 0) && b) (fixed_append rs qs h)
    ∙ sym (and_assoc (fits r.pattern 128 (get_or h r.offset 0)) (fixed rs h) (fixed qs h))

abbrev first_fixed : Option Kind → ℕ → Bool
first_fixed (Some k) a = fixed (take (first_rows k) (layout k)) (a ∷ [])
first_fixed None a = true

-- a byte that names a type is as that type's layout fixes its first byte
first_fixed_lem : (a : ℕ) → a < 256 → (k : Kind) → kind_of a ≡ Some k → fixed (take (first_rows k) (layout k)) (a ∷ []) ≡ true
unfolding kind_of pick
first_fixed_lem a h k e =
    T_true _ (subst (λ (n : Option Kind). T (first_fixed n a)) e (below (λ a. first_fixed (kind_of a) a) 256 tt a h))

module _ (a b c d : ℕ) where
  first_only : (k : Kind) → fixed (take (first_rows k) (layout k)) (a ∷ b ∷ c ∷ d ∷ []) ≡ fixed (take (first_rows k) (layout k)) (a ∷ [])
  first_only kind.NoOperation = refl
  first_only kind.Shutdown = refl
  first_only kind.Ping = refl
  first_only kind.PingAck = refl
  first_only kind.Error = refl
  first_only kind.IncrementRation = refl
  first_only kind.Abort = refl
  first_only kind.Close = refl
  first_only kind.Acknowledgment = refl
  first_only kind.Data = refl

-- whether the second byte and the number are as the layout fixes them
abbrev pub clear : Kind → ℕ → ℕ → ℕ → Bool
clear kind.NoOperation b c d = eqb b 0
clear kind.Shutdown b c d = eqb b 0
clear kind.Ping b c d = eqb b 0
clear kind.PingAck b c d = eqb b 0
clear kind.Error b c d = eqb b 0
clear kind.IncrementRation b c d = ltb b 128
clear kind.Abort b c d = ltb b 128
clear kind.Close b c d = ltb b 128 && eqb c 0 && eqb d 0
clear kind.Acknowledgment b c d = ltb b 128 && eqb c 0 && eqb d 0
clear kind.Data b c d = ltb b 128

module _ (a b c d : ℕ) (hb : b < 256) (hc : c < 256) (hd : d < 256) where
  bare : (fits (bits O - - - - - - -) 128 b && (fits (bits O O O O O O O O) 128 c && (fits (bits O O O O O O O O) 128 d && true))) ≡ (ltb b 128 && eqb c 0 && eqb d 0)
  bare = and_same (top_bit b hb) (and_same (zero_byte c hc) (and-true _ ∙ zero_byte d hd)) ∙ sym (and_assoc (ltb b 128) (eqb c 0) (eqb d 0))

  rest_fixed : (k : Kind) → fixed (drop (first_rows k) (layout k)) (a ∷ b ∷ c ∷ d ∷ []) ≡ clear k b c d
  rest_fixed kind.NoOperation = and-true _ ∙ zero_byte b hb
  rest_fixed kind.Shutdown = and-true _ ∙ zero_byte b hb
  rest_fixed kind.Ping = and-true _ ∙ zero_byte b hb
  rest_fixed kind.PingAck = and-true _ ∙ zero_byte b hb
  rest_fixed kind.Error = and-true _ ∙ zero_byte b hb
  rest_fixed kind.IncrementRation = and-true _ ∙ top_bit b hb
  rest_fixed kind.Abort = and-true _ ∙ top_bit b hb
  rest_fixed kind.Close = bare
  rest_fixed kind.Acknowledgment = bare
  rest_fixed kind.Data = and-true _ ∙ top_bit b hb

  pub fixed_clear : a < 256 → (k j : Kind) → k ≡ j → kind_of a ≡ Some k → clear j b c d ≡ fixed (layout k) (a ∷ b ∷ c ∷ d ∷ [])
  fixed_clear ha k j p e =
      ap (λ (i : Kind). clear i b c d) (sym p) ∙ sym (rest_fixed k)
      ∙ sym
      (ap (λ (rs : List LayoutRow). fixed rs (a ∷ b ∷ c ∷ d ∷ [])) (sym (take-append-drop (first_rows k) (layout k)))
      ∙ fixed_append (take (first_rows k) (layout k)) _ _
      ∙ ap (λ (t : Bool). t && fixed (drop (first_rows k) (layout k)) (a ∷ b ∷ c ∷ d ∷ [])) (first_only a b c d k ∙ first_fixed_lem a ha k e))

-- ---- the first byte that is not as a layout fixes it

-- rows that the header fits are passed over
passed_over : (rs qs : List LayoutRow) (h : List ℕ) → fixed rs h ≡ true → first_wrong (rs ++ qs) h ≡ first_wrong qs h
unfolding first_wrong
passed_over [] qs h e = refl
passed_over (r ∷ rs) qs h e =
    let f = fits r.pattern 128 (get_or h r.offset 0) in
    yes f _ _ (and_first f (fixed rs h) e) ∙ passed_over rs qs h (and_second f (fixed rs h) e)

-- the place of the first wrong byte behind the first one, where one is wrong
abbrev pub wrong_place : Kind → ℕ → ℕ → ℕ
wrong_place kind.NoOperation b c = 1
wrong_place kind.Shutdown b c = 1
wrong_place kind.Ping b c = 1
wrong_place kind.PingAck b c = 1
wrong_place kind.Error b c = 1
wrong_place kind.IncrementRation b c = 1
wrong_place kind.Abort b c = 1
wrong_place kind.Close b c = pick (ltb b 128) (pick (eqb c 0) 3 2) 1
wrong_place kind.Acknowledgment b c = pick (ltb b 128) (pick (eqb c 0) 3 2) 1
wrong_place kind.Data b c = 1

last_wrong : (p q r : Bool) → (p && q && r) ≡ false → ◌≡◌ {A = ℕ} (pick p (pick q (pick r 0 3) 2) 1) (pick p (pick q 3 2) 1)
unfolding pick
last_wrong false q r e = refl
last_wrong true false r e = refl
last_wrong true true false e = refl
last_wrong true true true e = absurd (true≢false e)

module _ (a b c d : ℕ) (hb : b < 256) (hc : c < 256) (hd : d < 256) where
  bare_place_lem : {f g i : Bool} → f ≡ ltb b 128 → g ≡ eqb c 0 → i ≡ eqb d 0 → (ltb b 128 && eqb c 0 && eqb d 0) ≡ false
      → ◌≡◌ {A = ℕ} (pick f (pick g (pick i 0 3) 2) 1) (pick (ltb b 128) (pick (eqb c 0) 3 2) 1)
  bare_place_lem p q r e = rw (p, q, r) (last_wrong (ltb b 128) (eqb c 0) (eqb d 0) e)

  rest_wrong : (k : Kind) → clear k b c d ≡ false → first_wrong (drop (first_rows k) (layout k)) (a ∷ b ∷ c ∷ d ∷ []) ≡ wrong_place k b c
  unfolding first_wrong pick
  rest_wrong kind.NoOperation e = no _ _ _ (zero_byte b hb ∙ e)
  rest_wrong kind.Shutdown e = no _ _ _ (zero_byte b hb ∙ e)
  rest_wrong kind.Ping e = no _ _ _ (zero_byte b hb ∙ e)
  rest_wrong kind.PingAck e = no _ _ _ (zero_byte b hb ∙ e)
  rest_wrong kind.Error e = no _ _ _ (zero_byte b hb ∙ e)
  rest_wrong kind.IncrementRation e = no _ _ _ (top_bit b hb ∙ e)
  rest_wrong kind.Abort e = no _ _ _ (top_bit b hb ∙ e)
  rest_wrong kind.Close e = bare_place_lem (top_bit b hb) (zero_byte c hc) (zero_byte d hd) e
  rest_wrong kind.Acknowledgment e = bare_place_lem (top_bit b hb) (zero_byte c hc) (zero_byte d hd) e
  rest_wrong kind.Data e = no _ _ _ (top_bit b hb ∙ e)

  pub place_is : a < 256 → (k : Kind) → kind_of a ≡ Some k → fixed (layout k) (a ∷ b ∷ c ∷ d ∷ []) ≡ false
      → wrong_place k b c ≡ first_wrong (layout k) (a ∷ b ∷ c ∷ d ∷ [])
  place_is ha k e f =
      let h = a ∷ b ∷ c ∷ d ∷ [] in
      sym
      (ap (λ (rs : List LayoutRow). first_wrong rs h) (sym (take-append-drop (first_rows k) (layout k)))
      ∙ passed_over (take (first_rows k) (layout k)) (drop (first_rows k) (layout k)) h (first_only a b c d k ∙ first_fixed_lem a ha k e)
      ∙ rest_wrong k (fixed_clear a b c d hb hc hd ha k k refl e ∙ f))

-- ---- the items that a layout has

-- the message of each type, from the first byte, the second and the number
abbrev pub decoded : Kind → ℕ → ℕ → ℕ → Message
decoded kind.NoOperation a b n = NoOperation n
decoded kind.Shutdown a b n = Shutdown n
decoded kind.Ping a b n = Ping n
decoded kind.PingAck a b n = PingAck n
decoded kind.Error a b n = Error n
decoded kind.IncrementRation a b n = IncrementRation (a / 2 % 8) (b % 128) n
decoded kind.Abort a b n = Abort (eqb (a / 2 % 2) 1) (b % 128) n
decoded kind.Close a b n = Close (b % 128)
decoded kind.Acknowledgment a b n = Acknowledgment (b % 128)
decoded kind.Data a b n = Data (eqb (a / 16 % 2) 1) (eqb (a / 8 % 2) 1) (eqb (a / 4 % 2) 1) (eqb (a / 2 % 2) 1) (b % 128) n

increment_same : {s s' i i' n n' : ℕ} → s ≡ s' → i ≡ i' → n ≡ n' → IncrementRation s i n ≡ IncrementRation s' i' n'
increment_same p q r = cc

abort_same : {p p' : Bool} {i i' n n' : ℕ} → p ≡ p' → i ≡ i' → n ≡ n' → Abort p i n ≡ Abort p' i' n'
abort_same p q r = cc

pub data_same : {o o' c c' e e' k k' : Bool} {i i' n n' : ℕ} → o ≡ o' → c ≡ c' → e ≡ e' → k ≡ k' → i ≡ i' → n ≡ n' → Data o c e k i n ≡ Data o' c' e' k' i' n'
data_same p q r s t u = cc

module _ (a b c d : ℕ) (ha : a < 256) (hb : b < 256) (hc : c < 256) (hd : d < 256) where
  items : (k : Kind) → message k (a ∷ b ∷ c ∷ d ∷ []) ≡ decoded k a b (c * 256 + d)
  unfolding pick
  items kind.NoOperation = ap NoOperation (two_bytes c d hc hd)
  items kind.Shutdown = ap Shutdown (two_bytes c d hc hd)
  items kind.Ping = ap Ping (two_bytes c d hc hd)
  items kind.PingAck = ap PingAck (two_bytes c d hc hd)
  items kind.Error = ap Error (two_bytes c d hc hd)
  items kind.IncrementRation = increment_same (shift_bits a ha) (low_seven b hb) (two_bytes c d hc hd)
  items kind.Abort = abort_same (flag_2 a ha) (low_seven b hb) (two_bytes c d hc hd)
  items kind.Close = ap Close (low_seven b hb)
  items kind.Acknowledgment = ap Acknowledgment (low_seven b hb)
  items kind.Data =
      data_same (flag_16 a ha) (flag_8 a ha) (flag_4 a ha) (flag_2 a ha) (low_seven b hb) (two_bytes c d hc hd)

  pub message_decoded : (k j : Kind) (n : ℕ) → k ≡ j → n ≡ c * 256 + d → decoded j a b n ≡ message k (a ∷ b ∷ c ∷ d ∷ [])
  message_decoded k j n p q = same p q ∙ sym (items k)
    where
      same : k ≡ j → n ≡ c * 256 + d → decoded j a b n ≡ decoded k a b (c * 256 + d)
      same p q = rw (p, q)

-- bytes follow the header exactly where the layout has a row for them, and as many as the length says
pub body_follows : (k : Kind) (h : List ℕ) → body_length (message k h) ≡ pick (has_item body (layout k)) (item k length h) 0
unfolding pick
body_follows kind.NoOperation h = refl
body_follows kind.Shutdown h = refl
body_follows kind.Ping h = refl
body_follows kind.PingAck h = refl
body_follows kind.Error h = refl
body_follows kind.IncrementRation h = refl
body_follows kind.Abort h = refl
body_follows kind.Close h = refl
body_follows kind.Acknowledgment h = refl
body_follows kind.Data h = refl

-- ---- the connection header

exact : (p : List Bit) (v : ℕ) → T (every (λ a. beq (fits p 128 a) (eqb a v)) 256) → (a : ℕ) → a < 256 → fits p 128 a ≡ eqb a v
exact p v t = below_test (fits p 128) (λ a. eqb a v) 256 t

regroup : (a b c d v r : Bool) → (((a && b) && (c && d)) && v) && r ≡ a && (b && (c && (d && (v && (r && true)))))
regroup false b c d v r = refl
regroup true false c d v r = refl
regroup true true false d v r = refl
regroup true true true false v r = refl
regroup true true true true false r = refl
regroup true true true true true r = sym (and-true r)

pub header_fixed : (a b c d v r : ℕ) → a < 256 → b < 256 → c < 256 → d < 256 → v < 256 → r < 256 → (h l : ℕ)
    → (((eqb a 0x4A && eqb b 0x6D) && (eqb c 0x75 && eqb d 0x78)) && eqb v 0x01) && eqb r 0x00
    ≡ fixed connection_layout (a ∷ b ∷ c ∷ d ∷ v ∷ h ∷ l ∷ r ∷ [])
header_fixed a b c d v r ha hb hc hd hv hr h l =
    regroup (eqb a 0x4A) (eqb b 0x6D) (eqb c 0x75) (eqb d 0x78) (eqb v 0x01) (eqb r 0x00)
    ∙ sym
    (and_same (exact (bits O I O O I O I O) 0x4A tt a ha)
    (and_same (exact (bits O I I O I I O I) 0x6D tt b hb)
    (and_same (exact (bits O I I I O I O I) 0x75 tt c hc)
    (and_same (exact (bits O I I I I O O O) 0x78 tt d hd)
    (and_same (exact (bits O O O O O O O I) 0x01 tt v hv) (and_same (zero_byte r hr) refl))))))

-- the place of the first of the six bytes that the layout fixes and that is not as it fixes it
abbrev pub first_of_six : Bool → Bool → Bool → Bool → Bool → Bool → ℕ
first_of_six p q r s t u = pick p (pick q (pick r (pick s (pick t (pick u 0 7) 4) 3) 2) 1) 0

last_of_six : (p q r s t u : Bool) → (p && (q && (r && (s && (t && (u && true)))))) ≡ false → first_of_six p q r s t false ≡ first_of_six p q r s t u
unfolding pick
last_of_six false q r s t u e = refl
last_of_six true false r s t u e = refl
last_of_six true true false s t u e = refl
last_of_six true true true false t u e = refl
last_of_six true true true true false u e = refl
last_of_six true true true true true false e = refl
last_of_six true true true true true true e = absurd (true≢false e)

-- the place, by tests of five bytes, where one of the six is wrong
pub header_wrong : (a b c d v : ℕ) → a < 256 → b < 256 → c < 256 → d < 256 → v < 256 → (h l r : ℕ)
    → fixed connection_layout (a ∷ b ∷ c ∷ d ∷ v ∷ h ∷ l ∷ r ∷ []) ≡ false
    → first_of_six (eqb a 0x4A) (eqb b 0x6D) (eqb c 0x75) (eqb d 0x78) (eqb v 0x01) false
    ≡ first_wrong connection_layout (a ∷ b ∷ c ∷ d ∷ v ∷ h ∷ l ∷ r ∷ [])
unfolding first_wrong pick
header_wrong a b c d v ha hb hc hd hv h l r e =
    sym
    (same (exact (bits O I O O I O I O) 0x4A tt a ha) (exact (bits O I I O I I O I) 0x6D tt b hb) (exact (bits O I I I O I O I) 0x75 tt c hc)
    (exact (bits O I I I I O O O) 0x78 tt d hd) (exact (bits O O O O O O O I) 0x01 tt v hv))
    ∙ last_of_six (fits (bits O I O O I O I O) 128 a) (fits (bits O I I O I I O I) 128 b) (fits (bits O I I I O I O I) 128 c)
    (fits (bits O I I I I O O O) 128 d) (fits (bits O O O O O O O I) 128 v) (fits (bits O O O O O O O O) 128 r) e
  where
    same : {p p' q q' s s' t t' u u' : Bool} → p ≡ p' → q ≡ q' → s ≡ s' → t ≡ t' → u ≡ u' → first_of_six p q s t u false ≡ first_of_six p' q' s' t' u' false
    same e f g i j = rw (e, f, g, i, j)
