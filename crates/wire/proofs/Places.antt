-- What the readers find is exactly what is wrong with a header: the byte at the place of a 21 or 22 is wrong by the layout, and every byte
-- before it is as the layout fixes it. From the order of the rows, which is that of their bytes.
use Rattle.std.specs.Prelude.{Option, Some, None}
use mathlib.Core.Path.{◌≡◌, refl, sym, ap, ◌∙◌, subst}
use mathlib.Core.Bool.{Bool, true, false, ◌&&◌}
use mathlib.Core.List.{List, [], ◌∷◌}
use Prim.Native.Nat.{ℕ, ◌+◌, ◌<◌, ◌≤◌}
use native.Mathlib.Omega.{arith}
use lib.Dec.{eqb, leb, ltb}
use lib.ListN.{length, get_or, take}
use borrow.Author.Tests.{leb-true, ltb-true, ltb-false, le-ltb, ne_eqb, eq-eqb}
use Rattle.laws.specs.Pick.{pick}
use Rattle.laws.specs.Result.{Fault, fault, Result, ok, refused, violation}
use Rattle.laws.proofs.Pick.{yes, no}
use Rattle.laws.proofs.Tests.{and_first, and_second, and_both, true_false}
use Rattle.laws.proofs.Results.{violation_same, violation_not_ok, violation_not_refused}
use Rattle.wire.specs.declared.Role.{Role}
use Rattle.wire.specs.declared.Kind.{Kind}
use Rattle.wire.specs.declared.Kind.TheVariants as kind
use Rattle.wire.specs.declared.Message.{Message}
use Rattle.wire.specs.Pattern.{O, I, bits, fits}
use Rattle.wire.specs.FirstByte.{kind_of}
use Rattle.wire.specs.Layout.{LayoutRow, layout, fixed, first_wrong, message, digits, initial_ration}
use Rattle.wire.specs.Message.{only_if, may_send, flags_allowed, allowed, typed, parse_header, body_length, with_body, read_message}
use Rattle.wire.specs.Connection.{connection_layout, parse_connection_header, read_connection_header}
use Rattle.wire.specs.Wrong.{reserved_behind, is_header_place, fixed_at, FirstWrongAt, MessageFault, no_type, wrong_bit, wrong_sender, wrong_flags, HeaderFault, wrong_byte}
use Rattle.wire.proofs.Tables.{wrong_place, first_of_six, place_is, header_wrong}

-- ---- rows in the order of their bytes

-- each row is for the byte n or one behind it, and for no byte before that of the row above it
abbrev ordered_from : ℕ → List LayoutRow → Bool
ordered_from n [] = true
ordered_from n (r ∷ rs) = leb n r.offset && ordered_from r.offset rs

layout_ordered : (k : Kind) → ordered_from 0 (layout k) ≡ true
layout_ordered kind.NoOperation = refl
layout_ordered kind.Shutdown = refl
layout_ordered kind.Ping = refl
layout_ordered kind.PingAck = refl
layout_ordered kind.Error = refl
layout_ordered kind.IncrementRation = refl
layout_ordered kind.Abort = refl
layout_ordered kind.Close = refl
layout_ordered kind.Acknowledgment = refl
layout_ordered kind.Data = refl

module _ (h : List ℕ) where
  abbrev row_fits : LayoutRow → Bool
  row_fits r = fits r.pattern 128 (get_or h r.offset 0)

  -- a row for another byte fixes nothing
  other_byte : (t f : Bool) → t ≡ false → only_if t f ≡ true
  other_byte false f e = refl
  other_byte true f e = absurd (true_false refl e)

  -- a row that the header fits is never wrong
  fitting : (t f : Bool) → f ≡ true → only_if t f ≡ true
  fitting false f e = refl
  fitting true f e = e

  -- no row fixes a byte before the first one
  none_before : (n : ℕ) (rs : List LayoutRow) → ordered_from n rs ≡ true → (i : ℕ) → i < n → fixed_at rs h i ≡ true
  none_before n [] o i l = refl
  none_before n (r ∷ rs) o i l =
      let here = leb-true n r.offset (and_first (leb n r.offset) (ordered_from r.offset rs) o) in
      let rest = and_second (leb n r.offset) (ordered_from r.offset rs) o in
      and_both (other_byte _ (row_fits r) (ne_eqb r.offset i (λ e. omega arith))) (none_before r.offset rs rest i (omega arith))

  module _ (r : LayoutRow) (rs : List LayoutRow) where
    -- a row that does not fit, with none before its byte
    wrong_here : row_fits r ≡ false → ordered_from r.offset rs ≡ true → FirstWrongAt (r ∷ rs) h r.offset
    wrong_here e o =
        record {
          wrong = both_false (only_if (eqb r.offset r.offset) (row_fits r)) (fixed_at rs h r.offset) (own (eqb r.offset r.offset) (row_fits r) (eq-eqb r.offset r.offset refl) e);
          before = λ i l. and_both (other_byte _ (row_fits r) (ne_eqb r.offset i (λ e. omega arith))) (none_before r.offset rs o i l);
        }
      where
        both_false : (a b : Bool) → a ≡ false → (a && b) ≡ false
        both_false false b e = refl
        both_false true b e = absurd (true_false refl e)

        own : (t f : Bool) → t ≡ true → f ≡ false → only_if t f ≡ false
        own true f p q = q
        own false f p q = absurd (true_false p refl)

    -- a row that fits, with the first wrong byte in a row below it
    wrong_below : row_fits r ≡ true → (p : ℕ) → FirstWrongAt rs h p → FirstWrongAt (r ∷ rs) h p
    wrong_below e p w =
        record {
          wrong = ap (λ (b : Bool). b && fixed_at rs h p) (fitting (eqb r.offset p) (row_fits r) e) ∙ w.wrong;
          before = λ i l. and_both (fitting (eqb r.offset i) (row_fits r) e) (w.before i l);
        }

  first_wrong_lem : (n : ℕ) (rs : List LayoutRow) → ordered_from n rs ≡ true → fixed rs h ≡ false → FirstWrongAt rs h (first_wrong rs h)
  unfolding first_wrong pick
  first_wrong_lem n [] o e = absurd (true_false refl e)
  first_wrong_lem n (r ∷ rs) o e =
      let rest = and_second (leb n r.offset) (ordered_from r.offset rs) o in
      go (row_fits r) refl rest e (first_wrong_lem r.offset rs rest)
    where
      go : (f : Bool) → row_fits r ≡ f → ordered_from r.offset rs ≡ true → (f && fixed rs h) ≡ false → (fixed rs h ≡ false → FirstWrongAt rs h (first_wrong rs h))
          → FirstWrongAt (r ∷ rs) h (pick f (first_wrong rs h) r.offset)
      go true t q z below = wrong_below r rs t (first_wrong rs h) (below z)
      go false t q z below = wrong_here r rs t q

  -- ---- the place is the only one of which that holds

  fixed_everywhere : (rs : List LayoutRow) → fixed rs h ≡ true → (i : ℕ) → fixed_at rs h i ≡ true
  fixed_everywhere [] e i = refl
  fixed_everywhere (r ∷ rs) e i =
      and_both (fitting (eqb r.offset i) (row_fits r) (and_first (row_fits r) (fixed rs h) e))
      (fixed_everywhere rs (and_second (row_fits r) (fixed rs h) e) i)

  some_wrong : (rs : List LayoutRow) (p : ℕ) → FirstWrongAt rs h p → fixed rs h ≡ false
  some_wrong rs p w = go (fixed rs h) refl
    where
      go : (b : Bool) → fixed rs h ≡ b → b ≡ false
      go true e = absurd (true_false (fixed_everywhere rs e p) w.wrong)
      go false e = refl

  pub one_place : (rs : List LayoutRow) (p q : ℕ) → FirstWrongAt rs h p → FirstWrongAt rs h q → p ≡ q
  one_place rs p q v w = go (ltb p q) refl (ltb q p) refl
    where
      go : (a : Bool) → ltb p q ≡ a → (b : Bool) → ltb q p ≡ b → p ≡ q
      go true e b f = absurd (true_false (w.before p (ltb-true p q e)) v.wrong)
      go false e true f = absurd (true_false (v.before q (ltb-true q p f)) w.wrong)
      go false e false f = let l = ltb-false p q e in let g = ltb-false q p f in omega arith

-- ---- what the readers find

module _ (from : Role) (h : List ℕ) where
  by_flags : (k : Kind) → kind_of (get_or h 0 0) ≡ Some k → fixed (layout k) h ≡ true → (s g : Bool) → may_send from k ≡ s
      → flags_allowed from (message k h) ≡ g → (f : Fault)
      → pick s (pick g (ok (message k h)) (violation (fault 24 0))) (violation (fault 23 0)) ≡ violation f → MessageFault from h f
  unfolding pick
  by_flags k e x true true s g f q = absurd (violation_not_ok (sym q))
  by_flags k e x true false s g f q = subst (λ (z : Fault). MessageFault from h z) (violation_same q) (wrong_flags k e x s g)
  by_flags k e x false g s t f q = subst (λ (z : Fault). MessageFault from h z) (violation_same q) (wrong_sender k e x s)

  by_bits : (k : Kind) → kind_of (get_or h 0 0) ≡ Some k → (b : Bool) → fixed (layout k) h ≡ b → (f : Fault)
      → pick b (allowed from k (message k h)) (violation (fault 21 (first_wrong (layout k) h))) ≡ violation f → MessageFault from h f
  unfolding pick allowed
  by_bits k e true x f q = by_flags k e x (may_send from k) (flags_allowed from (message k h)) refl refl f q
  by_bits k e false x f q =
      subst (λ (z : Fault). MessageFault from h z) (violation_same q)
      (wrong_bit k (first_wrong (layout k) h) e (first_wrong_lem h 0 (layout k) (layout_ordered k) x))

  by_type : (n : Option Kind) → kind_of (get_or h 0 0) ≡ n → (f : Fault) → typed from h n ≡ violation f → MessageFault from h f
  unfolding typed
  by_type (Some k) e f q = by_bits k e (fixed (layout k) h) refl f q
  by_type None e f q = subst (λ (z : Fault). MessageFault from h z) (violation_same q) (no_type e)

  -- the reader of the four header bytes finds what is wrong with them
  pub parsed_fault : (f : Fault) → parse_header from h ≡ violation f → MessageFault from h f
  unfolding parse_header
  parsed_fault f q = by_type (kind_of (get_or h 0 0)) refl f q

  named : {n : Option Kind} → kind_of (get_or h 0 0) ≡ n → parse_header from h ≡ typed from h n
  unfolding parse_header
  named e = ap (typed from h) e

  -- and what is wrong with them is what it finds: each fault is told by its own number and place
  pub fault_parsed : (f : Fault) → MessageFault from h f → parse_header from h ≡ violation f
  unfolding typed allowed
  fault_parsed f (no_type e) = named e
  fault_parsed f (wrong_bit k place e w) =
      let x = some_wrong h (layout k) place w in
      let is = one_place h (layout k) (first_wrong (layout k) h) place (first_wrong_lem h 0 (layout k) (layout_ordered k) x) w in
      named e ∙ no _ _ _ x ∙ ap (λ (p : ℕ). violation (fault 21 p)) is
  fault_parsed f (wrong_sender k e x s) = named e ∙ yes _ _ _ x ∙ no _ _ _ s
  fault_parsed f (wrong_flags k e x s g) = named e ∙ yes _ _ _ x ∙ yes _ _ _ s ∙ no _ _ _ g

  -- in numbers: 20, 23 and 24 are at the first byte
  pub at_first : (f : Fault) → MessageFault from h f → (f.number ≡ 21 → ⊥) → f.place ≡ 0
  at_first f (no_type e) n = refl
  at_first f (wrong_bit k place e w) n = absurd (n refl)
  at_first f (wrong_sender k e x s) n = refl
  at_first f (wrong_flags k e x s g) n = refl

-- the reader of messages, which sees four bytes at least
pub message_fault : (from : Role) (s : List ℕ) (f : Fault) → read_message from s ≡ violation f → (4 ≤ length s) × MessageFault from (take 4 s) f
unfolding read_message pick
message_fault from s f q = go (ltb (length s) 4) refl q
  where
    body : (r : Result Message) → parse_header from (take 4 s) ≡ r → with_body (length s) r ≡ violation f → MessageFault from (take 4 s) f
    body (ok m) e p = cut (leb (4 + body_length m) (length s)) p
      where
        cut : (b : Bool) → pick b (ok m) (refused 10) ≡ violation f → MessageFault from (take 4 s) f
        cut true z = absurd (violation_not_ok (sym z))
        cut false z = absurd (violation_not_refused (sym z))
    body (refused n) e p = absurd (violation_not_refused (sym p))
    body (violation g) e p = parsed_fault from (take 4 s) f (e ∙ p)

    go : (b : Bool) → ltb (length s) 4 ≡ b → pick b (refused 10) (with_body (length s) (parse_header from (take 4 s))) ≡ violation f
        → (4 ≤ length s) × MessageFault from (take 4 s) f
    go true l p = absurd (violation_not_refused (sym p))
    go false l p = (ltb-false (length s) 4 l, body (parse_header from (take 4 s)) refl p)

-- whatever follows them, even if the body is cut short
pub fault_message : (from : Role) (s : List ℕ) (f : Fault) → 4 ≤ length s → MessageFault from (take 4 s) f → read_message from s ≡ violation f
unfolding read_message
fault_message from s f h w = no _ _ _ (le-ltb _ _ h) ∙ ap (with_body (length s)) (fault_parsed from (take 4 s) f w)

-- the reader of the connection header
pub connection_fault : (h : List ℕ) (f : Fault) → parse_connection_header h ≡ violation f → HeaderFault h f
unfolding parse_connection_header pick
connection_fault h f q = go (fixed connection_layout h) refl q
  where
    go : (b : Bool) → fixed connection_layout h ≡ b
        → pick b (ok (digits initial_ration connection_layout h 0)) (violation (fault 22 (first_wrong connection_layout h))) ≡ violation f → HeaderFault h f
    go true e p = absurd (violation_not_ok (sym p))
    go false e p =
        subst (λ (z : Fault). HeaderFault h z) (violation_same p)
        (wrong_byte (first_wrong connection_layout h) (first_wrong_lem h 0 connection_layout refl e))

pub fault_connection : (h : List ℕ) (f : Fault) → HeaderFault h f → parse_connection_header h ≡ violation f
unfolding parse_connection_header
fault_connection h f (wrong_byte place w) =
    let x = some_wrong h connection_layout place w in
    let is = one_place h connection_layout (first_wrong connection_layout h) place (first_wrong_lem h 0 connection_layout refl x) w in
    no _ _ _ x ∙ ap (λ (p : ℕ). violation (fault 22 p)) is

pub header_fault : (s : List ℕ) (f : Fault) → read_connection_header s ≡ violation f → (8 ≤ length s) × HeaderFault (take 8 s) f
unfolding read_connection_header pick
header_fault s f q = go (ltb (length s) 8) refl q
  where
    go : (b : Bool) → ltb (length s) 8 ≡ b → pick b (refused 10) (parse_connection_header (take 8 s)) ≡ violation f → (8 ≤ length s) × HeaderFault (take 8 s) f
    go true l p = absurd (violation_not_refused (sym p))
    go false l p = (ltb-false (length s) 8 l, connection_fault (take 8 s) f p)

pub fault_header : (s : List ℕ) (f : Fault) → 8 ≤ length s → HeaderFault (take 8 s) f → read_connection_header s ≡ violation f
unfolding read_connection_header
fault_header s f h w = no _ _ _ (le-ltb _ _ h) ∙ fault_connection (take 8 s) f w

-- ---- in numbers

among_three : (p q : Bool) → (1 ≤ pick p (pick q 3 2) 1) × (pick p (pick q 3 2) 1 ≤ 3)
unfolding pick
among_three false q = (omega arith, omega arith)
among_three true false = (omega arith, omega arith)
among_three true true = (omega arith, omega arith)

behind_first : (k : Kind) (b c : ℕ) → (1 ≤ wrong_place k b c) × (wrong_place k b c ≤ 3)
unfolding pick
behind_first kind.NoOperation b c = (omega arith, omega arith)
behind_first kind.Shutdown b c = (omega arith, omega arith)
behind_first kind.Ping b c = (omega arith, omega arith)
behind_first kind.PingAck b c = (omega arith, omega arith)
behind_first kind.Error b c = (omega arith, omega arith)
behind_first kind.IncrementRation b c = (omega arith, omega arith)
behind_first kind.Abort b c = (omega arith, omega arith)
behind_first kind.Close b c = among_three (ltb b 128) (eqb c 0)
behind_first kind.Acknowledgment b c = among_three (ltb b 128) (eqb c 0)
behind_first kind.Data b c = (omega arith, omega arith)

-- behind the first byte only reserved bits are fixed
pub behind_reserved : (k : Kind) → reserved_behind (layout k) ≡ true
behind_reserved kind.NoOperation = refl
behind_reserved kind.Shutdown = refl
behind_reserved kind.Ping = refl
behind_reserved kind.PingAck = refl
behind_reserved kind.Error = refl
behind_reserved kind.IncrementRation = refl
behind_reserved kind.Abort = refl
behind_reserved kind.Close = refl
behind_reserved kind.Acknowledgment = refl
behind_reserved kind.Data = refl

-- 21 is at byte 1; of a Close or an Acknowledgment at byte 1 if that is above 127, else at byte 2 if that is not 0, else at byte 3
pub place_21_is : (from : Role) (a b c d p : ℕ) → a < 256 → b < 256 → c < 256 → d < 256 → parse_header from (a ∷ b ∷ c ∷ d ∷ []) ≡ violation (fault 21 p)
    → (k : Kind) × (kind_of a ≡ Some k) × (wrong_place k b c ≡ p)
place_21_is from a b c d p ha hb hc hd q = of_21 (fault 21 p) (parsed_fault from (a ∷ b ∷ c ∷ d ∷ []) (fault 21 p) q) refl
  where
    of_21 : (f : Fault) → MessageFault from (a ∷ b ∷ c ∷ d ∷ []) f → f.number ≡ 21 → (k : Kind) × (kind_of a ≡ Some k) × (wrong_place k b c ≡ f.place)
    of_21 f (no_type e) n = absurd (omega arith)
    of_21 f (wrong_bit k place e w) n =
        let h = a ∷ b ∷ c ∷ d ∷ [] in
        let x = some_wrong h (layout k) place w in
        (k, e, place_is a b c d hb hc hd ha k e x ∙ one_place h (layout k) _ place (first_wrong_lem h 0 (layout k) (layout_ordered k) x) w)
    of_21 f (wrong_sender k e x s) n = absurd (omega arith)
    of_21 f (wrong_flags k e x s g) n = absurd (omega arith)

-- so never at the first byte, which has no type if a bit of it is wrong
pub place_of_21 : (from : Role) (a b c d p : ℕ) → a < 256 → b < 256 → c < 256 → d < 256 → parse_header from (a ∷ b ∷ c ∷ d ∷ []) ≡ violation (fault 21 p)
    → (1 ≤ p) × (p ≤ 3)
place_of_21 from a b c d p ha hb hc hd q =
    let w = place_21_is from a b c d p ha hb hc hd q in
    subst (λ (z : ℕ). (1 ≤ z) × (z ≤ 3)) w.2 (behind_first w.0 b c)

-- 22 is at a byte of the magic number, at the version or at the reserved byte, and never at the header number
among_six : (p q r s t u : Bool) → is_header_place (first_of_six p q r s t u) ≡ true
unfolding pick
among_six false q r s t u = refl
among_six true false r s t u = refl
among_six true true false s t u = refl
among_six true true true false t u = refl
among_six true true true true false u = refl
among_six true true true true true false = refl
among_six true true true true true true = refl

header_place : (h : List ℕ) → is_header_place (first_wrong connection_layout h) ≡ true
unfolding first_wrong pick
header_place h =
    among_six (fits (bits O I O O I O I O) 128 (get_or h 0 0)) (fits (bits O I I O I I O I) 128 (get_or h 1 0)) (fits (bits O I I I O I O I) 128 (get_or h 2 0))
    (fits (bits O I I I I O O O) 128 (get_or h 3 0)) (fits (bits O O O O O O O I) 128 (get_or h 4 0)) (fits (bits O O O O O O O O) 128 (get_or h 7 0))

pub place_of_22 : (h : List ℕ) (f : Fault) → parse_connection_header h ≡ violation f → (f.number ≡ 22) × (is_header_place f.place ≡ true)
unfolding parse_connection_header pick
place_of_22 h f q = go (fixed connection_layout h) q
  where
    go : (b : Bool) → pick b (ok (digits initial_ration connection_layout h 0)) (violation (fault 22 (first_wrong connection_layout h))) ≡ violation f
        → (f.number ≡ 22) × (is_header_place f.place ≡ true)
    go true p = absurd (violation_not_ok (sym p))
    go false p =
        let same = violation_same p in
        (sym (ap (λ (z : Fault). z.number) same), subst (λ (z : Fault). is_header_place z.place ≡ true) same (header_place h))

-- exactly: at the first of bytes 0 to 4 that is not 4A, 6D, 75, 78, 01, else at byte 7
pub place_22_is : (a b c d v : ℕ) → a < 256 → b < 256 → c < 256 → d < 256 → v < 256 → (h l r p : ℕ)
    → parse_connection_header (a ∷ b ∷ c ∷ d ∷ v ∷ h ∷ l ∷ r ∷ []) ≡ violation (fault 22 p)
    → p ≡ pick (eqb a 0x4A) (pick (eqb b 0x6D) (pick (eqb c 0x75) (pick (eqb d 0x78) (pick (eqb v 0x01) 7 4) 3) 2) 1) 0
unfolding pick
place_22_is a b c d v ha hb hc hd hv h l r p q = of_22 (fault 22 p) (connection_fault (a ∷ b ∷ c ∷ d ∷ v ∷ h ∷ l ∷ r ∷ []) (fault 22 p) q)
  where
    of_22 : (f : Fault) → HeaderFault (a ∷ b ∷ c ∷ d ∷ v ∷ h ∷ l ∷ r ∷ []) f
        → f.place ≡ first_of_six (eqb a 0x4A) (eqb b 0x6D) (eqb c 0x75) (eqb d 0x78) (eqb v 0x01) false
    of_22 f (wrong_byte place w) =
        let bytes = a ∷ b ∷ c ∷ d ∷ v ∷ h ∷ l ∷ r ∷ [] in
        let x = some_wrong bytes connection_layout place w in
        sym (header_wrong a b c d v ha hb hc hd hv h l r x ∙ one_place bytes connection_layout _ place (first_wrong_lem bytes 0 connection_layout refl x) w)
