-- What the other end reads in order is all that is in the bytes: no bytes are both a message and a connection header.
use Rattle.std.specs.Prelude.{Option, None}
use mathlib.Core.Path.{◌≡◌, refl, sym, ap, ◌∙◌, subst}
use mathlib.Core.Bool.{Bool, true, false}
use mathlib.Core.List.{List, [], ◌∷◌, ◌++◌}
use Prim.Native.Nat.{ℕ, zero, suc, ◌+◌, ◌/◌, ◌%◌, ◌≤◌, ◌<◌}
use native.Mathlib.Omega.{arith}
use lib.ListN.{length, take, drop, length-append, length-drop}
use lib.Dec.{eqb, ltb}
use borrow.Author.Tests.{eqb-true}
use Rattle.laws.specs.Pick.{pick}
use Rattle.laws.specs.Result.{fault, Result, ok, refused, violation}
use Rattle.laws.specs.Runs.{gather}
use Rattle.laws.proofs.Results.{refused_not_ok, violation_not_ok}
use Rattle.laws.proofs.Tests.{and_first, and_second}
use Rattle.wire.specs.declared.Role.{Role}
use Rattle.wire.specs.declared.Kind.{Kind}
use Rattle.wire.specs.declared.Message.{Message}
use Rattle.wire.specs.declared.Message.TheVariants as msg
use Rattle.wire.specs.Pattern.{O, I, bits, fits}
use Rattle.wire.specs.FirstByte.{kind_of}
use Rattle.wire.specs.Layout.{fixed, first_wrong}
use Rattle.wire.specs.Message.{body_length, typed, parse_header, with_body, read_message}
use Rattle.wire.specs.Connection.{connection_layout, parse_connection_header, read_connection_header}
use Rattle.protocol.specs.Judge.{Output, header_out, sent}
use Rattle.history.specs.Log.{Call, ping}
use Rattle.history.specs.Written.{message_in, header_in, with_rest, written_up_to, all_written}
use Rattle.history.specs.Account.{output_seen}
use Rattle.history.specs.Meant.{ReadInOrder}
use Rattle.history.specs.Claims.{data_number}

-- ---- no bytes are both

-- the first byte of "Jmux" names no type
magic_no_type : (b : ℕ) → fits (bits O I O O I O I O) 128 b ≡ true → kind_of b ≡ None
unfolding kind_of pick
magic_no_type b e = rw (bit_128, bit_64, bit_32, bit_16, bit_8)
  where
    from_64 : fits (I ∷ O ∷ O ∷ I ∷ O ∷ I ∷ O ∷ []) 64 b ≡ true
    from_64 = and_second (eqb (b / 128 % 2) 0) _ e

    from_32 : fits (O ∷ O ∷ I ∷ O ∷ I ∷ O ∷ []) 32 b ≡ true
    from_32 = and_second (eqb (b / 64 % 2) 1) _ from_64

    from_16 : fits (O ∷ I ∷ O ∷ I ∷ O ∷ []) 16 b ≡ true
    from_16 = and_second (eqb (b / 32 % 2) 0) _ from_32

    bit_128 : b / 128 % 2 ≡ 0
    bit_128 = eqb-true _ _ (and_first (eqb (b / 128 % 2) 0) _ e)

    bit_64 : b / 64 % 2 ≡ 1
    bit_64 = eqb-true _ _ (and_first (eqb (b / 64 % 2) 1) _ from_64)

    bit_32 : b / 32 % 2 ≡ 0
    bit_32 = eqb-true _ _ (and_first (eqb (b / 32 % 2) 0) _ from_32)

    bit_16 : b / 16 % 2 ≡ 0
    bit_16 = eqb-true _ _ (and_first (eqb (b / 16 % 2) 0) _ from_16)

    bit_8 : b / 8 % 2 ≡ 1
    bit_8 = eqb-true _ _ (and_first (eqb (b / 8 % 2) 1) _ (and_second (eqb (b / 16 % 2) 0) _ from_16))

magic_first : (b : ℕ) (s : List ℕ) (n : ℕ) → read_connection_header (b ∷ s) ≡ ok n → kind_of b ≡ None
unfolding read_connection_header parse_connection_header pick
magic_first b s n q = long (ltb (length (b ∷ s)) 8) q
  where
    right : (t : Bool) (far : ℕ) → fixed connection_layout (take 8 (b ∷ s)) ≡ t → pick t (ok far) (violation (fault 22 (first_wrong connection_layout (take 8 (b ∷ s))))) ≡ ok n → kind_of b ≡ None
    right true far e p = magic_no_type b (and_first (fits (bits O I O O I O I O) 128 b) _ e)
    right false far e p = absurd (violation_not_ok p)

    long : (t : Bool) → pick t (refused 10) (parse_connection_header (take 8 (b ∷ s))) ≡ ok n → kind_of b ≡ None
    long true p = absurd (refused_not_ok p)
    long false p = right (fixed connection_layout (take 8 (b ∷ s))) _ refl p

pub header_no_message : (r : Role) (bytes : List ℕ) (n : ℕ) → read_connection_header bytes ≡ ok n → message_in (read_message r bytes) ≡ []
unfolding read_connection_header read_message parse_header typed pick
header_no_message r [] n q = absurd (refused_not_ok q)
header_no_message r (b ∷ s) n q =
    ap (λ (k : Option Kind). message_in (pick (ltb (length (b ∷ s)) 4) (refused 10) (with_body (length (b ∷ s)) (typed r (take 4 (b ∷ s)) k)))) (magic_first b s n q)
    ∙ go (ltb (length (b ∷ s)) 4)
  where
    go : (t : Bool) → message_in (pick t (refused 10) (violation (fault 20 0))) ≡ []
    go true = refl
    go false = refl

-- ---- all that is read

module _ (r : Role) where
  nothing_up_to : (k : ℕ) → written_up_to k r [] ≡ []
  unfolding written_up_to read_message read_connection_header pick
  nothing_up_to zero = refl
  nothing_up_to (suc k) = refl

  no_header : {n : ℕ} → read_connection_header [] ≡ ok n → ⊥
  unfolding read_connection_header pick
  no_header e = refused_not_ok e

  no_message : {m : Message} → read_message r [] ≡ ok m → ⊥
  unfolding read_message pick
  no_message e = refused_not_ok e

  up_to : (k : ℕ) (bytes : List ℕ) (outs : List Output) → length bytes ≤ k → ReadInOrder r bytes outs → written_up_to k r bytes ≡ outs
  unfolding written_up_to ReadInOrder
  up_to k bytes [] h q = ap (written_up_to k r) q ∙ nothing_up_to k
  up_to zero [] (header_out n ∷ outs) h q = absurd (no_header q.0)
  up_to zero [] (sent m ∷ outs) h q = absurd (no_message q.0)
  up_to zero (b ∷ bytes) (o ∷ outs) h q = absurd (omega arith)
  up_to (suc k) bytes (header_out n ∷ outs) h q =
      ap (λ (os : List Output). with_rest (written_up_to k r) bytes (os ++ header_in (read_connection_header bytes))) (header_no_message r bytes n q.0)
      ∙ ap (λ (x : Result ℕ). with_rest (written_up_to k r) bytes (header_in x)) q.0
      ∙ ap (λ (os : List Output). header_out n ∷ os) (up_to k (drop 8 bytes) outs (simp length-drop (omega arith)) q.1)
  up_to (suc k) bytes (sent m ∷ outs) h q =
      ap (λ (x : Result Message). with_rest (written_up_to k r) bytes (message_in x ++ header_in (read_connection_header bytes))) q.0
      ∙ ap (λ (os : List Output). sent m ∷ os) (up_to k (drop (4 + body_length m) bytes) outs (simp length-drop (omega arith)) q.1)

  pub written_is : (bytes : List ℕ) (outs : List Output) → ReadInOrder r bytes outs → all_written r bytes ≡ outs
  written_is bytes outs q = up_to (length bytes) bytes outs (omega arith) q

-- ---- for a call

-- a call that is a ping has a cookie of 16 bits
abbrev pub CookieFits : Call → Type 0
CookieFits k = (cookie : ℕ) (room : List ℕ) → k ≡ ping cookie room → cookie < 65_536

-- what a call writes is read in order; a Ping whose cookie has more than 16 bits is read as a Ping with another
pub data Reads (r : Role) (k : Call) (bytes : List ℕ) (outs : List Output) : Type 0 where
  in_order_lem : ReadInOrder r bytes outs → Reads r k bytes outs
  other_cookie : (cookie told : ℕ) → (CookieFits k → ⊥) → outs ≡ sent (msg.Ping cookie) ∷ [] → all_written r bytes ≡ sent (msg.Ping told) ∷ [] → Reads r k bytes outs

module _ (r : Role) (k : Call) (bytes : List ℕ) (outs : List Output) where
  pub reads_fitting : Reads r k bytes outs → CookieFits k → ReadInOrder r bytes outs
  reads_fitting (in_order_lem q) small = q
  reads_fitting (other_cookie cookie told wide e f) small = absurd (wide small)

  -- what each number sees of it, and the numbers of its Data messages
  pub reads_seen : (n : ℕ) → Reads r k bytes outs → gather (output_seen n) (all_written r bytes) ≡ gather (output_seen n) outs
  unfolding gather
  reads_seen n (in_order_lem q) = ap (gather (output_seen n)) (written_is r bytes outs q)
  reads_seen n (other_cookie cookie told wide e f) = ap (gather (output_seen n)) f ∙ sym (ap (gather (output_seen n)) e)

  pub reads_data : Reads r k bytes outs → gather data_number (all_written r bytes) ≡ gather data_number outs
  unfolding gather
  reads_data (in_order_lem q) = ap (gather data_number) (written_is r bytes outs q)
  reads_data (other_cookie cookie told wide e f) = ap (gather data_number) f ∙ sym (ap (gather data_number) e)

  reads_single : Reads r k bytes outs → length outs ≤ 1 → length (all_written r bytes) ≤ 1
  reads_single (in_order_lem q) h = subst (λ (os : List Output). length os ≤ 1) (sym (written_is r bytes outs q)) h
  reads_single (other_cookie cookie told wide e f) h = subst (λ (os : List Output). length os ≤ 1) (sym f) (omega arith)

  -- if there is at most one output, what is read is alone
  pub reads_alone : (before after : List Output) (o : Output) → Reads r k bytes outs → length outs ≤ 1 → all_written r bytes ≡ before ++ (o ∷ after) → all_written r bytes ≡ o ∷ []
  reads_alone before after o q h e =
      let l : length (before ++ (o ∷ after)) ≤ 1 = subst (λ (os : List Output). length os ≤ 1) e (reads_single q h) in
      e ∙ lone before after (omega (arith, simp length-append at l))
    where
      lone : (b a : List Output) → length b + suc (length a) ≤ 1 → b ++ (o ∷ a) ≡ o ∷ []
      lone [] [] z = refl
      lone [] (x ∷ a) z = absurd (omega arith)
      lone (x ∷ b) a z = absurd (omega arith)
