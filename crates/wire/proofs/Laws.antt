-- The laws of the wire format, once for both roles: reading and writing are inverse, the writer refuses exactly the messages
-- that are read from no bytes at all, and a message cut short is incomplete. From the inverse of header and message.
use mathlib.Core.Path.{◌≡◌, refl, sym, ap, ◌∙◌}
use mathlib.Core.Logic.{◌↔◌}
use mathlib.Core.Bool.{Bool, true, false}
use mathlib.Core.List.{List, [], ◌∷◌, ◌++◌, append-nil}
use Prim.Native.Nat.{ℕ, ◌+◌, ◌*◌, ◌-◌, ◌/◌, ◌%◌, ◌<◌, ◌≤◌}
use native.Mathlib.Omega.{arith}
use lib.ListN.{length, get_or, take, drop, length-append, length-take, length-drop}
use lib.Seq.{take-add, take-append-add}
use lib.Dec.{ltb, leb}
use borrow.Author.Tests.{ltb-true, ltb-false, leb-true, lt-ltb, le-leb, lt-leb, eq-eqb}
use Rattle.laws.specs.Pick.{pick}
use Rattle.laws.specs.Result.{Result, ok, refused, violation}
use Rattle.laws.proofs.Pick.{yes, no}
use Rattle.laws.proofs.Tests.{and_both}
use Rattle.laws.proofs.Results.{ok_same, refused_not_ok, violation_not_ok}
use Rattle.laws.proofs.Words.{high, low}
use Rattle.laws.proofs.Lists.{Bytes, bytes_cons, elements, take_elements}
use Rattle.wire.specs.declared.Role.{Role}
use Rattle.wire.specs.declared.Message.{Message}
use Rattle.wire.specs.Back.{GivenBack}
use Rattle.wire.specs.Message.{parse_header, body_length, with_body, read_message, first_byte, second_byte, number_of, header, writable}
use Rattle.wire.proofs.Reading.{message_short, message_long}
use Rattle.wire.proofs.Writing.{writable_has}
use Rattle.wire.proofs.Inverse.{first_byte_lem, header_reads, Parsed, header_parsed}

-- ---- reading what was written

module _ (from : Role) (m : Message) (body : List ℕ) (number : number_of m < 65_536) (w : writable from m (length body) ≡ true) where
  reads : ok m ≡ parse_header from (header m)
  reads = let h = writable_has from m (length body) w in sym (header_reads from m h.shift h.session number h.sender h.flags)

  -- reading what was written gives the same message, whatever follows
  pub read_written : (rest : List ℕ) → read_message from (header m ++ (body ++ rest)) ≡ ok m
  read_written rest =
      let h = writable_has from m (length body) w in
      let s = header m ++ (body ++ rest) in
      let l : length (header m ++ (body ++ rest)) ≡ 4 + (length body + length rest) =
      length-append (header m) (body ++ rest) ∙ ap (λ (n : ℕ). 4 + n) (length-append body rest) in
      let b = h.body in
      let fits : 4 + body_length m ≤ length (header m ++ (body ++ rest)) = omega arith in
      sym (message_long from s (omega arith) reads (sym (yes _ _ _ (le-leb _ _ fits))))

  cut_header : (k : ℕ) → k < 4 → read_message from (take k (header m ++ body)) ≡ refused 10
  cut_header k h =
      let l : length (take k (header m ++ body)) < 4 = simp length-take (omega arith) in
      sym (message_short from (take k (header m ++ body)) l)

  cut_body : (j : ℕ) → j < length body → read_message from (header m ++ take j body) ≡ refused 10
  cut_body j h =
      let b = (writable_has from m (length body) w).body in
      let l : length (header m ++ take j body) ≡ 4 + j =
      length-append (header m) (take j body) ∙ ap (λ (n : ℕ). 4 + n) (simp length-take (omega arith)) in
      let short : length (header m ++ take j body) < 4 + body_length m = omega arith in
      sym (message_long from (header m ++ take j body) (omega arith) reads (sym (no _ _ _ (lt-leb _ _ short))))

  -- a proper prefix of a written message is incomplete, and nothing else
  pub read_short : (k : ℕ) → k < 4 + length body → read_message from (take k (header m ++ body)) ≡ refused 10
  read_short k h = go (ltb k 4) refl
    where
      go : (b : Bool) → ltb k 4 ≡ b → read_message from (take k (header m ++ body)) ≡ refused 10
      go true e = cut_header k (ltb-true k 4 e)
      go false e =
          let f = ltb-false k 4 e in
          let split : k ≡ 4 + (k - 4) = omega arith in
          ap (λ (i : ℕ). read_message from (take i (header m ++ body))) split
          ∙ ap (read_message from) (take-append-add (header m) body (k - 4))
          ∙ cut_body (k - 4) (omega arith)

-- ---- writing what was read

-- what an input holds that is read as a message
pub record Holds (from : Role) (s : List ℕ) (m : Message) : Type 0 where
  pub long : 4 + body_length m ≤ length s
  pub reads : parse_header from (elements 4 0 s) ≡ ok m

holds_body : (from : Role) (s : List ℕ) (m : Message) (r : Result Message) → parse_header from (elements 4 0 s) ≡ r → with_body (length s) r ≡ ok m → Holds from s m
unfolding pick
holds_body from s m (ok l) e q = go (leb (4 + body_length l) (length s)) refl q
  where
    go : (b : Bool) → leb (4 + body_length l) (length s) ≡ b → pick b (ok l) (refused 10) ≡ ok m → Holds from s m
    go true f p =
        let same = ok_same p in
        record { long = rw (← same) (leb-true _ _ f); reads = e ∙ ap ok same }
    go false f p = absurd (refused_not_ok p)
holds_body from s m (refused n) e q = absurd (refused_not_ok q)
holds_body from s m (violation n) e q = absurd (violation_not_ok q)

pub message_holds : (from : Role) (s : List ℕ) (m : Message) → read_message from s ≡ ok m → Holds from s m
unfolding read_message pick
message_holds from s m q = go (ltb (length s) 4) refl q
  where
    go : (b : Bool) → ltb (length s) 4 ≡ b → pick b (refused 10) (with_body (length s) (parse_header from (take 4 s))) ≡ ok m → Holds from s m
    go true e p = absurd (refused_not_ok p)
    go false e p =
        let h : 4 ≤ length s = ltb-false (length s) 4 e in
        holds_body from s m (parse_header from (elements 4 0 s)) refl
        (ap (λ (l : List ℕ). with_body (length s) (parse_header from l)) (sym (take_elements 4 0 s (omega arith))) ∙ p)

module _ (from : Role) (s : List ℕ) (m : Message) (bytes : Bytes s) (q : read_message from s ≡ ok m) where
  pub message_parsed : Parsed from (get_or s 0 0) (get_or s 1 0) (get_or s 2 0 * 256 + get_or s 3 0) m
  message_parsed = header_parsed from _ _ _ _ (bytes 0) (bytes 1) (bytes 2) (bytes 3) m (message_holds from s m q).reads

  header_elements : header m ≡ elements 4 0 s
  header_elements =
      let t = message_parsed in
      rw (t.first, t.second, t.number, high (get_or s 2 0) (get_or s 3 0) (bytes 3), low (get_or s 2 0) (get_or s 3 0) (bytes 3))

  -- writing what was read gives the same bytes
  pub write_read : header m ++ take (body_length m) (drop 4 s) ≡ take (4 + body_length m) s
  write_read =
      let l = (message_holds from s m q).long in
      ap (λ (h : List ℕ). h ++ take (body_length m) (drop 4 s)) (header_elements ∙ sym (take_elements 4 0 s (omega arith)))
      ∙ sym (take-add 4 (body_length m) s)

  -- and the writer does not refuse it
  pub read_writable : writable from m (body_length m) ≡ true
  unfolding writable
  read_writable =
      let t = message_parsed in
      and_both
      (and_both (and_both (and_both (lt-ltb _ _ t.shift) (lt-ltb _ _ t.session)) t.sender) t.flags)
      (eq-eqb (body_length m) (body_length m) refl)

-- ---- what the writer refuses

module _ (from : Role) (m : Message) (body : List ℕ) where
  written_back : Bytes body → number_of m < 65_536 → writable from m (length body) ≡ true → GivenBack from m body
  written_back bs n w =
      let h = writable_has from m (length body) w in
      let b : body_length m ≡ length body = h.body in
      let s = h.session in
      let c = number_of m / 256 in
      let d = number_of m % 256 in
      let second : second_byte m < 256 = omega arith in
      let third : number_of m / 256 < 256 = omega arith in
      let fourth : number_of m % 256 < 256 = omega arith in
      record {
        bytes = header m ++ body;
        each =
            bytes_cons (first_byte m) (second_byte m ∷ c ∷ d ∷ body) (first_byte_lem m)
            (bytes_cons (second_byte m) (c ∷ d ∷ body) second (bytes_cons c (d ∷ body) third (bytes_cons d body fourth bs)));
        reads = ap (λ (l : List ℕ). read_message from (header m ++ l)) (sym (append-nil body)) ∙ read_written from m body n w [];
        whole = length-append (header m) body ∙ ap (λ (k : ℕ). 4 + k) (sym b);
        follows = refl;
      }

  back_writable : GivenBack from m body → writable from m (length body) ≡ true
  back_writable g =
      let l : body_length m ≡ length body = omega (arith, ap length g.follows, length-drop 4 g.bytes, g.whole) in
      ap (writable from m) (sym l) ∙ read_writable from g.bytes m g.each g.reads

  -- a message and a body may be written exactly if some bytes are read as them
  pub writer_exact : Bytes body → number_of m < 65_536 → (writable from m (length body) ≡ true) ↔ GivenBack from m body
  writer_exact bs n = (written_back bs n, back_writable)
