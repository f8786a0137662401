-- The same laws for the connection header, from its layout table.
use mathlib.Core.Path.{◌≡◌, refl, sym, ap, ◌∙◌}
use mathlib.Core.Logic.{◌↔◌}
use mathlib.Core.Bool.{Bool, true, false, ◌&&◌}
use mathlib.Core.List.{List, [], ◌∷◌, ◌++◌}
use Prim.Native.Nat.{ℕ, ◌+◌, ◌*◌, ◌/◌, ◌%◌, ◌<◌, ◌≤◌}
use native.Mathlib.Omega.{arith}
use lib.ListN.{length, get_or, take, length-append, length-take}
use lib.Dec.{eqb, ltb}
use borrow.Author.Tests.{ltb-false, eqb-true}
use Rattle.laws.specs.Pick.{pick}
use Rattle.laws.specs.Result.{fault, ok, refused, violation}
use Rattle.laws.proofs.Tests.{and_first, and_second}
use Rattle.laws.proofs.Results.{ok_same, refused_not_ok, violation_not_ok}
use Rattle.laws.proofs.Words.{high, low, joined}
use Rattle.laws.proofs.Lists.{Bytes, bytes_cons, elements, take_elements}
use Rattle.wire.specs.Back.{NumberBack}
use Rattle.wire.specs.Layout.{fixed, first_wrong, digits, initial_ration}
use Rattle.wire.specs.Connection.{connection_layout, parse_connection_header, read_connection_header, connection_header}
use Rattle.wire.proofs.Tables.{two_bytes, header_fixed}
use Rattle.wire.proofs.Reading.{header_short, header_long, number_ok}

-- reading what was written gives the same number, whatever follows
pub header_read_written : (n : ℕ) (rest : List ℕ) → n < 65_536 → read_connection_header (connection_header n ++ rest) ≡ ok n
unfolding pick
header_read_written n rest h =
    let hi : n / 256 < 256 = omega arith in
    let lo : n % 256 < 256 = omega arith in
    let l = length-append (connection_header n) rest in
    sym
    (header_long (connection_header n ++ rest) (omega arith)
    (number_ok (connection_header n) refl (sym (two_bytes (n / 256) (n % 256) hi lo ∙ joined n))))

-- a proper prefix of a written header is incomplete, and nothing else
pub header_read_short : (n k : ℕ) → k < 8 → read_connection_header (take k (connection_header n)) ≡ refused 10
header_read_short n k h =
    let l : length (take k (connection_header n)) < 8 = simp length-take (omega arith) in
    sym (header_short (take k (connection_header n)) l)

-- the tests of the bytes that the layout fixes, taken apart
tests_same : {a b c d v r : ℕ} → ((((eqb a 0x4A && eqb b 0x6D) && (eqb c 0x75 && eqb d 0x78)) && eqb v 0x01) && eqb r 0x00) ≡ true
    → (h l : ℕ) → 0x4A ∷ 0x6D ∷ 0x75 ∷ 0x78 ∷ 0x01 ∷ h ∷ l ∷ 0x00 ∷ [] ≡ a ∷ b ∷ c ∷ d ∷ v ∷ h ∷ l ∷ r ∷ []
tests_same {a} {b} {c} {d} {v} {r} e h l =
    let AB = eqb a 0x4A && eqb b 0x6D in
    let CD = eqb c 0x75 && eqb d 0x78 in
    let abcdv = and_first (AB && CD && eqb v 0x01) (eqb r 0x00) e in
    let abcd = and_first (AB && CD) (eqb v 0x01) abcdv in
    let ab = and_first AB CD abcd in
    let cd = and_second AB CD abcd in
    rw (
      eqb-true a 0x4A (and_first (eqb a 0x4A) (eqb b 0x6D) ab),
      eqb-true b 0x6D (and_second (eqb a 0x4A) (eqb b 0x6D) ab),
      eqb-true c 0x75 (and_first (eqb c 0x75) (eqb d 0x78) cd),
      eqb-true d 0x78 (and_second (eqb c 0x75) (eqb d 0x78) cd),
      eqb-true v 0x01 (and_second (AB && CD) (eqb v 0x01) abcdv),
      eqb-true r 0x00 (and_second (AB && CD && eqb v 0x01) (eqb r 0x00) e),
    )

module _ (s : List ℕ) (n : ℕ) (bytes : Bytes s) where
  number_held : (b : Bool) → fixed connection_layout (elements 8 0 s) ≡ b
      → pick b (ok (digits initial_ration connection_layout (elements 8 0 s) 0)) (violation (fault 22 (first_wrong connection_layout (elements 8 0 s)))) ≡ ok n
      → (n ≡ get_or s 5 0 * 256 + get_or s 6 0) × (connection_header n ≡ elements 8 0 s)
  unfolding pick
  number_held true e p =
      let is : n ≡ get_or s 5 0 * 256 + get_or s 6 0 = sym (ok_same p) ∙ two_bytes (get_or s 5 0) (get_or s 6 0) (bytes 5) (bytes 6) in
      let t =
      header_fixed (get_or s 0 0) (get_or s 1 0) (get_or s 2 0) (get_or s 3 0) (get_or s 4 0) (get_or s 7 0) (bytes 0) (bytes 1) (bytes 2) (bytes 3) (bytes 4)
      (bytes 7) (get_or s 5 0) (get_or s 6 0) in (
        is,
        rw (is, high (get_or s 5 0) (get_or s 6 0) (bytes 6), low (get_or s 5 0) (get_or s 6 0) (bytes 6)) (tests_same (t ∙ e) (get_or s 5 0) (get_or s 6 0)),
      )
  number_held false e p = absurd (violation_not_ok p)

  held : read_connection_header s ≡ ok n → (8 ≤ length s) × (n ≡ get_or s 5 0 * 256 + get_or s 6 0) × (connection_header n ≡ elements 8 0 s)
  unfolding read_connection_header parse_connection_header pick
  held q = go (ltb (length s) 8) refl q
    where
      go : (b : Bool) → ltb (length s) 8 ≡ b → pick b (refused 10) (parse_connection_header (take 8 s)) ≡ ok n
          → (8 ≤ length s) × (n ≡ get_or s 5 0 * 256 + get_or s 6 0) × (connection_header n ≡ elements 8 0 s)
      go true e p = absurd (refused_not_ok p)
      go false e p =
          let h : 8 ≤ length s = ltb-false (length s) 8 e in
          let r =
          number_held (fixed connection_layout (elements 8 0 s)) refl
          (ap parse_connection_header (sym (take_elements 8 0 s (omega arith))) ∙ p) in
          (h, r.0, r.1)

  -- writing what was read gives the same bytes
  pub header_write_read : read_connection_header s ≡ ok n → connection_header n ≡ take 8 s
  header_write_read q =
      let h = held q in
      let l : 8 ≤ length s = h.0 in
      h.2 ∙ sym (take_elements 8 0 s (omega arith))

  header_small : read_connection_header s ≡ ok n → n < 65_536
  header_small q = omega (arith, (held q).1, bytes 5, bytes 6)

no_bytes : Bytes []
no_bytes i = omega arith

number_back : (n : ℕ) → n < 65_536 → NumberBack n
number_back n h =
    let hi : n / 256 < 256 = omega arith in
    let lo : n % 256 < 256 = omega arith in
    let end = bytes_cons (n / 256) (n % 256 ∷ 0x00 ∷ []) hi (bytes_cons (n % 256) (0x00 ∷ []) lo (bytes_cons 0x00 [] (omega arith) no_bytes)) in
    record {
      bytes = connection_header n;
      each =
          bytes_cons 0x4A (0x6D ∷ 0x75 ∷ 0x78 ∷ 0x01 ∷ n / 256 ∷ n % 256 ∷ 0x00 ∷ []) (omega arith)
          (bytes_cons 0x6D (0x75 ∷ 0x78 ∷ 0x01 ∷ n / 256 ∷ n % 256 ∷ 0x00 ∷ []) (omega arith)
          (bytes_cons 0x75 (0x78 ∷ 0x01 ∷ n / 256 ∷ n % 256 ∷ 0x00 ∷ []) (omega arith)
          (bytes_cons 0x78 (0x01 ∷ n / 256 ∷ n % 256 ∷ 0x00 ∷ []) (omega arith) (bytes_cons 0x01 (n / 256 ∷ n % 256 ∷ 0x00 ∷ []) (omega arith) end))));
      reads = header_read_written n [] h;
    }

-- the writer is right to refuse no 16-bit number: each of them, and no other, is given back
pub header_exact : (n : ℕ) → (n < 65_536) ↔ NumberBack n
header_exact n = (number_back n, λ g. header_small g.bytes n g.each g.reads)
