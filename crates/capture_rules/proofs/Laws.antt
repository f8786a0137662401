-- The law of reading a capture: until the first refusal it gives exactly the messages whose bytes the capture has.
-- From the laws of the wire format: writing what was read gives the same bytes, and reading what was written the same message.
use mathlib.Core.Path.{◌≡◌, refl, sym, ap, subst, ◌∙◌}
use mathlib.Core.Logic.{◌↔◌}
use mathlib.Core.Bool.{Bool, true, false}
use mathlib.Core.List.{List, [], ◌∷◌, ◌++◌, append_assoc}
use Prim.Native.Nat.{ℕ, zero, suc, ◌+◌, ◌-◌, ◌≤◌, ◌<◌}
use native.Mathlib.Omega.{arith}
use lib.Dec.{ltb}
use lib.ListN.{length, take, drop, length-append, length-drop, take-append-drop}
use lib.Seq.{length-take-le, take-add, drop-drop, get_or-drop, take-append_seam, drop-append_seam, drop-append-add}
use borrow.Author.Tests.{ltb-false}
use Rattle.laws.specs.Pick.{pick}
use Rattle.laws.specs.Result.{Result, ok, refused, violation}
use Rattle.laws.proofs.Lists.{Bytes}
use Rattle.laws.proofs.Results.{refused_not_ok, violation_not_ok}
use Rattle.wire.specs.declared.Role.{Role}
use Rattle.wire.specs.declared.Message.{Message}
use Rattle.wire.specs.Message.{body_length, read_message, header, number_of, writable}
use Rattle.wire.proofs.Inverse.{header_parsed}
use Rattle.wire.proofs.Laws.{message_holds, read_written, write_read, read_writable}
use Rattle.wire.proofs.Writing.{writable_has}
use Rattle.capture_rules.specs.Place.{message_at, place_after}
use Rattle.capture_rules.specs.Reading.{WholeMessage, whole_bytes, MessagesRead, whole_at, prepended, read_up_to, read_all, EachWritable, Exact}
use Rattle.capture_rules.proofs.Steps.{within}

-- what a capture with a message at a place has there
pub record Stands (from : Role) (s : List ℕ) (place : ℕ) (m : Message) : Type 0 where
  pub reads : read_message from (drop place s) ≡ ok m
  pub long : place + 4 + body_length m ≤ length s

pub stands : (from : Role) (s : List ℕ) (place : ℕ) (m : Message) → message_at from s place ≡ ok m → Stands from s place m
unfolding message_at pick
stands from s place m e = go (ltb (length s) place) refl e
  where
    go : (b : Bool) → ltb (length s) place ≡ b → pick b (refused 14) (read_message from (drop place s)) ≡ ok m → Stands from s place m
    go true t q = absurd (refused_not_ok q)
    go false t q =
        let h : place ≤ length s = ltb-false (length s) place t in
        let l = (message_holds from (drop place s) m q).long in
        record { reads = q; long = omega (arith, length-drop place s) }

-- ---- what is read is exact

module _ (from : Role) (s : List ℕ) (bytes : Bytes s) where
  bytes_from : (place : ℕ) → Bytes (drop place s)
  bytes_from place i = rw get_or-drop (bytes (place + i))

  -- a reading that stops at once
  none : (place : ℕ) → ((m : Message) → message_at from s place ≡ ok m → ⊥) → Exact from s place (record { messages = []; end = place })
  none place refuses =
      let nothing : 0 ≡ place - place = omega arith in
      record { each = tt; bytes = ap (λ (n : ℕ). take n (drop place s)) nothing; ends = omega arith; stops = refuses }

  module _ (place : ℕ) (m : Message) (e : message_at from s place ≡ ok m) where
    at : Stands from s place m
    at = stands from s place m e

    number : number_of m < 65_536
    number =
        let d = bytes_from place in
        let t = header_parsed from _ _ _ _ (d 0) (d 1) (d 2) (d 3) m (message_holds from (drop place s) m at.reads).reads in
        let high = d 2 in
        let low = d 3 in
        omega (arith, t.number)

    abbrev body : List ℕ
    body = (whole_at s place m).body

    body_length_lem : length body ≡ body_length m
    body_length_lem = let l = at.long in length-take-le (body_length m) (drop (place + 4) s) (omega (arith, length-drop (place + 4) s))

    -- its bytes are the capture's from the place up to the place after it
    taken : header m ++ body ≡ take (4 + body_length m) (drop place s)
    taken =
        ap (λ (l : List ℕ). header m ++ take (body_length m) l) (sym (drop-drop 4 place s))
        ∙ write_read from (drop place s) m (bytes_from place) at.reads

    one_more : (r : MessagesRead) → Exact from s (place + 4 + body_length m) r → Exact from s place (prepended s place (ok m) r)
    one_more r x =
        let k = 4 + body_length m in
        let j = r.end - (place + 4 + body_length m) in
        let w = whole_bytes r.messages in
        let all : length (header m ++ (body ++ w)) ≡ 4 + (body_length m + length w) =
        length-append (header m) (body ++ w)
        ∙ ap (λ (n : ℕ). 4 + n) (length-append body w ∙ ap (λ (n : ℕ). n + length w) body_length_lem) in
        let sum : 4 + body_length m + j ≡ r.end - place = omega (arith, x.ends) in
        let after : place + (4 + body_length m) ≡ place + 4 + body_length m = omega arith in
        record {
          each = (number, ap (writable from m) body_length_lem ∙ read_writable from (drop place s) m (bytes_from place) at.reads, x.each);
          bytes =
              sym (append_assoc (header m) body w)
              ∙ ap (λ (l : List ℕ). l ++ w) taken
              ∙ ap (λ (l : List ℕ). take k (drop place s) ++ l)
              (x.bytes ∙ ap (λ (n : ℕ). take j (drop n s)) (sym after) ∙ ap (take j) (sym (drop-drop k place s)))
              ∙ sym (take-add k j (drop place s))
              ∙ ap (λ (n : ℕ). take n (drop place s)) sum;
          ends = omega (arith, x.ends, all);
          stops = x.stops;
        }

  -- what is left to read is exact, from each place on
  abbrev Enough : ℕ → Type 0
  Enough n = (place : ℕ) → length s ≤ place + n → Exact from s place (read_up_to n from s place)

  -- n messages are enough if at most n bytes are left
  up_to_exact : (n : ℕ) → Enough n
  unfolding read_up_to
  up_to_exact zero place h = none place (λ m e. let l = (stands from s place m e).long in omega arith)
  up_to_exact (suc n) place h = go (message_at from s place) refl (up_to_exact n)
    where
      go : (r : Result Message) → message_at from s place ≡ r → Enough n → Exact from s place (prepended s place r (read_up_to n from s (place_after place r)))
      go (ok m) e enough = one_more place m e _ (enough (place + 4 + body_length m) (omega arith))
      go (refused i) e enough = none place (λ m q. refused_not_ok (sym e ∙ q))
      go (violation i) e enough = none place (λ m q. violation_not_ok (sym e ∙ q))

  all_exact : (place : ℕ) → Exact from s place (read_all from s place)
  unfolding read_all
  all_exact place = up_to_exact (length s) place (omega arith)

-- ---- nothing else is exact

module _ (from : Role) (s : List ℕ) where
  -- a message that is written at a place, with others behind it
  module _ (place : ℕ) (w : WholeMessage) (ws : List WholeMessage) (tail : List ℕ) (each : EachWritable from (w ∷ ws)) (e : drop place s ≡ whole_bytes (w ∷ ws) ++ tail) where
    abbrev m : Message
    m = w.message

    abbrev behind : List ℕ
    behind = whole_bytes ws ++ tail

    apart : drop place s ≡ header m ++ (w.body ++ behind)
    apart =
        e
        ∙ append_assoc (header m) (w.body ++ whole_bytes ws) tail
        ∙ ap (λ (l : List ℕ). header m ++ l) (append_assoc w.body (whole_bytes ws) tail)

    long : place + (4 + length w.body) ≤ length s
    long =
        let all = ap length apart ∙ length-append (header m) (w.body ++ behind) in
        omega (arith, all, length-append w.body behind, length-drop place s)

    -- the message is there
    stands_there : ok m ≡ message_at from s place
    stands_there =
        let l = long in
        sym (ap (read_message from) apart ∙ read_written from m w.body each.0 each.1 behind)
        ∙ within from s place (omega arith)

    body_same : body_length m ≡ length w.body
    body_same = (writable_has from m (length w.body) each.1).body

    -- with its body
    whole_same : w ≡ whole_at s place m
    whole_same =
        ap (λ (l : List ℕ). record { message = m; body = l })
        (sym (take-append_seam w.body behind)
        ∙ ap (λ (n : ℕ). take n (w.body ++ behind)) (sym body_same)
        ∙ ap (λ (l : List ℕ). take (body_length m) (drop 4 l)) (sym apart)
        ∙ ap (take (body_length m)) (drop-drop 4 place s))

    -- and the others follow it
    next_same : drop (place + 4 + body_length m) s ≡ behind
    next_same =
        let sum : place + 4 + body_length m ≡ place + (4 + length w.body) = omega (arith, body_same) in
        ap (λ (n : ℕ). drop n s) sum
        ∙ sym (drop-drop (4 + length w.body) place s)
        ∙ ap (drop (4 + length w.body)) apart
        ∙ drop-append-add (header m) (w.body ++ behind) (length w.body)
        ∙ drop-append_seam w.body behind

    end_same : (end : ℕ) → end ≡ place + length (whole_bytes (w ∷ ws)) → end ≡ place + 4 + body_length m + length (whole_bytes ws)
    end_same end q =
        omega (arith, length-append (header m) (w.body ++ whole_bytes ws), length-append w.body (whole_bytes ws), body_same)

  none_only : (n place : ℕ) → ((m : Message) → message_at from s place ≡ ok m → ⊥) → record { messages = []; end = place } ≡ read_up_to n from s place
  unfolding read_up_to
  none_only zero place refuses = refl
  none_only (suc n) place refuses = go (message_at from s place) refl
    where
      go : (r : Result Message) → message_at from s place ≡ r → record { messages = []; end = place } ≡ prepended s place r (read_up_to n from s (place_after place r))
      go (ok m) e = absurd (refuses m e)
      go (refused i) e = refl
      go (violation i) e = refl

  -- messages that are written one after the other from a place on, up to an end where there is none, are what is read
  up_to_only : (ws : List WholeMessage) (n place end : ℕ) (tail : List ℕ) → length s ≤ place + n → EachWritable from ws
      → drop place s ≡ whole_bytes ws ++ tail → end ≡ place + length (whole_bytes ws) → ((m : Message) → message_at from s end ≡ ok m → ⊥)
      → record { messages = ws; end = end } ≡ read_up_to n from s place
  unfolding read_up_to
  up_to_only [] n place end tail h each e q refuses =
      let same : end ≡ place = omega arith in
      ap (λ (p : ℕ). record { messages = []; end = p }) same ∙ none_only n place (λ m f. refuses m (ap (message_at from s) same ∙ f))
  up_to_only (w ∷ ws) zero place end tail h each e q refuses = let l = long place w ws tail each e in absurd (omega arith)
  up_to_only (w ∷ ws) (suc n) place end tail h each e q refuses =
      let after = place + 4 + body_length w.message in
      let rest =
      up_to_only ws n after end tail (omega arith) each.2 (next_same place w ws tail each e) (end_same place w ws tail each e end q) refuses in
      ap (λ (x : WholeMessage). record { messages = x ∷ ws; end = end }) (whole_same place w ws tail each e)
      ∙ ap (prepended s place (ok w.message)) rest
      ∙ ap (λ (r : Result Message). prepended s place r (read_up_to n from s (place_after place r))) (stands_there place w ws tail each e)

  all_only : (place : ℕ) (r : MessagesRead) → Exact from s place r → r ≡ read_all from s place
  unfolding read_all
  all_only place r x =
      let n = r.end - place in
      up_to_only r.messages (length s) place r.end (drop n (drop place s)) (omega arith) x.each
      (sym (take-append-drop n (drop place s)) ∙ ap (λ (l : List ℕ). l ++ drop n (drop place s)) (sym x.bytes)) x.ends x.stops

-- ---- one message more, or none

module _ (from : Role) (s : List ℕ) where
  -- any limit that the bytes left do not exceed gives the same reading
  same_limit : (n k place : ℕ) → length s ≤ place + n → length s ≤ place + k → read_up_to n from s place ≡ read_up_to k from s place
  unfolding read_up_to
  same_limit zero k place h l = none_only from s k place (λ m e. let at = (stands from s place m e).long in omega arith)
  same_limit (suc n) zero place h l = sym (none_only from s (suc n) place (λ m e. let at = (stands from s place m e).long in omega arith))
  same_limit (suc n) (suc k) place h l = go (message_at from s place) (same_limit n k)
    where
      go : (r : Result Message) → ((p : ℕ) → length s ≤ p + n → length s ≤ p + k → read_up_to n from s p ≡ read_up_to k from s p)
          → prepended s place r (read_up_to n from s (place_after place r)) ≡ prepended s place r (read_up_to k from s (place_after place r))
      go (ok m) same = ap (prepended s place (ok m)) (same (place + 4 + body_length m) (omega arith) (omega arith))
      go (refused i) same = refl
      go (violation i) same = refl

  -- a message comes before all that is read from the place after it
  pub reads_on : (place : ℕ) (m : Message) → message_at from s place ≡ ok m
      → read_all from s place ≡ prepended s place (ok m) (read_all from s (place + 4 + body_length m))
  unfolding read_all read_up_to
  reads_on place m e = go (length s) refl
    where
      go : (n : ℕ) → length s ≡ n → read_up_to n from s place ≡ prepended s place (ok m) (read_up_to (length s) from s (place + 4 + body_length m))
      go zero l = let at = (stands from s place m e).long in absurd (omega arith)
      go (suc n) l =
          ap (λ (r : Result Message). prepended s place r (read_up_to n from s (place_after place r))) e
          ∙ ap (prepended s place (ok m)) (same_limit n (length s) (place + 4 + body_length m) (omega arith) (omega arith))

  -- without a message at the place nothing is read
  pub reads_none : (place : ℕ) → ((m : Message) → message_at from s place ≡ ok m → ⊥) → read_all from s place ≡ record { messages = []; end = place }
  unfolding read_all
  reads_none place refuses = sym (none_only from s (length s) place refuses)

-- until the first refusal reading gives exactly the messages whose bytes the capture has, from any place, and it ends
pub read_exactly : (from : Role) (s : List ℕ) → Bytes s → (place : ℕ) (r : MessagesRead) → (r ≡ read_all from s place) ↔ Exact from s place r
read_exactly from s bytes place r = (λ e. subst (Exact from s place) (sym e) (all_exact from s bytes place), all_only from s place r)
