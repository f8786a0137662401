-- The room after a reply is written: every reply fits 12 bytes, and an Error follows our header.
use mathlib.Core.Path.{◌≡◌, sym, ap, ◌∙◌}
use mathlib.Core.List.{List, [], ◌∷◌, ◌++◌, append_assoc, append-nil}
use Prim.Native.Nat.{ℕ, ◌+◌, ◌-◌, ◌≤◌}
use native.Mathlib.Omega.{arith}
use lib.ListN.{length, take, drop, length-append, length-drop, drop_of_length-le}
use lib.Seq.{take_all, take-append_seam, drop-append_seam, drop-drop}
use borrow.Rule.Slice.PartMut.{put_mid}
use Rattle.std.specs.Prelude.{Some, None}
use Rattle.wire.specs.declared.Message.TheVariants as msg
use Rattle.protocol.specs.Judge.{header_out, sent}
use Rattle.laws.specs.Room.{overlaid, at_front}
use Rattle.protocol.specs.Result.{bytes_of_all}
use Rattle.connection_output.specs.declared.Outgoing.TheVariants as outgoing
use Rattle.laws.proofs.Rooms.{fits}
use Rattle.connection_output.proofs.Rooms.{one_message}
use Rattle.connection_judge.specs.declared.Reply.{Reply}
use Rattle.connection_judge.specs.declared.Reply.TheVariants as reply
use Rattle.connection_judge.specs.Verdict.{Verdict, replies_as}
use Rattle.connection_judge.specs.declared.Extent.{Extent}
use Rattle.connection_judge.specs.Extent.{extent_in}
use Rattle.call_receive.specs.Replied.{replied}

-- a part up to the end is back in its place
back : (a : ℕ) (l p : List ℕ) → put_mid a (length l - a) l p ≡ take a l ++ p
back a l p =
    let long : length (drop a l) ≤ length l - a = simp length-drop (omega arith) in
    ap (λ (r : List ℕ). take a l ++ (p ++ r)) (drop_of_length-le (drop a l) long) ∙ ap (λ (r : List ℕ). take a l ++ r) (append-nil p)

-- bytes at the front of a room, and others behind them
module _ (first second room : List ℕ) (h : length first + length second ≤ length room) {a b : ℕ} {mid part : List ℕ} where
  pub one_behind : (a, mid) ≡ at_front first room → (b, part) ≡ at_front second (take (length mid - length first) (drop (length first) mid))
      → put_mid (length first) (length mid - length first) mid part ≡ overlaid (first ++ second) room
  one_behind p q =
      let n = length first in
      let rest = drop (length first) room in
      let is : mid ≡ overlaid first room = ap (λ (x : ℕ × List ℕ). x.1) (p ∙ fits first room (omega arith)) in
      let long : length (drop n mid) ≤ length mid - n = simp length-drop (omega arith) in
      let behind : take (length mid - n) (drop n mid) ≡ rest =
      take_all (length mid - n) (drop n mid) long ∙ ap (drop n) is ∙ drop-append_seam first rest in
      let roomy : length second ≤ length rest = simp length-drop (omega arith) in
      let put : part ≡ overlaid second rest = ap (λ (x : ℕ × List ℕ). x.1) (q ∙ ap (at_front second) behind ∙ fits second rest roomy) in
      back n mid part
      ∙ ap (λ (l : List ℕ). take n l ++ part) is
      ∙ ap (λ (l : List ℕ). l ++ part) (take-append_seam first rest)
      ∙ ap (λ (l : List ℕ). first ++ l) (put ∙ ap (λ (l : List ℕ). second ++ l) (drop-drop (length second) n room))
      ∙ sym (append_assoc first second (drop (n + length second) room))
      ∙ ap (λ (k : ℕ). (first ++ second) ++ drop k room) (sym (length-append first second))

pub header_error : (own : ℕ) (room : List ℕ) → 12 ≤ length room → {a b : ℕ} {mid part : List ℕ}
    → (a, mid) ≡ at_front (bytes_of_all [] (header_out own ∷ [])) room
    → (b, part) ≡ at_front (bytes_of_all [] (sent (msg.Error 0) ∷ [])) (take (length mid - 8) (drop 8 mid))
    → (12, put_mid 8 (length mid - 8) mid part) ≡ at_front (bytes_of_all [] (header_out own ∷ sent (msg.Error 0) ∷ [])) room
unfolding bytes_of_all
header_error own room h p q =
    ap (λ (l : List ℕ). (12, l)) (one_behind (bytes_of_all [] (header_out own ∷ [])) (bytes_of_all [] (sent (msg.Error 0) ∷ [])) room h p q)
    ∙ sym (fits (bytes_of_all [] (header_out own ∷ sent (msg.Error 0) ∷ [])) room h)

pub fits_twelve : (r : Reply) → length (bytes_of_all [] (replies_as r)) ≤ 12
unfolding bytes_of_all
fits_twelve (reply.Only None) = omega arith
fits_twelve (reply.Only (Some (outgoing.Header n))) = omega arith
fits_twelve (reply.Only (Some (outgoing.Message m))) = omega (arith, ap length (one_message m))
fits_twelve (reply.HeaderError n) = omega arith

-- what is given, from the parts that the code computes
pub concludes : (v : Verdict) (room : List ℕ) {wrote : ℕ} {extent : Extent} {last : List ℕ} → length (bytes_of_all [] v.outs) ≤ length room
    → (wrote, last) ≡ at_front (bytes_of_all [] v.outs) room → extent ≡ extent_in v.answer
    → (record { connection = v.connection; answer = v.answer; used = extent.used; wrote = wrote; start = extent.start; end = extent.end }, last) ≡ replied v room
concludes v room h w e =
    let whole = w ∙ fits (bytes_of_all [] v.outs) room h in
    rw (e, ap (λ (x : ℕ × List ℕ). x.0) whole, ap (λ (x : ℕ × List ℕ). x.1) whole)
