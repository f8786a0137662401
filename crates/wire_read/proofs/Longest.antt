-- With as many bytes as the longest message has, the four header bytes say all: nothing is missing.
use Rattle.std.specs.Prelude.{Option, Some, None}
use mathlib.Core.Path.{◌≡◌, refl, subst, sym}
use mathlib.Core.Bool.{Bool, true, false}
use mathlib.Core.List.{List}
use Prim.Native.Nat.{ℕ, ◌+◌, ◌≤◌}
use native.Mathlib.Omega.{arith}
use lib.ListN.{get_or}
use borrow.Author.Tests.{le-leb}
use Rattle.laws.specs.Pick.{pick}
use Rattle.laws.specs.Result.{fault, Result, ok, refused, violation}
use Rattle.laws.proofs.Pick.{yes}
use Rattle.wire.specs.declared.Role.{Role}
use Rattle.wire.specs.declared.Kind.{Kind}
use Rattle.wire.specs.declared.Message.{Message}
use Rattle.wire.specs.declared.Message.TheVariants.{NoOperation, Shutdown, Ping, PingAck, Error, IncrementRation, Abort, Close, Acknowledgment, Data}
use Rattle.wire.specs.FirstByte.{kind_of}
use Rattle.wire.specs.Layout.{layout, fixed, first_wrong, message}
use Rattle.wire.specs.Message.{may_send, flags_allowed, allowed, typed, parse_header, body_length, with_body, number_of}
use Rattle.wire.proofs.Bounds.{header_sent}

-- ---- four header bytes are never refused

abbrev Answered : Result Message → Type 0
Answered (ok m) = Unit {0}
Answered (refused n) = ⊥
Answered (violation f) = Unit {0}

either : (b : Bool) (p q : Result Message) → Answered p → Answered q → Answered (pick b p q)
unfolding pick
either true p q hp hq = hp
either false p q hp hq = hq

module _ (from : Role) (h : List ℕ) where
  typed_answered : (n : Option Kind) → Answered (typed from h n)
  unfolding typed allowed
  typed_answered (Some k) =
      let m = message k h in
      let flags = either (flags_allowed from m) (ok m) (violation (fault 24 0)) tt tt in
      let sender = either (may_send from k) (pick (flags_allowed from m) (ok m) (violation (fault 24 0))) (violation (fault 23 0)) flags tt in
      either (fixed (layout k) h) (allowed from k m) (violation (fault 21 (first_wrong (layout k) h))) sender tt
  typed_answered None = tt

  pub never_refused : (n : ℕ) → refused n ≡ parse_header from h → ⊥
  unfolding parse_header
  never_refused n e = subst Answered (sym e) (typed_answered (kind_of (get_or h 0 0)))

-- ---- nor is a body missing

body_below : (m : Message) → body_length m ≤ number_of m
body_below (NoOperation n) = omega arith
body_below (Shutdown n) = omega arith
body_below (Ping n) = omega arith
body_below (PingAck n) = omega arith
body_below (Error n) = omega arith
body_below (IncrementRation s i n) = omega arith
body_below (Abort p i n) = omega arith
body_below (Close i) = omega arith
body_below (Acknowledgment i) = omega arith
body_below (Data o c e a i n) = omega arith

pub longest : (from : Role) (h : List ℕ) → with_body 65_539 (parse_header from h) ≡ parse_header from h
longest from h = go (parse_header from h) refl
  where
    go : (r : Result Message) → parse_header from h ≡ r → with_body 65_539 r ≡ r
    go (ok m) e =
        let number = (header_sent from h m e).number in
        let below = body_below m in
        yes _ _ _ (le-leb (4 + body_length m) 65_539 (omega arith))
    go (refused n) e = refl
    go (violation f) e = refl
