-- The reader's definitions, one law for each way through their checks; callers cite these.
use Rattle.std.specs.Prelude.{Option, Some, None}
use mathlib.Core.Path.{◌≡◌, ap, sym, ◌∙◌}
use mathlib.Core.Bool.{true, false}
use mathlib.Core.List.{List, [], ◌∷◌}
use Prim.Native.Nat.{ℕ, ◌≤◌, ◌<◌}
use native.Mathlib.Omega.{arith}
use lib.ListN.{length}
use borrow.Author.Tests.{lt-ltb, le-ltb}
use Rattle.laws.specs.Result.{fault, Result, ok, refused, violation}
use Rattle.laws.proofs.Pick.{yes, no}
use Rattle.laws.proofs.Lists.{elements, take_elements}
use Rattle.wire.specs.declared.Role.{Role}
use Rattle.wire.specs.declared.Kind.{Kind}
use Rattle.wire.specs.declared.Message.{Message}
use Rattle.wire.specs.FirstByte.{kind_of}
use Rattle.wire.specs.Layout.{layout, fixed, first_wrong, digits, initial_ration, message}
use Rattle.wire.specs.Message.{may_send, flags_allowed, allowed, typed, parse_header, with_body, read_message}
use Rattle.wire.specs.Connection.{connection_layout, parse_connection_header, read_connection_header}

-- ---- the sender's type and flags

pub allowed_ok : (from : Role) (k : Kind) (m : Message) → may_send from k ≡ true → flags_allowed from m ≡ true → ok m ≡ allowed from k m
unfolding allowed
allowed_ok from k m p q = sym (yes _ _ _ p ∙ yes _ _ _ q)

pub allowed_flags : (from : Role) (k : Kind) (m : Message) → may_send from k ≡ true → flags_allowed from m ≡ false → violation (fault 24 0) ≡ allowed from k m
unfolding allowed
allowed_flags from k m p q = sym (yes _ _ _ p ∙ no _ _ _ q)

pub allowed_sender : (from : Role) (k : Kind) (m : Message) → may_send from k ≡ false → violation (fault 23 0) ≡ allowed from k m
unfolding allowed
allowed_sender from k m p = sym (no _ _ _ p)

-- ---- the four header bytes

module _ (from : Role) (a b c d : ℕ) where
  named : {n : Option Kind} → kind_of a ≡ n → typed from (a ∷ b ∷ c ∷ d ∷ []) n ≡ parse_header from (a ∷ b ∷ c ∷ d ∷ [])
  unfolding parse_header
  named e = ap (typed from (a ∷ b ∷ c ∷ d ∷ [])) (sym e)

  pub header_clear : {k : Kind} {m : Message} {r : Result Message} → kind_of a ≡ Some k → fixed (layout k) (a ∷ b ∷ c ∷ d ∷ []) ≡ true
      → m ≡ message k (a ∷ b ∷ c ∷ d ∷ []) → r ≡ allowed from k m → r ≡ parse_header from (a ∷ b ∷ c ∷ d ∷ [])
  unfolding typed
  header_clear {k} e f p q = q ∙ ap (allowed from k) p ∙ sym (yes _ _ _ f) ∙ named e

  pub header_reserved : {k : Kind} {place : ℕ} → kind_of a ≡ Some k → fixed (layout k) (a ∷ b ∷ c ∷ d ∷ []) ≡ false
      → place ≡ first_wrong (layout k) (a ∷ b ∷ c ∷ d ∷ []) → violation (fault 21 place) ≡ parse_header from (a ∷ b ∷ c ∷ d ∷ [])
  unfolding typed
  header_reserved e f q = ap (λ (p : ℕ). violation (fault 21 p)) q ∙ sym (no _ _ _ f) ∙ named e

  pub header_unknown : kind_of a ≡ None → violation (fault 20 0) ≡ parse_header from (a ∷ b ∷ c ∷ d ∷ [])
  unfolding typed
  header_unknown e = named e

-- ---- the input

pub message_short : (from : Role) (s : List ℕ) → length s < 4 → refused 10 ≡ read_message from s
unfolding read_message
message_short from s h = sym (yes _ _ _ (lt-ltb _ _ h))

pub message_long : (from : Role) (s : List ℕ) {p r : Result Message} → 4 ≤ length s → p ≡ parse_header from (elements 4 0 s) → r ≡ with_body (length s) p → r ≡ read_message from s
unfolding read_message
message_long from s h e q =
    q ∙ ap (with_body (length s)) (e ∙ ap (parse_header from) (sym (take_elements 4 0 s (omega arith))))
    ∙ sym (no _ _ _ (le-ltb _ _ h))

pub header_short : (s : List ℕ) → length s < 8 → refused 10 ≡ read_connection_header s
unfolding read_connection_header
header_short s h = sym (yes _ _ _ (lt-ltb _ _ h))

pub header_long : (s : List ℕ) {r : Result ℕ} → 8 ≤ length s → r ≡ parse_connection_header (elements 8 0 s) → r ≡ read_connection_header s
unfolding read_connection_header
header_long s h e = e ∙ ap parse_connection_header (sym (take_elements 8 0 s (omega arith))) ∙ sym (no _ _ _ (le-ltb _ _ h))

-- ---- the eight bytes of a connection header

pub number_ok : (h : List ℕ) {n : ℕ} → fixed connection_layout h ≡ true → n ≡ digits initial_ration connection_layout h 0 → ok n ≡ parse_connection_header h
unfolding parse_connection_header
number_ok h e q = ap ok q ∙ sym (yes _ _ _ e)

pub number_bad : (h : List ℕ) {place : ℕ} → fixed connection_layout h ≡ false → place ≡ first_wrong connection_layout h
    → violation (fault 22 place) ≡ parse_connection_header h
unfolding parse_connection_header
number_bad h e q = ap (λ (p : ℕ). violation (fault 22 p)) q ∙ sym (no _ _ _ e)
