-- What a violation that a reader finds says of the header: which of its bytes is wrong by the published tables, and what each number stands
-- for.
use Rattle.std.specs.Prelude.{ℕ, ◌<◌, ◌≡◌, Bool, true, false, ◌&&◌, ◌||◌, List, [], ◌∷◌, eqb, ltb, get_or, Some, None}
use Rattle.laws.specs.Result.{Fault, fault}
use Rattle.wire.specs.declared.Role.{Role}
use Rattle.wire.specs.declared.Kind.{Kind}
use Rattle.wire.specs.Pattern.{Bit, O, I, x, -, fits}
use Rattle.wire.specs.FirstByte.{kind_of}
use Rattle.wire.specs.Layout.{reserved, LayoutRow, layout, fixed, has_item, message}
use Rattle.wire.specs.Message.{only_if, may_send, flags_allowed}
use Rattle.wire.specs.Connection.{connection_layout}

-- the byte at a place is as each row for that place fixes it
abbrev pub fixed_at : List LayoutRow → List ℕ → ℕ → Bool
fixed_at [] header place = true
fixed_at (r ∷ rs) header place =
    only_if (eqb r.offset place) (fits r.pattern 128 (get_or header r.offset 0)) && fixed_at rs header place

-- the byte at a place is wrong by the layout, and every byte before it is as the layout fixes it
pub record FirstWrongAt (rows : List LayoutRow) (header : List ℕ) (place : ℕ) : Type 0 where
  pub wrong : fixed_at rows header place ≡ false
  pub before : (i : ℕ) → i < place → fixed_at rows header i ≡ true

-- a pattern that fixes no bit
abbrev pub is_free : List Bit → Bool
is_free [] = true
is_free (O ∷ ps) = false
is_free (I ∷ ps) = false
is_free (x ∷ ps) = is_free ps
is_free (- ∷ ps) = is_free ps

-- behind the first byte each row that fixes a bit is a reserved one
abbrev pub reserved_behind : List LayoutRow → Bool
reserved_behind [] = true
reserved_behind (r ∷ rs) = (eqb r.offset 0 || has_item reserved (r ∷ []) || is_free r.pattern) && reserved_behind rs

-- what is wrong with the four header bytes of a message, with the number and the place that say so
pub data MessageFault (from : Role) (header : List ℕ) : Fault → Type 0 where
  no_type : kind_of (get_or header 0 0) ≡ None → MessageFault from header (fault 20 0)
  wrong_bit : (k : Kind) (place : ℕ) → kind_of (get_or header 0 0) ≡ Some k → FirstWrongAt (layout k) header place
      → MessageFault from header (fault 21 place)
  wrong_sender : (k : Kind) → kind_of (get_or header 0 0) ≡ Some k → fixed (layout k) header ≡ true → may_send from k ≡ false
      → MessageFault from header (fault 23 0)
  wrong_flags : (k : Kind) → kind_of (get_or header 0 0) ≡ Some k → fixed (layout k) header ≡ true → may_send from k ≡ true
      → flags_allowed from (message k header) ≡ false → MessageFault from header (fault 24 0)

-- what is wrong with the eight bytes of a connection header
pub data HeaderFault (header : List ℕ) : Fault → Type 0 where
  wrong_byte : (place : ℕ) → FirstWrongAt connection_layout header place → HeaderFault header (fault 22 place)

-- the bytes of a connection header that can be wrong: the magic number, the version and the reserved byte
abbrev pub is_header_place : ℕ → Bool
is_header_place place = ltb place 5 || eqb place 7
