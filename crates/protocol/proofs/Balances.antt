-- What a balance says in numbers, that an endless ration and a finite one never balance, and which Data a ledger counts: from the
-- definitions.
use mathlib.Core.Path.{◌≡◌, refl, sym}
use mathlib.Core.Bool.{Bool, true, false, true≢false}
use Prim.Native.Nat.{ℕ, ◌+◌, ◌≤◌}
use Rattle.ration.specs.declared.Ration.TheVariants as ration
use Rattle.state.specs.declared.Side.{Side}
use Rattle.state.specs.declared.Side.TheVariants as side
use Rattle.protocol.specs.Message.{data_of, increment_of}
use Rattle.protocol.specs.Observed.{received, wrote, Ends, unused, ends, late_for}
use Rattle.protocol.specs.Totals.{Ledger, sending_after, receiving_after, Balanced, Covers}

pub endless_never_finite : (l : Ledger) (now : ℕ) → Balanced ration.Endless l (ration.Finite now) → ⊥
endless_never_finite l now b = b

pub finite_never_endless : (l : Ledger) (start : ℕ) → Balanced (ration.Finite start) l ration.Endless → ⊥
finite_never_endless l start b = b

pub finite_balance : (l : Ledger) (start now : ℕ) → Balanced (ration.Finite start) l (ration.Finite now) → now + l.spent ≡ start + l.granted
finite_balance l start now b = b

pub finite_cover : (l : Ledger) (start n : ℕ) → Covers (ration.Finite start) l n → l.spent + n ≤ start + l.granted
finite_cover l start n h = h

-- ---- what is counted

-- Data received that is late is not counted
pub late_not_counted : (st : Ends) (l : Ledger) (n : ℕ) (close eof ack : Bool) → late_for st (data_of n false close eof ack) ≡ true
    → receiving_after st l (received (data_of n false close eof ack)) ≡ l
late_not_counted unused l n close eof ack e = refl
late_not_counted (ends side.Open t) l n close eof ack e = absurd (true≢false (sym e))
late_not_counted (ends side.Finished t) l n close eof ack e = absurd (true≢false (sym e))
late_not_counted (ends side.Ended t) l n close eof ack e = refl

-- Data received of a session that is not late is counted by its length
pub data_counted : (o t : Side) (l : Ledger) (n : ℕ) (close eof ack : Bool) → late_for (ends o t) (data_of n false close eof ack) ≡ false
    → receiving_after (ends o t) l (received (data_of n false close eof ack)) ≡ record { granted = l.granted; spent = l.spent + n }
data_counted side.Open t l n close eof ack e = refl
data_counted side.Finished t l n close eof ack e = refl
data_counted side.Ended t l n close eof ack e = absurd (true≢false e)

-- so is Data written, and an increment by its amount: one received grows what we may send, one written what we may receive
pub written_counted : (l : Ledger) (n : ℕ) (begins close eof ack : Bool)
    → sending_after l (wrote (data_of n begins close eof ack)) ≡ record { granted = l.granted; spent = l.spent + n }
written_counted l n begins close eof ack = refl

pub increments_counted : (st : Ends) (l : Ledger) (n : ℕ)
    → (sending_after l (received (increment_of n)) ≡ record { granted = l.granted + n; spent = l.spent })
    × (receiving_after st l (wrote (increment_of n)) ≡ record { granted = l.granted + n; spent = l.spent })
increments_counted st l n = (refl, refl)
