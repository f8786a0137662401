-- What a call answers in the terms of docs/PROTOCOL.md: a value, a refusal by its number, or a violation by its number and place.
use Rattle.std.specs.Prelude.{ℕ}

-- a violation's number, and the place of the byte at fault in its message or header, whose first byte is at 0
pub record Fault : Type 0 where
  pub number : ℕ
  pub place : ℕ

abbrev pub fault : ℕ → ℕ → Fault
fault n place = record { number = n; place = place }

-- a refusal is one of the numbers below 20, a violation one of those from 20 up
pub data Result (A : Type 0) : Type 0 where
  ok : A → Result A
  refused : ℕ → Result A
  violation : Fault → Result A
