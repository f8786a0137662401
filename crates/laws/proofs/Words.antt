-- A 16-bit number and its two bytes, high byte first.
use mathlib.Core.Path.{◌≡◌}
use Prim.Native.Nat.{ℕ, ◌+◌, ◌*◌, ◌/◌, ◌%◌, ◌<◌}
use native.Mathlib.Nat.{div-add-mod'}
use native.Mathlib.Omega.{arith}

pub high : (h l : ℕ) → l < 256 → (h * 256 + l) / 256 ≡ h
high h l p = omega arith

pub low : (h l : ℕ) → l < 256 → (h * 256 + l) % 256 ≡ l
low h l p = omega arith

pub joined : (n : ℕ) → n / 256 * 256 + n % 256 ≡ n
joined n = div-add-mod' n 256
