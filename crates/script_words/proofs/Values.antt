-- The room for nine digits.
use Rattle.std.proofs.Common.{ℕ, ◌<◌, ◌≤◌, ◌^◌, arith, lit<}
use Rattle.std.proofs.Math.Nat.{pow-le-pow_right}

-- a value of fewer than nine digits has room for one more
pub has_room_lem : (v i : ℕ) → i < 9 → v < 10 ^ i → v < 100_000_000
has_room_lem v i h p =
    let most : 10 ^ i ≤ 10 ^ 8 = pow-le-pow_right (lit< tt) {i = i} {j = 8} (omega arith) in
    omega arith
