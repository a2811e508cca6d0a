-- The number of at most 19 decimal digits is less than 2^64.
use Rattle.std.proofs.Common.{ℕ, ◌+◌, ◌*◌, ◌^◌, ◌<◌, ◌≤◌, Fits, w64, lit<, arith}
use Rattle.std.proofs.Math.Nat.{pow-le-pow_right}

below : (value i : ℕ) → value < 10 ^ i → i ≤ 18 → value < 10 ^ 18
below value i small few = let most : 10 ^ i ≤ 10 ^ 18 = pow-le-pow_right {n = 10} (lit< tt) few in omega arith

-- ten times a number of at most 18 digits, and that with a digit more
pub product_fits : (value i : ℕ) → value < 10 ^ i → i ≤ 18 → Fits w64 (10 * value)
product_fits value i small few = let most = below value i small few in omega arith

pub sum_fits : (value digit i : ℕ) → value < 10 ^ i → i ≤ 18 → digit ≤ 9 → Fits w64 (10 * value + digit)
sum_fits value digit i small few single = let most = below value i small few in omega arith
