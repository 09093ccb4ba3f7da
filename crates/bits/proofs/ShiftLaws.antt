-- Laws of the machine's shifts to the left, where no bit is lost.
use mathlib.Core.Path.{◌≡◌, ◌∙◌}
use Prim.Native.Nat.{ℕ, ◌+◌, ◌*◌, ◌%◌, ◌^◌, ◌≤◌, ◌<◌}
use native.Mathlib.Nat.{one-mul, lt_of_lt_of_le}
use native.Mathlib.Omega.{arith}
use lib.Dec.{lit<}
use lib.Pow.{pow_mono, shl_exact, shl_lt}

-- `1 << n`
pub one_shl : (n : ℕ) → n < 64 → (1 * 2 ^ n) % 2 ^ 64 ≡ 2 ^ n
one_shl n h = shl_exact 1 n 64 (lit< tt) (omega arith) ∙ one-mul (2 ^ n)

-- a number of j bits, shifted by 7 at most
pub shl_same : (j a k : ℕ) → a < 2 ^ j → k ≤ 7 → j ≤ 16 → (a * 2 ^ k) % 2 ^ 64 ≡ a * 2 ^ k
shl_same j a k h hk hj = shl_exact j k 64 h (omega arith)

pub shl_bound : (j a k : ℕ) → a < 2 ^ j → k ≤ 7 → a * 2 ^ k < 2 ^ (j + 7)
shl_bound j a k h hk = lt_of_lt_of_le (shl_lt j k h) (pow_mono (omega arith))
