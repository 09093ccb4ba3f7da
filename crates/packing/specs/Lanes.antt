-- A number seen as lanes of equally many bits, out of which the low bits are picked. No public contract speaks of it, here or above.
use Rattle.std.specs.Prelude.{ℕ, zero, suc, ◌+◌, ◌*◌, ◌/◌, ◌%◌, ◌^◌}

-- the n low bits of each of the k low lanes of w bits, one after the other
unfoldable pub picked : ℕ → ℕ → ℕ → ℕ → ℕ
picked w n zero x = 0
picked w n (suc k) x = picked w n k (x / 2 ^ w) * 2 ^ n + x % 2 ^ n

-- a one at the end of each of k lanes of w bits
unfoldable pub units : ℕ → ℕ → ℕ
units w zero = 0
units w (suc k) = units w k * 2 ^ w + 1
