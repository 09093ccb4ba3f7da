-- `lanes::ones_above` meets its contract: no bit is shifted out.
use mathlib.Core.Path.{◌≡◌}
use Prim.Native.Nat.{ℕ, ◌-◌, ◌*◌, ◌%◌, ◌^◌, ◌≤◌}
use native.Mathlib.Omega.{arith}
use lib.Pow.{pow_pos, shl_exact, ones_lt}
use Rattle.bits.proofs.ShiftLaws.{one_shl}
use Rattle.lanes.proofs.ones_above.Goals as goal

ones_shl : (g t : ℕ) → g ≤ 8 → t ≤ 8 → (1 * 2 ^ g % 2 ^ 64 - 1) * 2 ^ t % 2 ^ 64 ≡ (2 ^ g - 1) * 2 ^ t
ones_shl g t hg ht = rw (one_shl g (omega arith)) (shl_exact {a = 2 ^ g - 1} g t 64 (ones_lt g) (omega arith))

pub overflow_sub-result : goal.overflow_sub-result
overflow_sub-result c = rw (one_shl c.args.n (omega arith)) (pow_pos c.args.n)

pub returns : goal.returns
returns c = ones_shl c.args.n c.args.up (omega arith) (omega arith)
