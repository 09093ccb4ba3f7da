-- `eights::parted` meets its contract: what its caller ensures of the result holds for the shift too.
use mathlib.Core.Path.{◌≡◌}
use Prim.Native.Nat.{ℕ, ◌+◌, ◌-◌, ◌*◌, ◌%◌, ◌^◌, ◌<◌}
use native.Mathlib.Nat.{mod-eq_of_lt}
use native.Mathlib.Omega.{arith}
use lib.Bits.{bit_and, and_le_l}
use Rattle.eights.specs.Eight.{parted_by}
use Rattle.eights.proofs.parted.Goals as goal

-- no bit is lost
whole : (x mask up : ℕ) → parted_by x mask up < 2 ^ 64 → (x - bit_and x mask) * 2 ^ up % 2 ^ 64 + bit_and x mask ≡ parted_by x mask up
unfolding parted_by
whole x mask up h = let l : (x - bit_and x mask) * 2 ^ up < 2 ^ 64 = omega (arith, h) in rw (mod-eq_of_lt l)

pub overflow_sub-result : goal.overflow_sub-result
overflow_sub-result c = and_le_l c.args.x c.args.mask

pub overflow_add-result : goal.overflow_add-result
overflow_add-result c = let a = c.args in omega (arith, c.requires.1, whole a.x a.mask a.up c.requires.1)

pub returns : goal.returns
returns c = let a = c.args in whole a.x a.mask a.up c.requires.1
