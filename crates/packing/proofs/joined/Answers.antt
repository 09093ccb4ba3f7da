-- `packing::joined` meets its contract: no bit is lost by the shift, and so the law of lanes that are joined holds.
use native.Mathlib.Omega.{arith}
use native.Mathlib.Nat.{mod-eq_of_lt}
use mathlib.Core.Path.{◌≡◌, ap, ◌∙◌}
use Prim.Native.Nat.{ℕ, ◌+◌, ◌-◌, ◌*◌, ◌/◌, ◌%◌, ◌^◌, ◌<◌}
use lib.Bits.{bit_and}
use Rattle.packing.specs.Lanes.{picked}
use Rattle.packing.proofs.LaneLaws.{join, join-le, join-picked, all_ones}
use Rattle.packing.proofs.joined.Goals as goal

exact : (w n u x : ℕ) → (2 ^ (n + n) - 1) * u < 2 ^ 64
    → (bit_and (x / 2 ^ w) ((2 ^ n - 1) * u) * 2 ^ n) % 2 ^ 64 + bit_and x ((2 ^ n - 1) * u) ≡ join w n ((2 ^ n - 1) * u) x
exact w n u x h = ap (λ (y : ℕ). y + bit_and x ((2 ^ n - 1) * u)) (mod-eq_of_lt (omega (arith, h, join-le w n u x)))

pub overflow_mul-mask : goal.overflow_mul-mask
overflow_mul-mask c =
    let a = c.args in
    rw c.ones.ensures (omega (arith, all_ones a.n a.each))

pub overflow_add-result : goal.overflow_add-result
overflow_add-result c =
    let a = c.args in
    rw (c.ones.ensures, exact a.lane a.n a.each a.x (omega arith)) (omega (arith, join-le a.lane a.n a.each a.x))

pub returns : goal.returns
returns c =
    let a = c.args in
    let w = a.lane in
    let n = a.n in
    let e = exact w n a.each a.x (omega arith) in (
      rw (c.ones.ensures, e) (join-le w n a.each a.x),
      λ k hu.
          rw (c.ones.ensures, e)
          (ap (λ (u : ℕ). picked (w + w) (n + n) k (join w n ((2 ^ n - 1) * u) a.x)) hu ∙ join-picked w n k a.x (omega arith)),
    )
