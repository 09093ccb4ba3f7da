-- `service::row_in_turn` meets its contract: the loop's invariant: the row is the number of the bits passed.
use mathlib.Core.Path.{◌≡◌, refl, ap, ap₂, ◌∙◌}
use Prim.Native.Nat.{ℕ, ◌+◌, ◌*◌}
use native.Mathlib.Omega.{arith}
use Rattle.bits.specs.Bits.{number}
use Rattle.service.specs.Channel.{channel_bits}
use Rattle.service.proofs.ChannelLaws.{channel_turn, channel_small}
use Rattle.service.proofs.row_in_turn.Goals as goal

pub loop-i-init : goal.loop-i-init
unfolding number channel_bits
loop-i-init c = (omega arith, refl)

pub overflow_mul-row : goal.overflow_mul-row
overflow_mul-row c =
    let a = c.args in
    let l = c.loop-i in
    omega (arith, l.invariant.1, channel_small l.i a.at a.line.now (omega arith))

pub overflow_add-at : goal.overflow_add-at
overflow_add-at c = omega arith

pub sc_bit-requires : goal.sc_bit-requires
sc_bit-requires c = tt

pub overflow_add-row : goal.overflow_add-row
overflow_add-row c =
    let a = c.args in
    let l = c.loop-i in
    omega (arith, l.invariant.1, c.sc_bit.ensures.1, channel_small l.i a.at a.line.now (omega arith))

pub overflow_step-i : goal.overflow_step-i
overflow_step-i c = omega arith

pub loop-i-smaller : goal.loop-i-smaller
loop-i-smaller c = omega arith

pub loop-i-preserved : goal.loop-i-preserved
loop-i-preserved c =
    let a = c.args in
    let l = c.loop-i in (
      omega arith,
      ap₂ (λ (x y : ℕ). x * 2 + y) l.invariant.1 c.sc_bit.ensures.0 ∙ channel_turn l.i a.at a.line.now,
    )

pub returns : goal.returns
returns c =
    let a = c.args in
    let l = c.loop-i in
    let e : l.i ≡ 8 = omega arith in
    l.invariant.1 ∙ ap (λ (k : ℕ). number (channel_bits k a.at a.line.now)) e
