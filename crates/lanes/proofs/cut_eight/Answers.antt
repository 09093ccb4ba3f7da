-- `lanes::cut_eight` meets its contract: the loop's invariant: the number has the first j octets.
use mathlib.Core.Path.{◌≡◌, refl, ap, ◌∙◌}
use mathlib.Core.Bool.{Bool, true, cond, ◌&&◌}
use mathlib.Core.List.{List}
use Prim.Native.Nat.{ℕ, ◌+◌, ◌-◌, ◌*◌, ◌^◌, ◌≤◌, ◌<◌}
use native.Mathlib.Numerals.{add-one}
use native.Mathlib.Omega.{arith}
use lib.Dec.{leb, lit<}
use lib.ListN.{get_or, drop}
use lib.Pow.{pow-add, pow_mono}
use Rattle.bits.specs.Bits.{bits_of}
use Rattle.bits.proofs.BoolLaws.{digit_low}
use Rattle.eights.specs.Eight.{own_at}
use Rattle.eights.proofs.WordLaws.{firsts, firsts_all}
use Rattle.lanes.proofs.cut_eight.Invariants.{octets_from}
use Rattle.lanes.proofs.cut_eight.Goals as goal

own-le : (first last : ℕ) (bits : List Bool) (o : ℕ) → own_at first last bits o ≤ 1
unfolding own_at
own-le first last bits o = digit_low (cond (leb first (o + 1) && leb (o + 1) last) (get_or bits (o + 1 - first) true) true)

pub loop-j-init : goal.loop-j-init
loop-j-init c = (omega arith, lit< tt, refl)

pub overflow_mul-eight : goal.overflow_mul-eight
overflow_mul-eight c = let l = c.loop-j in omega (arith, l.invariant.1, pow_mono {i = 8 * l.j} {j = 56} (omega arith))

pub overflow_add-eight : goal.overflow_add-eight
overflow_add-eight c =
    let is-bit_le : c.own_bit.result ≤ 1 =
    let a = c.args in
    rw c.own_bit.ensures (own-le a.first a.last (drop a.d (bits_of a.buffer.now)) (a.o + c.loop-j.j)) in
    let l = c.loop-j in omega (arith, l.invariant.1, is-bit_le, pow_mono {i = 8 * l.j} {j = 56} (omega arith))

pub loop-j-preserved : goal.loop-j-preserved
loop-j-preserved c =
    let is-bit_le : c.own_bit.result ≤ 1 =
    let a = c.args in
    rw c.own_bit.ensures (own-le a.first a.last (drop a.d (bits_of a.buffer.now)) (a.o + c.loop-j.j)) in
    let l = c.loop-j in
    let more : 8 * (l.j + 1) ≡ 8 * l.j + 8 = omega arith in
    let eight = l.eight * 256 + c.own_bit.result in
    let small : eight < 2 ^ (8 * l.j) * 2 ^ 8 = omega (arith, l.invariant.1, is-bit_le) in (
      omega arith,
      rw (more, pow-add 2 (8 * l.j) 8) small,
      rw (add-one l.j, ← l.invariant.2) (ap (λ (x : ℕ). l.eight * 256 + x) c.own_bit.ensures),
    )

pub returns : goal.returns
returns c =
    let a = c.args in
    let l = c.loop-j in
    let e : l.j ≡ 8 = omega arith in
    let f : ℕ → ℕ = octets_from a.buffer.now a.d a.first a.last a.o in
    l.invariant.2 ∙ ap (firsts f) e ∙ firsts_all f
