-- `bits::octet` meets its contract.
use Rattle.std.proofs.Common.{rules, arith, refl, List, Bool, true, false, length, take, get_or, ◌<◌, ◌≡◌, ℕ, ◌+◌, ◌*◌}
use mir.Val.{bool_byte}
use Rattle.bits.specs.Bits.{number, digit}
use Rattle.bits.proofs.BitLaws.{number_more, number_below}
use Rattle.bits.proofs.octet.Goals as goal

same : (b : Bool) → bool_byte b ≡ digit b
same true = refl
same false = refl

more : (bs : List Bool) (n : ℕ) (i b : ℕ) → i < length bs → n ≡ number (take i bs) → b ≡ bool_byte (get_or bs i false) → n * 2 + b ≡ number (take (i + 1) bs)
more bs n i b h e f = omega (arith, number_more bs i false h, same (get_or bs i false))

pub loop-bit-init : goal.loop-bit-init
unfolding number
loop-bit-init c = refl

pub overflow_mul-octet : goal.overflow_mul-octet
overflow_mul-octet c = omega (arith, number_below c.args.bits c.loop-bit.bit-index 7 (omega arith) (omega arith))

pub overflow_add-octet : goal.overflow_add-octet
overflow_add-octet c =
    let l = c.loop-bit in
    omega (
      arith,
      more c.args.bits l.octet l.bit-index c.from.result (search rules) l.invariant c.from.ensures,
      number_below c.args.bits (l.bit-index + 1) 8 (search rules) (omega arith),
    )

pub loop-bit-preserved : goal.loop-bit-preserved
loop-bit-preserved c =
    let l = c.loop-bit in
    more c.args.bits l.octet l.bit-index c.from.result (search rules) l.invariant c.from.ensures
