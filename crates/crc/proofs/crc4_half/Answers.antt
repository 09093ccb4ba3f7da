-- `crc::crc4_half` meets its contract: one computed test of all sixteen.
use mathlib.Core.Path.{◌≡◌, refl, ap, ◌∙◌}
use mathlib.Core.Bool.{Bool, true, xor}
use mathlib.Core.List.{List}
use Prim.Native.Nat.{ℕ, ◌*◌, ◌/◌, ◌%◌}
use native.Mathlib.Omega.{arith}
use borrow.Author.Tests.{eqb-true}
use lib.Bits.{bit_xor}
use lib.Dec.{eqb}
use Rattle.bits.specs.Bits.{odd, low_bits, number, xors}
use Rattle.bits.specs.Remainder.{scaled, fed, continued, remainder}
use Rattle.crc.specs.Crc.{crc4_generator}
use Rattle.bits.proofs.BitLaws.{low_bits-mod}
use Rattle.bits.proofs.BoolLaws.{every_below, below}
use Rattle.crc.proofs.crc4_half.Goals as goal

right : ℕ → Bool
right low = eqb (bit_xor (bit_xor low (low * 2)) (low / 8 * 19)) (number (remainder crc4_generator (low_bits 4 low)))

all_right : every_below 16 right ≡ true
unfolding right number remainder continued low_bits fed xors scaled xor odd
all_right = refl

pub returns : goal.returns
unfolding right
returns c =
    let half = c.args.half in
    eqb-true _ _ (below 16 right all_right (half % 16) (omega arith))
    ∙ ap (λ (l : List Bool). number (remainder crc4_generator l)) (low_bits-mod 4 half)
