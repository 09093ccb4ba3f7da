-- `bas::check_octet` meets its contract: that it gives the remainder is one test over the 256 codes, which antt computes.
use mathlib.Core.Path.{◌≡◌, refl}
use mathlib.Core.Bool.{Bool, true, xor}
use Prim.Native.Nat.{ℕ, ◌*◌, ◌/◌, ◌%◌, ◌^◌}
use borrow.Author.Rules.{rules}
use borrow.Author.Tests.{eqb-true}
use lib.Bits.{bit_xor}
use lib.Dec.{eqb}
use Rattle.bits.specs.Bits.{odd, low_bits, number, xors}
use Rattle.bits.specs.Remainder.{scaled, fed, continued, remainder}
use Rattle.bits.proofs.BoolLaws.{every_below, below}
use Rattle.bas.specs.Words.{check_of}
use Rattle.bas.proofs.check_octet.Goals as goal

-- an octet k places up
abbrev up : ℕ → ℕ → ℕ
up k x = x * 2 ^ k % 2 ^ 8

abbrev quotient_of : ℕ → ℕ
quotient_of code = bit_xor (bit_xor (bit_xor code (code / 2 ^ 1)) (code / 2 ^ 3)) (code / 2 ^ 6)

abbrev pair_of : ℕ → ℕ
pair_of q = bit_xor q (up 1 q)

abbrev rest_of : ℕ → ℕ
rest_of q = bit_xor (bit_xor (bit_xor (pair_of q) (up 2 q)) (up 4 q)) (up 6 (pair_of q))

right : ℕ → Bool
right code = eqb (rest_of (quotient_of code)) (check_of code)

all_right : every_below 256 right ≡ true
unfolding right check_of number remainder continued low_bits fed xors scaled xor odd
all_right = refl

pub returns : goal.returns
unfolding right
returns c = eqb-true _ _ (below 256 right all_right c.args.code (search rules))
