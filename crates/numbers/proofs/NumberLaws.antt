-- Laws of numbers: a block number goes on within its eight.
use mathlib.Core.Path.{◌≡◌, refl}
use mathlib.Core.Bool.{Bool, true, false, cond}
use Prim.Native.Nat.{◌+◌}
use native.Mathlib.Omega.{arith}
use lib.Dec.{leb, ltb}
use borrow.Author.Tests.{ltb-true, le-leb}
use Rattle.bits.proofs.BoolLaws.{and_make}
use Rattle.numbers.specs.Numbers.{within, following}
use Rattle.numbers.specs.declared.BlockNumber.{BlockNumber}

-- ---- a block is followed by one of the eight
pub following-low : (b : BlockNumber) → within 1 8 (following b).0 ≡ true
unfolding following
following-low b = go (ltb b.0 8) refl
  where
    go : (t : Bool) → ltb b.0 8 ≡ t → within 1 8 (cond t (b.0 + 1) 1) ≡ true
    go true e =
        let l = ltb-true b.0 8 e in
        and_make (leb 1 (b.0 + 1)) (leb (b.0 + 1) 8) (le-leb 1 (b.0 + 1) (omega arith)) (le-leb (b.0 + 1) 8 (omega arith))
    go false e = refl
