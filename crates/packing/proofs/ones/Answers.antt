-- `packing::ones` meets its contract.
use native.Mathlib.Omega.{arith}
use lib.Pow.{pow_pos}
use Rattle.bits.proofs.ShiftLaws.{one_shl}
use Rattle.packing.proofs.ones.Goals as goal

pub overflow_sub-result : goal.overflow_sub-result
overflow_sub-result c = rw (one_shl c.args.n (omega arith)) (pow_pos c.args.n)

pub returns : goal.returns
returns c = rw (one_shl c.args.n (omega arith))
