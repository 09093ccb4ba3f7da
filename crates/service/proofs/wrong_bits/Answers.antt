-- `service::wrong_bits` meets its contract: the law of the alignment word, and the machine's count of ones is the weight of the bits.
use mathlib.Core.Path.{◌∙◌}
use Prim.Native.Nat.{◌+◌, ◌*◌, ◌/◌}
use native.Mathlib.Omega.{arith}
use lib.Bits.{xor_lt}
use lib.Dec.{lit<}
use Rattle.service.proofs.ChannelLaws.{wrong_are, octet-weight}
use Rattle.service.proofs.wrong_bits.Goals as goal

pub returns : goal.returns
returns c =
    let word = c.row_at.result / 2 * 2 + c.sc_bit.result in
    octet-weight _ (xor_lt 8 word 55 (omega arith) (lit< tt)) ∙ wrong_are _ _ _ c.row_at.ensures c.sc_bit.ensures.0
