-- `bits::eight_in_turn` meets its contract.
use Rattle.std.proofs.Common.{arith, ◌∙◌, refl}
use Rattle.bits.proofs.EightLaws.{eight_short}
use Rattle.bits.proofs.eight_in_turn.Goals as goal

pub returns : goal.returns
returns c =
    let g = rw c.copy_from_slice.ensures.after at c.from_be_bytes.ensures in
    g ∙ eight_short c.args.octets.now _ c.args.at _ _ (λ i. omega (arith, c.type_inv.octets i)) c.min.ensures refl c.min-n.ensures
