-- `bits::eight_within` meets its contract.
use Rattle.std.proofs.Common.{arith, ◌∙◌, ◌-◌}
use lib.ListN.{length}
use Rattle.bits.proofs.EightLaws.{eight_cut}
use Rattle.bits.proofs.eight_within.Goals as goal

pub returns : goal.returns
returns c =
    let a = c.args in
    let cut = rw c.unwrap-eight.ensures at c.first_chunk.ensures.cases in
    c.from_be_bytes.ensures
    ∙ eight_cut a.octets.now c.unwrap-eight.result.now a.at (length a.octets.now - a.at) (λ i. omega (arith, c.type_inv.octets i)) (omega arith) cut.same
