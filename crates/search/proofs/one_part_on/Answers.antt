-- `search::one_part_on` meets its contract.
use Prim.Native.Nat.{◌<◌}
use borrow.Author.Rules.{rules}
use Rattle.search.proofs.PlaneLaws.{bit-above, bits_below}
use Rattle.search.proofs.one_part_on.Goals as goal

pub returns : goal.returns
returns c =
    let h : c.args.bits < 256 = search rules in
    (bit-above c.args.bits c.args.octet h, λ k w. bits_below c.args.bits c.args.octet k h w)
