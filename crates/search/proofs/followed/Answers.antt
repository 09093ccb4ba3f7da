-- `search::followed` meets its contract.
use Rattle.search.proofs.PlaneLaws.{bit_below, bits_above}
use Rattle.search.proofs.followed.Goals as goal

pub returns : goal.returns
returns c = (bit_below c.args.bits c.args.octet, bits_above c.args.bits c.args.octet)
