-- `eights::alike` meets its contract: the law of a number in each of eight octets.
use Rattle.eights.proofs.WordLaws.{eights_same}
use Rattle.eights.proofs.alike.Goals as goal

pub returns : goal.returns
returns c = eights_same c.args.octet
