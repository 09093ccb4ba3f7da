-- `crc::sum_with` meets its contract: it is the law of eight octets more.
use borrow.Author.Rules.{rules}
use Rattle.crc.proofs.SumLaws.{sum_more}
use Rattle.crc.proofs.sum_with.Goals as goal

pub returns : goal.returns
returns c = sum_more c.args.sum c.args.eight (search rules)
