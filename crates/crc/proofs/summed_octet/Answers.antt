-- `crc::summed_octet` meets its contract: the test tells whether the octet has a C bit.
use Rattle.std.proofs.Common.{arith}
use Rattle.std.proofs.lemmas.Bool.Decides.{nat_tests}
use Rattle.bits.proofs.BitLaws.{without-sc}
use Rattle.crc.specs.Crc.{summed}
use Rattle.crc.proofs.summed_octet.Goals as goal

pub returns-then-contains : goal.returns-then-contains
unfolding summed
returns-then-contains c = rw without-sc (grind (arith, nat_tests))

pub returns-else-contains : goal.returns-else-contains
unfolding summed
returns-else-contains c = grind (arith, nat_tests)
