-- `crc::stepped_crc` meets its contract. The loop's invariant: the sum is that of the octets passed, as they are summed.
use mathlib.Core.Path.{◌≡◌}
use lib.ListN.{take}
use Rattle.crc.specs.Crc.{crc4_from, summed_from}
use Rattle.crc.proofs.stepped_crc.Given as goal

abbrev pub invariant-loop-at : goal.invariant-loop-at
invariant-loop-at l = l.sum ≡ crc4_from 0 (take l.at (summed_from 0 l.block))
