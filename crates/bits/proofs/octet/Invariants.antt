-- `bits::octet` meets its contract. The loop's invariant: the octet so far is what so many bits spell.
use mathlib.Core.Path.{◌≡◌}
use Rattle.bits.specs.Bits.{number}
use lib.ListN.{take}
use Rattle.bits.proofs.octet.Given as goal

abbrev pub invariant-loop-bit : goal.invariant-loop-bit
invariant-loop-bit l = l.octet ≡ number (take l.bit-index l.fn.bits)
