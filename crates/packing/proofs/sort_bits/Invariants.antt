-- `packing::sort_bits` meets its contract. The loop's invariant: the last bits of the octets passed are in the buffer.
use mathlib.Core.Path.{◌≡◌}
use mathlib.Core.Bool.{Bool}
use mathlib.Core.List.{List, ◌++◌}
use Prim.Native.Nat.{◌+◌}
use lib.ListN.{length}
use Rattle.packing.specs.Filled.{Filled, runs}
use Rattle.packing.proofs.sort_bits.Given as goal

abbrev pub invariant-loop-octet : goal.invariant-loop-octet
invariant-loop-octet l =
    (l.done ≡ l.start + l.octet-index) × (length l.out ≡ length l.initial.out)
    × ((bs : List Bool) → Filled bs l.start l.initial.out → Filled (bs ++ runs 7 1 l.line l.from l.octet-index) l.done l.out)
