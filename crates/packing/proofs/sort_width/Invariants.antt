-- `packing::sort_width` meets its contract. The loop's invariant: the runs of the octets passed are in the buffer.
use mathlib.Core.Path.{◌≡◌}
use mathlib.Core.Bool.{Bool}
use mathlib.Core.List.{List, ◌++◌}
use Prim.Native.Nat.{◌+◌, ◌*◌, ◌≤◌}
use lib.ListN.{length}
use Rattle.packing.specs.Filled.{Filled, runs}
use Rattle.packing.proofs.sort_width.Given as goal

abbrev pub invariant-loop-eight : goal.invariant-loop-eight
invariant-loop-eight g l =
    (l.at ≤ l.start + 8 * l.eight-index) × (length l.out ≡ length l.initial.out)
    × ((bs : List Bool) → Filled bs (l.start * 8) l.initial.out → Filled (bs ++ runs l.first g.row.N l.part 0 (8 * l.eight-index)) (l.at * 8) l.out)
