-- `search::folded` meets its contract. The loop's invariant: the first part's entries, and those that follow so far, are as they shall be.
use mathlib.Core.Path.{◌≡◌}
use Prim.Native.Nat.{◌+◌, ◌≤◌}
use lib.ListN.{length}
use Rattle.search.specs.Groups.{Folded}
use Rattle.search.proofs.folded.Given as goal

abbrev pub invariant-loop-i : goal.invariant-loop-i
invariant-loop-i l = (l.i ≤ 168) × (length l.bits ≡ 424) × Folded (l.i + 256) l.bits l.part
