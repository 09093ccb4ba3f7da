-- `search::none_of` meets its contract. The loop's invariant: each bit says that none of the places passed fits.
use Prim.Native.Nat.{◌≤◌}
use Rattle.search.specs.Groups.{EachBit, plane, none_of}
use Rattle.search.proofs.none_of.Given as goal

abbrev pub invariant-loop-i : goal.invariant-loop-i
invariant-loop-i l = (l.i ≤ l.places) × EachBit l.all (λ k. none_of l.i (plane k l.part))
