-- `search::laid_over` meets its contract. The loop's invariant: the entries so far are as they shall be.
use mathlib.Core.Path.{◌≡◌}
use Prim.Native.Nat.{ℕ, ◌+◌, ◌*◌, ◌≤◌, ◌<◌}
use lib.ListN.{length, get_or}
use Rattle.bits.specs.Bits.{sc_bit}
use Rattle.search.specs.Groups.{EachBit}
use Rattle.search.proofs.laid_over.Given as goal

abbrev pub invariant-loop-i : goal.invariant-loop-i
invariant-loop-i l =
    (l.i ≤ 256) × (length l.bits ≡ 424) × ((j : ℕ) → j < l.i → EachBit (get_or l.bits j 0) (λ k. sc_bit (get_or l.part (256 * k + j) 0)))
