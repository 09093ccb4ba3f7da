-- `search::folded_at` meets its contract. The loop's invariant: the bits so far are the SC of the last octets.
use mathlib.Core.Path.{◌≡◌}
use Prim.Native.Nat.{ℕ, ◌+◌, ◌-◌, ◌*◌, ◌/◌, ◌^◌, ◌≤◌, ◌<◌}
use lib.ListN.{get_or}
use Rattle.bits.specs.Bits.{odd, sc_bit}
use Rattle.search.proofs.folded_at.Given as goal

abbrev pub invariant-loop-k : goal.invariant-loop-k
invariant-loop-k l = (l.k ≤ 8) × ((m : ℕ) → m < l.k → odd (l.bits / 2 ^ m) ≡ sc_bit (get_or l.part (256 * (8 - l.k + m) + l.at) 0))
