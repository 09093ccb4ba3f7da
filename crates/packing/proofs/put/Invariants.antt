-- `packing::put` meets its contract. The loop's invariant: of the number's octets the first k are in the buffer.
use mathlib.Core.Path.{◌≡◌}
use mathlib.Core.Bool.{Bool}
use mathlib.Core.List.{List, ◌++◌}
use Prim.Native.Nat.{ℕ, ◌-◌, ◌*◌, ◌≤◌, min}
use lib.ListN.{length, take}
use Rattle.bits.specs.Bits.{number, octets}
use Rattle.packing.specs.Filled.{Filled}
use Rattle.packing.proofs.put.Given as goal

-- j of the number's octets are in the buffer
unfoldable pub Put : (out₀ out : List ℕ) (at x j : ℕ) → Type 0
Put out₀ out at x j =
    (bs xs : List Bool) → length xs ≡ 64 → number xs ≡ x → Filled bs (at * 8) out₀ → out ≡ octets (length out₀) (bs ++ take (8 * j) xs)

abbrev pub invariant-loop-k : goal.invariant-loop-k
invariant-loop-k l = (l.k ≤ 8) × (length l.out ≡ length l.initial.out) × Put l.initial.out l.out l.at l.x (min l.k l.n)

abbrev pub decreases-loop-k : goal.decreases-loop-k
decreases-loop-k l = 8 - l.k
