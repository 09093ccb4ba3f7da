-- `lanes::write_sums` meets its contract: the loop's invariant: the octets of the first k sums are written.
use mathlib.Core.Path.{◌≡◌}
use mathlib.Core.List.{List, ◌++◌}
use Prim.Native.Nat.{ℕ, ◌+◌, ◌*◌, ◌≤◌}
use lib.ListN.{length, get_or, drop}
use Rattle.eights.specs.Eight.{all_octets}
use Rattle.lanes.proofs.write_sums.Given as goal

-- sum k
abbrev pub sum_at : List ℕ → List ℕ → ℕ → ℕ
sum_at tops ends k = get_or tops k 0 + get_or ends k 0

abbrev pub invariant-loop-k : goal.invariant-loop-k
invariant-loop-k l = record {
  within : l.k ≤ 10;
  long : length l.frame ≡ 80;
  written : l.frame ≡ all_octets (sum_at l.tops l.ends) l.k ++ drop (8 * l.k) l.initial.frame;
}
