-- `lanes::cut_eight` meets its contract: the loop's invariant: the number has the first j octets.
use mathlib.Core.Path.{◌≡◌}
use mathlib.Core.List.{List}
use Prim.Native.Nat.{ℕ, ◌+◌, ◌-◌, ◌*◌, ◌^◌, ◌≤◌, ◌<◌}
use lib.ListN.{drop}
use Rattle.bits.specs.Bits.{bits_of}
use Rattle.eights.specs.Eight.{own_at}
use Rattle.eights.proofs.WordLaws.{firsts}
use Rattle.lanes.proofs.cut_eight.Given as goal

-- the octets from o + 1 on
abbrev pub octets_from : List ℕ → ℕ → ℕ → ℕ → ℕ → ℕ → ℕ
octets_from buffer d first last o j = own_at first last (drop d (bits_of buffer)) (o + j)

abbrev pub invariant-loop-j : goal.invariant-loop-j
invariant-loop-j l = (l.j ≤ 8) × (l.eight < 2 ^ (8 * l.j)) × (l.eight ≡ firsts (octets_from l.buffer l.d l.first l.last l.o) l.j)

abbrev pub decreases-loop-j : goal.decreases-loop-j
decreases-loop-j l = 8 - l.j
