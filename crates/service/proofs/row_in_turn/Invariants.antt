-- `service::row_in_turn` meets its contract: the loop's invariant: the row is the number of the bits passed.
use mathlib.Core.Path.{◌≡◌}
use Prim.Native.Nat.{◌-◌, ◌≤◌}
use Rattle.bits.specs.Bits.{number}
use Rattle.service.specs.Channel.{channel_bits}
use Rattle.service.proofs.row_in_turn.Given as goal

abbrev pub invariant-loop-i : goal.invariant-loop-i
invariant-loop-i l = (l.i ≤ 8) × (l.row ≡ number (channel_bits l.i l.at l.line))

abbrev pub decreases-loop-i : goal.decreases-loop-i
decreases-loop-i l = 8 - l.i
