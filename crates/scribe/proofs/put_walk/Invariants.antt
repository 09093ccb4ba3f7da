-- `scribe::put_walk` meets its contract: after `turn` turns of the loop, what they wrote stands in the text (`Going`).
use mathlib.Core.Path.{◌≡◌}
use Prim.Native.Nat.{◌-◌}
use lib.ListN.{length}
use Rattle.scribe.proofs.ListingLaws.{Going}
use Rattle.scribe.proofs.put_walk.Given as goal

abbrev pub invariant-loop-turn : goal.invariant-loop-turn
invariant-loop-turn l = record {
  same_buffer : l.page.octets.ghost_name ≡ l.initial.page.octets.ghost_name;
  going : Going l.recording l.initial.page.place l.start l.initial.page.octets.now l.page.octets.now l.page.place l.stand.place l.stand.lost l.s l.count l.turn;
}

abbrev pub decreases-loop-turn : goal.decreases-loop-turn
decreases-loop-turn l =
    length l.recording - l.turn
