-- What a sender's state in range is: its parts, and that what it holds is small.
use mathlib.Core.Path.{◌≡◌}
use mathlib.Core.Bool.{true, ◌&&◌}
use Prim.Native.Nat.{◌<◌}
use lib.Dec.{leb}
use Rattle.bits.proofs.BoolLaws.{and_left, and_right}
use Rattle.numbers.specs.Numbers.{within}
use Rattle.table.proofs.TableLaws.{audio-small, lsd-small}
use Rattle.modes.specs.Modes.{in_range}
use Rattle.modes.proofs.ModeLaws.{Ranged, ranged, in-range}
use Rattle.sender.specs.State.{chosen_mode, follows, state_in_range}
use Rattle.sender.specs.declared.Sender.{Sender}

-- ---- the parts of a state in range
pub record Kept (s : Sender) : Type 0 where
  pub ranges : Ranged (chosen_mode s)
  pub force : follows s ≡ true
  pub block : within 1 8 s.block.0 ≡ true
  pub rest : leb s.remainder 15 ≡ true

pub kept : (s : Sender) → state_in_range s ≡ true → Kept s
unfolding state_in_range
kept s t =
    let a = in_range (chosen_mode s) in
    let b = follows s in
    let c = within 1 8 s.block.0 in
    let d = leb s.remainder 15 in
    let t3 = and_left (a && b && c) d t in
    let t2 = and_left (a && b) c t3 in
    record {
      ranges = ranged (chosen_mode s) (and_left a b t2);
      force = and_right a b t2;
      block = and_right (a && b) c t3;
      rest = and_right (a && b && c) d t;
    }

pub keeps : (s : Sender) → Kept s → state_in_range s ≡ true
unfolding state_in_range
keeps s k = rw (in-range (chosen_mode s) k.ranges, k.force, k.block, k.rest)

-- ---- what a state in range holds is small
pub chosen-small : (s : Sender) → state_in_range s ≡ true → s.chosen < 32
chosen-small s r = audio-small s.chosen (kept s r).ranges.spoken

pub lsd_in_force_small : (s : Sender) → state_in_range s ≡ true → s.mode.lsd < 15
lsd_in_force_small s r = lsd-small s.mode.lsd (kept s r).ranges.given
