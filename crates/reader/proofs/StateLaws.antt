-- What a reader's state in range is: its parts, and that a fresh one is.
use mathlib.Core.Path.{◌≡◌, refl}
use mathlib.Core.Bool.{true, ◌&&◌}
use Prim.Native.Nat.{◌≤◌}
use native.Mathlib.Omega.{arith}
use lib.Dec.{leb}
use borrow.Author.Tests.{leb-true, le-leb}
use Rattle.bits.proofs.BoolLaws.{and_left, and_right}
use Rattle.modes.specs.Modes.{audio_off, lsd_off, off, mode, in_range}
use Rattle.modes.proofs.ModeLaws.{in-range, off-ranged}
use Rattle.reader.specs.State.{state_in_range, fresh_in}
use Rattle.reader.specs.declared.Reader.{Reader}

-- ---- the parts of a state in range
pub record Kept (s : Reader) : Type 0 where
  pub force : in_range s.mode ≡ true
  pub back : in_range s.kept ≡ true
  pub wrong-low : s.wrong ≤ 2
  pub misses_low : s.misses ≤ 2
  pub rest : leb s.remainder 15 ≡ true
  pub place : s.block.0 ≤ 8

pub kept : (s : Reader) → state_in_range s ≡ true → Kept s
unfolding state_in_range
kept s t =
    let a = in_range s.mode in
    let b = in_range s.kept in
    let c = leb s.wrong 2 in
    let d = leb s.misses 2 in
    let e = leb s.remainder 15 in
    let f = leb s.block.0 8 in
    let t5 = and_left (a && b && c && d && e) f t in
    let t4 = and_left (a && b && c && d) e t5 in
    let t3 = and_left (a && b && c) d t4 in
    let t2 = and_left (a && b) c t3 in
    record {
      force = and_left a b t2;
      back = and_right a b t2;
      wrong-low = leb-true s.wrong 2 (and_right (a && b) c t3);
      misses_low = leb-true s.misses 2 (and_right (a && b && c) d t4);
      rest = and_right (a && b && c && d) e t5;
      place = leb-true s.block.0 8 (and_right (a && b && c && d && e) f t);
    }

pub keeps : (s : Reader) → Kept s → state_in_range s ≡ true
unfolding state_in_range
keeps s k =
    rw (k.force, k.back, le-leb s.wrong 2 k.wrong-low, le-leb s.misses 2 k.misses_low, k.rest, le-leb s.block.0 8 k.place)

-- a fresh state is in range
pub fresh_in_range : state_in_range (fresh_in off) ≡ true
fresh_in_range =
    let m = in-range (mode audio_off lsd_off) off-ranged in
    keeps _ (record { force = m; back = m; wrong-low = omega arith; misses_low = omega arith; rest = refl; place = omega arith })
