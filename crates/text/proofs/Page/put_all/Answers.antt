-- `Page::put_all` meets its contract: all at once where all have room.
use native.Mathlib.Omega.{arith}
use mathlib.Core.Path.{◌≡◌, refl}
use Prim.Native.Nat.{◌+◌, ◌-◌}
use lib.ListN.{length}
use lib.Seq.{take-suc}
use native.Mathlib.Numerals.{add-one}
use Rattle.text.proofs.OverLaws.{over_at-whole, written_none}
use Rattle.text.proofs.PageLaws.{wrote_then}
use Rattle.text.proofs.Page.put_all.Goals as goal

pub returns-then-end-size : goal.returns-then-end-size
returns-then-end-size c =
    let page = c.args.self.now in
    let i = c.place_in-self.result in
    let xs = c.args.xs.now in
    let here : i ≡ page.place = omega arith in
    let n : i + length xs - i ≡ length xs = omega arith in
    record {
      same_buffer = refl;
      written = record { place = omega arith; octets = rw (n, c.copy_from_slice.ensures.after, here) (over_at-whole page.place xs page.octets.now (omega (arith, here))) };
    }

pub loop-x-init : goal.loop-x-init
loop-x-init c = record { same_buffer = refl; written = written_none _ _ _ c.place_in-self.ensures }

pub loop-x-preserved : goal.loop-x-preserved
loop-x-preserved c =
    let l = c.loop-x in
    rw (add-one l.x-index, take-suc c.args.xs.now l.x-index 0 (omega arith)) (wrote_then l.invariant c.put.ensures)
