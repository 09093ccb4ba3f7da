-- `packing::sort_run` meets its contract: what is packed of the part is what is packed of the block.
use native.Mathlib.Omega.{arith}
use mathlib.Core.Path.{◌≡◌}
use mathlib.Core.List.{append-nil}
use Prim.Native.Nat.{◌-◌}
use Rattle.packing.proofs.RunsLaws.{no_runs, part_packed}
use Rattle.packing.proofs.sort_run.Goals as goal

pub returns-in-0 : goal.returns-in-0
returns-in-0 c =
    let a = c.args in
    let none : a.run.bits ≡ 0 = omega arith in
    (omega arith, λ bs h. rw (none, no_runs a.run.start a.line.now a.from (a.to - a.from), append-nil bs) h)

pub returns-in-1 : goal.returns-in-1
returns-in-1 c = part_packed c.args.run.start 1 c.args.line.now (omega arith) c.requires c.sort_width.ensures

pub returns-in-2 : goal.returns-in-2
returns-in-2 c = part_packed c.args.run.start 2 c.args.line.now (omega arith) c.requires c.sort_width-in-2.ensures

pub returns-in-3 : goal.returns-in-3
returns-in-3 c = part_packed c.args.run.start 3 c.args.line.now (omega arith) c.requires c.sort_width-in-3.ensures

pub returns-in-4 : goal.returns-in-4
returns-in-4 c = part_packed c.args.run.start 4 c.args.line.now (omega arith) c.requires c.sort_width-in-4.ensures

pub returns-in-5 : goal.returns-in-5
returns-in-5 c = part_packed c.args.run.start 5 c.args.line.now (omega arith) c.requires c.sort_width-in-5.ensures

pub returns-in-6 : goal.returns-in-6
returns-in-6 c = part_packed c.args.run.start 6 c.args.line.now (omega arith) c.requires c.sort_width-in-6.ensures

pub returns-in-7 : goal.returns-in-7
returns-in-7 c = part_packed c.args.run.start 7 c.args.line.now (omega arith) c.requires c.sort_width-in-7.ensures

pub returns-in_default : goal.returns-in_default
returns-in_default c = part_packed c.args.run.start 8 c.args.line.now (omega arith) c.requires c.sort_width-in_default.ensures
