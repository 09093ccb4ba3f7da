-- `sorter::sort_frame` meets its contract: the octets before data's SC octets, those, and the octets after them have one run each.
use native.Mathlib.Omega.{arith}
use mathlib.Core.Logic.{inl, inr}
use mathlib.Core.Path.{◌≡◌}
use Prim.Native.Nat.{◌+◌, ◌-◌}
use borrow.Author.Rules.{rules}
use lib.ListN.{length}
use Rattle.buffers.specs.Lengths.{line_octets}
use Rattle.modes.specs.declared.Owner.TheVariants.{Lsd}
use Rattle.sorter.specs.Sofar.{sofar}
use Rattle.sorter.proofs.SortLaws.{lsd-without, lsd_with, whole-eights}
use Rattle.sorter.proofs.sort_frame.Goals as goal

pub sort_run-before-requires : goal.sort_run-before-requires
sort_run-before-requires c =
    let h = c.requires.apart in
    let e = whole-eights c.args.p c.requires.p_value.0 in
    let begins = e.0 in
    let ends = e.1 in
    let within = h.within in
    let after = h.after in
    let runs = h.runs in
    let until = h.until in
    (omega arith, omega arith, omega arith, omega arith, omega arith)

pub sort_run-inside-requires : goal.sort_run-inside-requires
sort_run-inside-requires c =
    let h = c.requires.apart in
    let e = whole-eights c.args.p c.requires.p_value.0 in
    let begins = e.0 in
    let ends = e.1 in
    let within = h.within in
    let after = h.after in
    let runs = h.runs in
    let until = h.until in
    let before = c.sort_run-before.ensures.0 in
    (omega arith, omega arith, omega arith, omega arith, omega arith)

pub sort_run-requires : goal.sort_run-requires
sort_run-requires c =
    let h = c.requires.apart in
    let e = whole-eights c.args.p c.requires.p_value.0 in
    let begins = e.0 in
    let ends = e.1 in
    let within = h.within in
    let after = h.after in
    let runs = h.runs in
    let until = h.until in
    let inside = c.sort_run-inside.ensures.0 in
    (omega arith, omega arith, omega arith, omega arith, omega arith)

pub returns : goal.returns
returns c =
    let p = c.args.p in
    let line = c.args.line.now in
    let from = c.args.from in
    let h = c.requires.apart in
    let after = h.after in
    let runs = h.runs in
    let until = h.until in
    let whole : length line ≡ line_octets = search rules in
    let even = c.requires.p_value.1 in
    let a = from + (p.first - 1) in
    let b = from + p.last in
    let r1 = c.sort_run-before in
    let r2 = c.sort_run-inside in
    let r3 = c.sort_run in (
      r3.ensures.0,
      λ filled.
          rw (lsd-without p line from b (from + 80) h whole even (omega arith) (omega arith) (omega arith) (omega arith) (inr (omega arith)))
          (r3.ensures.1 (sofar p Lsd line b)
          (rw (lsd_with p line from a b h whole even (omega arith) (omega arith) (omega arith) (omega arith))
          (r2.ensures.1 (sofar p Lsd line a)
          (rw (lsd-without p line from from a h whole even (omega arith) (omega arith) (omega arith) (omega arith) (inl (omega arith)))
          (r1.ensures.1 (sofar p Lsd line from) filled))))),
    )
