-- `packing::sort_width` meets its contract: eight by eight, what is gathered is appended.
use native.Mathlib.Omega.{arith}
use mathlib.Core.Path.{◌≡◌, refl, sym, ◌∙◌}
use mathlib.Core.List.{◌++◌, append-nil}
use borrow.Author.Rules.{rules}
use lib.ListN.{length}
use Prim.Native.Nat.{◌+◌, ◌*◌, ◌/◌}
use Rattle.bits.specs.Bits.{eight_at}
use Rattle.packing.specs.Filled.{runs}
use Rattle.packing.proofs.RunsLaws.{length_runs, runs_on, eight_in_chunks}
use Rattle.packing.proofs.sort_width.Goals as goal

pub loop-eight-init : goal.loop-eight-init
unfolding runs
loop-eight-init g c = (omega arith, refl, λ bs h. rw (append-nil bs) h)

pub loop-eight-preserved : goal.loop-eight-preserved
loop-eight-preserved g c =
    let l = c.loop-eight in
    let part = c.args.part.now in
    let s = c.args.first in
    let n = g.row.N in
    let i = l.eight-index in
    let next : 8 * (i + 1) ≡ 8 * i + 8 = omega arith in
    let at_front : 0 + 8 * i ≡ 8 * i = omega arith in
    let here : c.from_be_bytes.result ≡ eight_at part (8 * i) =
    rw c.as_chunks.ensures.front at c.from_be_bytes.ensures
    ∙ eight_in_chunks part (length part / 8) i _ (λ j. omega (arith, c.type_inv.part j)) (omega arith) in (
      omega arith,
      search rules,
      λ bs h.
          rw (next, runs_on bs s n part 0 (8 * i) 8, at_front)
          (c.append.ensures (bs ++ runs s n part 0 (8 * i)) (runs s n part (8 * i) 8) (length_runs s n part (8 * i) 8 (omega arith)) (sym (c.gathered.ensures part (8 * i) here)) (l.invariant.2 bs h)),
    )
