-- `packing::sort_bits` meets its contract.
use native.Mathlib.Omega.{arith}
use mathlib.Core.Path.{refl, sym, ap, ◌∙◌}
use mathlib.Core.List.{◌++◌, append-nil}
use Prim.Native.Nat.{ℕ, ◌+◌, ◌-◌, ◌%◌}
use borrow.Author.Rules.{rules}
use Rattle.packing.specs.Filled.{runs}
use Rattle.packing.proofs.RunsLaws.{length_runs, runs_on, last_bit, in_part}
use Rattle.packing.proofs.sort_bits.Goals as goal

pub loop-octet-init : goal.loop-octet-init
unfolding runs
loop-octet-init c = (omega arith, refl, λ bs h. rw (append-nil bs) h)

pub loop-octet-preserved : goal.loop-octet-preserved
loop-octet-preserved c =
    let l = c.loop-octet in
    let a = c.args in
    let line = a.line.now in
    let i = l.octet-index in (
      omega arith,
      search rules,
      λ bs h.
          rw (runs_on bs 7 1 line a.from i 1)
          (c.append_bit.ensures (bs ++ runs 7 1 line a.from i) (runs 7 1 line (a.from + i) 1) (length_runs 7 1 line (a.from + i) 1 (omega arith)) (last_bit line (a.from + i) ∙ ap (λ (x : ℕ). x % 2) (sym (in_part line a.from (a.to - a.from) i (omega arith)))) (l.invariant.2 bs h)),
    )
