-- `search::folded_at` meets its contract. The loop's invariant: the bits so far are the SC of the last octets.
use mathlib.Core.Path.{ap, ◌∙◌}
use mathlib.Core.Bool.{Bool}
use Prim.Native.Nat.{ℕ, ◌+◌, ◌-◌, ◌*◌}
use native.Mathlib.Omega.{arith}
use lib.ListN.{get_or}
use Rattle.bits.specs.Bits.{sc_bit}
use Rattle.search.proofs.PlaneLaws.{one_below}
use Rattle.search.proofs.folded_at.Goals as goal

pub loop-k-preserved : goal.loop-k-preserved
loop-k-preserved c =
    let l = c.loop-k in
    let a = c.args in
    let sc : ℕ → Bool = λ j. sc_bit (get_or a.part.now (256 * j + a.at) 0) in
    let f = c.followed-bits.ensures in (
      omega arith,
      one_below l.k l.bits c.followed-bits.result (λ m. sc (8 - (l.k + 1) + m)) (omega arith)
          (f.0 ∙ ap sc (omega arith)) f.1 (λ m h. l.invariant.1 m h ∙ ap sc (omega arith)),
    )
