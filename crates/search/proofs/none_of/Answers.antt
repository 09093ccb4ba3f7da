-- `search::none_of` meets its contract. The loop's invariant: each bit says that none of the places passed fits.
use mathlib.Core.Path.{ap₂, ◌∙◌}
use mathlib.Core.Bool.{◌&&◌}
use native.Mathlib.Omega.{arith}
use Rattle.bits.proofs.BitLaws.{bit-and}
use Rattle.search.specs.Groups.{plane, none_of}
use Rattle.search.proofs.PlaneLaws.{all_ones}
use Rattle.search.proofs.GroupLaws.{none_turn}
use Rattle.search.proofs.none_of.Goals as goal

pub loop-i-init : goal.loop-i-init
unfolding none_of
loop-i-init c = (omega arith, all_ones)

pub loop-i-preserved : goal.loop-i-preserved
loop-i-preserved c =
    let l = c.loop-i in
    let part = c.args.part.now in (
      omega arith,
      λ k h. bit-and l.all c.wrong_at-all.result k ∙ ap₂ ◌&&◌ (l.invariant.1 k h) (c.wrong_at-all.ensures k h) ∙ none_turn l.i (plane k part),
    )
