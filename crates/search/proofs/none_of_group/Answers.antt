-- `search::none_of_group` meets its contract: all eight bits where the places are folded, the lowest alone where they are not.
use mathlib.Core.Path.{sym, ap, ◌∙◌}
use Prim.Native.Nat.{ℕ}
use native.Mathlib.Omega.{arith}
use Rattle.bits.specs.Bits.{odd}
use Rattle.search.specs.Groups.{none_of}
use Rattle.search.proofs.PlaneLaws.{low_bit}
use Rattle.search.proofs.GroupLaws.{none_folded}
use Rattle.search.proofs.none_of_group.Goals as goal

pub returns-then-places-eq2048 : goal.returns-then-places-eq2048
returns-then-places-eq2048 c =
    let f = c.folded-bits in
    let part = c.args.part.now in
    none_folded c.none_of.result f.result part (omega arith) (omega arith) (omega arith) f.ensures c.none_of.ensures
    ∙ ap (λ (n : ℕ). none_of n part) (sym c.if-places-eq2048.true)

pub returns : goal.returns
unfolding odd
returns c =
    let a = c.args in
    low_bit c.none_of-2.result (none_of a.places) a.part.now c.none_of-2.ensures
