-- `sorter::sort_columns` meets its contract: all octets are gone through from a buffer of zeros on.
use mathlib.Core.List.{[]}
use mathlib.Core.Path.{refl, ◌∙◌}
use lib.ListN.{length}
use Rattle.packing.proofs.FillLaws.{cleared, filled_with}
use Rattle.sorter.proofs.sort_columns.Goals as goal

pub returns : goal.returns
returns c =
    let a = c.args in
    let blank = c.fill in
    let r = c.sort_run in
    filled_with _ _ _ (length a.out.now) _ (r.ensures.1 [] (cleared (length a.out.now) _ (blank.ensures.after (λ y e. e)))) (r.auto.out ∙ blank.auto.self) refl
