-- `sorter::sort_lsd` meets its contract: without SC octets the one run of every octet is all that data has.
use native.Mathlib.Omega.{arith}
use mathlib.Core.Path.{ap, ◌∙◌}
use borrow.Author.Rules.{rules}
use lib.ListN.{length}
use Rattle.bits.specs.Bits.{octets}
use Rattle.sorter.proofs.SortLaws.{lsd_all}
use Rattle.sorter.proofs.sort_lsd.Goals as goal

pub returns-then-p : goal.returns-then-p
returns-then-p c =
    let a = c.args in
    c.sort_columns.ensures ∙ ap (octets (length a.out.now)) (lsd_all a.p a.line.now c.requires.apart (search rules) (omega arith))
