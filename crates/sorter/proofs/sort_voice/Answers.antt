-- `sorter::sort_voice` meets its contract: the one run of every octet is all that voice has.
use mathlib.Core.Path.{ap, ◌∙◌}
use borrow.Author.Rules.{rules}
use lib.ListN.{length}
use Rattle.bits.specs.Bits.{octets}
use Rattle.sorter.proofs.SortLaws.{voice_all}
use Rattle.sorter.proofs.sort_voice.Goals as goal

pub returns : goal.returns
returns c =
    let a = c.args in
    c.sort_columns.ensures ∙ ap (octets (length a.out.now)) (voice_all a.p a.line.now c.requires.apart (search rules))
