-- `reading::take` meets its contract: the runs of a state in range are at most 2.
use mathlib.Core.Path.{sym, ◌∙◌}
use Rattle.reading.proofs.OutcomeLaws.{taken}
use Rattle.reader.proofs.StateLaws.{kept}
use Rattle.reading.proofs.take.Goals as goal

pub step-requires : goal.step-requires
step-requires c =
    let t = taken _ _ _ (sym c.ruling_of.ensures ∙ c.in_ok-ruling_of.was) in
    let k = kept _ t.range in
    (k.wrong-low, k.misses_low)
