-- `recording::off_by_ruling` meets its contract: by its ruling.
use mathlib.Core.Path.{sym, ◌∙◌}
use lib.ListN.{length}
use Rattle.recording.proofs.StepLaws.{goes, off_here}
use Rattle.recording.proofs.off_by_ruling.Goals as goal

pub seek_or_end-requires : goal.seek_or_end-requires
seek_or_end-requires c =
    let a = c.args in
    let g = goes _ _ _ _ (sym c.ruling_of.ensures ∙ c.in_ok-ruling_of.was) in
    (g.inside, off_here (length a.recording.now) a.stand.now.place a.stand.now.lost c.requires g.small)
