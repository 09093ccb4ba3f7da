-- `modes::is_in_range` meets its contract: both values are marked as listed, and their places are compared as ranges.
use Rattle.table.proofs.TableLaws.{audio_marked, lsd_marked}
use Rattle.modes.specs.Modes.{in_range}
use Rattle.modes.proofs.OwnerLaws.{overlaps_is}
use Rattle.modes.proofs.Mode.is_in_range.Goals as goal

pub returns : goal.returns
unfolding in_range
returns c =
    let m = c.args.self in
    rw (overlaps_is m, c.touch.ensures, c.lsd_places-lsd.ensures, c.audio_places-voice.ensures, audio_marked m.audio, lsd_marked m.lsd)
