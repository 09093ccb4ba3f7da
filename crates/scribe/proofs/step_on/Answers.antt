-- `scribe::step_on` meets its contract: no row refuses the look.
use mathlib.Core.Path.{refl, ◌∙◌}
use Rattle.recording.proofs.StepLaws.{look_here}
use Rattle.scribe.proofs.step_on.Goals as goal

pub returns : goal.returns
returns c =
    let a = c.args in
    c.look_from.ensures ∙ look_here a.recording.now a.stand.now.place a.stand.now.lost a.s.now (record {
      range = c.requires.0;
      streams = refl;
      small = c.requires.1;
      inside = c.requires.2;
    })
