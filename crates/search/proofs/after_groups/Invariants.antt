-- `search::after_groups` meets its contract. The loop's invariant: what was passed over holds no place that fits.
use mathlib.Core.Path.{◌≡◌}
use Rattle.search.specs.Groups.{first_from}
use Rattle.search.proofs.after_groups.Given as goal

abbrev pub invariant-loop-k : goal.invariant-loop-k
invariant-loop-k l = first_from l.at l.recording ≡ first_from l.start l.recording
