-- `search::first_from` meets its contract. The loop's invariant: the places passed do not fit, so that the answer is the first of those left.
use mathlib.Core.Path.{◌≡◌}
use Rattle.search.specs.Groups.{first_from}
use Rattle.search.proofs.first_from.Given as goal

abbrev pub invariant-loop-at : goal.invariant-loop-at
invariant-loop-at l = first_from l.from l.recording ≡ first_from l.at l.recording
