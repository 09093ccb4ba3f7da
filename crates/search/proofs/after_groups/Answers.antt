-- `search::after_groups` meets its contract. The loop's invariant: what was passed over holds no place that fits.
use mathlib.Core.Path.{◌≡◌, ◌∙◌}
use mathlib.Core.Bool.{true}
use native.Mathlib.Omega.{arith}
use lib.ListN.{drop}
use Rattle.search.specs.Groups.{none_of}
use Rattle.search.proofs.PlaceLaws.{lent-part}
use Rattle.search.proofs.GroupLaws.{passed_over}
use Rattle.search.proofs.after_groups.Goals as goal

pub loop-k-preserved : goal.loop-k-preserved
loop-k-preserved c =
    let a = c.args in
    let recording = a.recording.now in
    let none : none_of a.places (drop c.loop-k.at recording) ≡ true =
    rw (c.none_of_group.ensures, lent-part c.loop-k.at recording) at c.if-not-none_of_group.false in
    passed_over a.places c.loop-k.at recording (omega arith) none ∙ c.loop-k.invariant
