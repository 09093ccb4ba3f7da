-- `search::after_last_group` meets its contract: the places from the start on are among those that were tested.
use mathlib.Core.Path.{◌≡◌}
use mathlib.Core.Bool.{true}
use Prim.Native.Nat.{◌-◌}
use native.Mathlib.Omega.{arith}
use lib.ListN.{length, drop}
use Rattle.search.specs.Groups.{none_of}
use Rattle.search.proofs.PlaceLaws.{lent-part}
use Rattle.search.proofs.GroupLaws.{passed_to_the_end}
use Rattle.search.proofs.after_last_group.Goals as goal

pub returns : goal.returns
returns c =
    let a = c.args in
    let recording = a.recording.now in
    let last = length recording - 2216 in
    let none : none_of 2048 (drop last recording) ≡ true =
    rw (c.none_of_group.ensures, lent-part last recording) at c.if-not-none_of_group.false in
    passed_to_the_end 2048 last a.start recording (omega arith) (omega arith) (omega arith) none
