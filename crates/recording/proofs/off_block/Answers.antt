-- `recording::off_block` meets its contract: past the end there are no octets.
use mathlib.Core.Path.{refl}
use mathlib.Core.Bool.{or-true}
use Prim.Native.Nat.{◌-◌}
use native.Mathlib.Omega.{arith}
use lib.Dec.{ltb}
use borrow.Author.Tests.{lt-ltb}
use Rattle.buffers.specs.Lengths.{line_octets}
use Rattle.recording.proofs.off_block.Goals as goal

pub returns-then-all-place : goal.returns-then-all-place
returns-then-all-place c =
    let a = c.args in
    rw (lt-ltb (a.all - a.place) line_octets (omega arith), or-true a.lost, or-true (ltb 65536 a.all))

pub returns : goal.returns
returns c = refl
