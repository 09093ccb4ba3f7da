-- `lanes::lay` meets its contract: what is below alone where there are no fields, and else the run as it is laid.
use mathlib.Core.Path.{◌∙◌}
use Prim.Native.Nat.{◌-◌, ◌*◌}
use native.Mathlib.Omega.{arith}
use lib.ListN.{drop}
use Rattle.bits.specs.Bits.{bits_of}
use Rattle.eights.proofs.WordLaws.{raised_none}
use Rattle.lanes.proofs.lay.Goals as goal

pub returns-then-fields-eq0 : goal.returns-then-fields-eq0
returns-then-fields-eq0 c =
    let a = c.args in
    let call = c.fill_eights in (
      call.ensures.0,
      λ k f t.
          call.ensures.1 k f t ∙ c.alike.ensures
          ∙ raised_none a.fields.bits a.fields.up a.fields.below (drop (8 * ((k - a.run.start) * a.fields.bits)) (bits_of a.octets.now)) (omega arith),
    )
