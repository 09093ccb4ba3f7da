-- `lanes::lay_fields` meets its contract: what is loaded has no more bits than its fields, and spread it is the run.
use mathlib.Core.Path.{ap, ◌∙◌}
use Prim.Native.Nat.{◌-◌, ◌*◌}
use lib.ListN.{drop}
use Rattle.bits.specs.Bits.{bits_of, nexts}
use Rattle.bits.proofs.BitLaws.{number_bound}
use Rattle.bits.proofs.NextLaws.{length-nexts}
use Rattle.eights.specs.Eight.{spread_by}
use Rattle.eights.proofs.WordLaws.{spread-nexts}
use Rattle.lanes.proofs.lay_fields.Goals as goal

pub spread_by_width-requires-clause-by_index : goal.spread_by_width-requires-clause-by_index
spread_by_width-requires-clause-by_index c =
    let a = c.args in
    λ k f t.
    let bits = drop (8 * ((k - a.run.start) * a.fields.bits)) (bits_of a.octets.now) in
    rw (c.load_eights.ensures.1 k f t) (rw length-nexts at (number_bound (nexts (8 * a.fields.bits) bits)))

pub returns : goal.returns
returns c =
    let a = c.args in
    let loaded = c.load_eights in
    let call = c.spread_by_width in (
      λ k h. call.ensures.0 k h ∙ loaded.ensures.0 k h,
      λ k f t.
          call.ensures.1 k f t ∙ ap (spread_by a.fields.bits a.fields.up a.fields.below) (loaded.ensures.1 k f t)
          ∙ spread-nexts a.fields.bits a.fields.up a.fields.below (drop (8 * ((k - a.run.start) * a.fields.bits)) (bits_of a.octets.now)),
    )
