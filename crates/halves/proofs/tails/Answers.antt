-- `halves::tails` meets its contract: the laws of the eights that have service bits, and of those that have none.
use mathlib.Core.Path.{◌≡◌, ◌∙◌}
use Prim.Native.Nat.{◌/◌, ◌%◌, ◌<◌}
use native.Mathlib.Omega.{arith}
use lib.ListN.{length, get_or, drop}
use Rattle.bits.specs.Bits.{low_bits, bits_of}
use Rattle.halves.specs.Parts.{word_at, tail_at}
use Rattle.halves.proofs.PartLaws.{eight_unserved}
use Rattle.halves.proofs.TailLaws.{Served, served_first, served-second}
use Rattle.halves.proofs.WrittenLaws.{two_set}
use borrow.Author.Rules.{rules}
use Rattle.halves.proofs.tails.Goals as goal

pub ended-first-requires : goal.ended-first-requires
ended-first-requires c =
    let a = c.args in
    let small : a.service < 65536 = search rules in
    let is-first : Served a.p a.service (drop a.d (bits_of a.lsd.now)) 0 (get_or c.data_eights.new.lanes 0 0) (a.service / 256) =
    served_first a.p a.service (drop a.d (bits_of a.lsd.now)) (get_or c.data_eights.new.lanes 0 0) c.requires.apart small
    (c.data_eights.ensures 0 (omega arith)) in
    (omega arith, is-first.0, is-first.1)

pub ended-second-requires : goal.ended-second-requires
ended-second-requires c =
    let a = c.args in
    let is-second : Served a.p a.service (drop a.d (bits_of a.lsd.now)) 1 (get_or c.data_eights.new.lanes 1 0) (a.service % 256) =
    served-second a.p a.service (drop a.d (bits_of a.lsd.now)) (get_or c.data_eights.new.lanes 1 0) c.requires.apart
    (c.data_eights.ensures 1 (omega arith)) in
    (omega arith, is-second.0, is-second.1)

pub returns : goal.returns
returns c =
    let a = c.args in
    let is-second : Served a.p a.service (drop a.d (bits_of a.lsd.now)) 1 (get_or c.data_eights.new.lanes 1 0) (a.service % 256) =
    served-second a.p a.service (drop a.d (bits_of a.lsd.now)) (get_or c.data_eights.new.lanes 1 0) c.requires.apart
    (c.data_eights.ensures 1 (omega arith)) in
    let small : a.service < 65536 = search rules in
    let is-first : Served a.p a.service (drop a.d (bits_of a.lsd.now)) 0 (get_or c.data_eights.new.lanes 0 0) (a.service / 256) =
    served_first a.p a.service (drop a.d (bits_of a.lsd.now)) (get_or c.data_eights.new.lanes 0 0) c.requires.apart small
    (c.data_eights.ensures 0 (omega arith)) in
    let call = c.data_eights in
    let l = call.new.lanes in
    let long : length l ≡ 10 = call.array_long in
    let bs = low_bits 16 a.service in
    let ds = drop a.d (bits_of a.lsd.now) in
    two_set l 10 c.ended-first.result c.ended-second.result (word_at (tail_at a.p bs ds)) (omega (arith, long))
    (c.ended-first.ensures ∙ is-first.2) (c.ended-second.ensures ∙ is-second.2) (λ k h m. call.ensures k m ∙ eight_unserved a.p bs ds k h)
