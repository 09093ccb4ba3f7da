-- `crc::stepped_crc` meets its contract.
use mathlib.Core.Path.{sym, ap, ap₂, ◌∙◌}
use mathlib.Core.List.{[], ◌∷◌}
use Prim.Native.Nat.{ℕ, ◌≤◌, ◌<◌}
use native.Mathlib.Omega.{arith}
use lib.ListN.{length}
use lib.Seq.{take_all}
use Rattle.crc.specs.Crc.{crc4_from, summed_from, block_crc_of}
use Rattle.crc.proofs.CrcLaws.{crc4_from-nil, crc4_from-zero, crc4_from-turn, length-summed_from, summed_at}
use Rattle.crc.proofs.stepped_crc.Goals as goal

pub loop-at-init : goal.loop-at-init
loop-at-init c = sym (crc4_from-nil 0)

pub loop-at-preserved : goal.loop-at-preserved
loop-at-preserved c =
    let block = c.args.block.now in
    let i = c.loop-at.at in
    let inside : i < length block = omega arith in
    c.crc4_octet-sum.ensures
    ∙ ap₂ (λ (r x : ℕ). crc4_from r (x ∷ [])) c.loop-at.invariant (c.summed_octet.ensures ∙ summed_at block i inside)
    ∙ crc4_from-turn 0 (summed_from 0 block) i (rw (length-summed_from 0 block) inside)

pub returns : goal.returns
unfolding block_crc_of
returns c =
    let block = c.args.block.now in
    let i = c.loop-at.at in
    let past : length block ≤ i = omega arith in
    c.loop-at.invariant
    ∙ ap (crc4_from 0) (take_all i (summed_from 0 block) (rw (length-summed_from 0 block) past))
    ∙ crc4_from-zero (summed_from 0 block)
