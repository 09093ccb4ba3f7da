-- `crc::whole_crc` meets its contract: each step goes over the next of the folded numbers, and the block leaves what they leave.
use mathlib.Core.Path.{◌≡◌, ap, ◌∙◌}
use Prim.Native.Nat.{◌/◌, ◌^◌}
use native.Mathlib.Omega.{arith}
use lib.Bits.{bit_xor}
use lib.Dec.{lit<}
use lib.ListN.{length}
use Rattle.bits.specs.Bits.{number, eight_at}
use Rattle.crc.specs.Crc.{crc4_of, summed_from, block_crc_of}
use Rattle.crc.proofs.CrcLaws.{length-summed_from}
use Rattle.crc.proofs.FoldLaws.{fold_of, folded, laid_first, laid_next, half_is, two_is, three_is, summed_with_c, middle_before, middle_after}
use borrow.Author.Rules.{rules}
use Rattle.crc.proofs.whole_crc.Goals as goal

pub returns : goal.returns
unfolding block_crc_of crc4_of
returns c =
    let s = c.args.block.now in
    let h : length s ≡ 160 = search rules in
    let f = fold_of (summed_from 0 s) in
    let at_40 : c.eight.result ≡ eight_at s 40 = search rules in
    let at_100 : c.eight-2.result ≡ eight_at s 100 = search rules in
    let at_44 : c.eight-3.result ≡ eight_at s 44 = search rules in
    let at_104 : c.eight-4.result ≡ eight_at s 104 = search rules in
    let at_52 : c.eight-5.result ≡ eight_at s 52 = search rules in
    let at_112 : c.eight-6.result ≡ eight_at s 112 = search rules in
    let at_0 : c.eight-7.result ≡ eight_at s 0 = search rules in
    let at_60 : c.eight-8.result ≡ eight_at s 60 = search rules in
    let at_120 : c.eight-9.result ≡ eight_at s 120 = search rules in
    let at_8 : c.eight-10.result ≡ eight_at s 8 = search rules in
    let at_68 : c.eight-11.result ≡ eight_at s 68 = search rules in
    let at_128 : c.eight-12.result ≡ eight_at s 128 = search rules in
    let at_16 : c.eight-13.result ≡ eight_at s 16 = search rules in
    let at_76 : c.eight-14.result ≡ eight_at s 76 = search rules in
    let at_136 : c.eight-15.result ≡ eight_at s 136 = search rules in
    let at_84 : c.eight-c_bits_out.result ≡ eight_at s 84 = search rules in
    let at_24 : c.eight-16.result ≡ eight_at s 24 = search rules in
    let at_144 : c.eight-17.result ≡ eight_at s 144 = search rules in
    let at_32 : c.eight-18.result ≡ eight_at s 32 = search rules in
    let at_92 : c.eight-19.result ≡ eight_at s 92 = search rules in
    let at_152 : c.eight-20.result ≡ eight_at s 152 = search rules in
    let half : bit_xor c.eight.result c.eight-2.result / 2 ^ 32 ≡ bit_xor (eight_at s 40) (eight_at s 100) / 2 ^ 32 = rw (at_40, at_100) in
    let r0 = laid_first f _ (half ∙ (half_is s h).0) (rw half (half_is s h).1) in
    let r1 = laid_next f 0 _ _ _ r0 c.sum_with-one.ensures (rw (at_44, at_104) (two_is s 0 h (lit< tt))) in
    let r2 = laid_next f 1 _ _ _ r1 c.sum_with-two.ensures (rw (at_52, at_112) (two_is s 1 h (lit< tt))) in
    let r3 = laid_next f 2 _ _ _ r2 c.sum_with-three.ensures (rw (at_0, at_60, at_120) (three_is s 0 _ h (lit< tt) (middle_before s 60 h (omega arith)))) in
    let r4 = laid_next f 3 _ _ _ r3 c.sum_with-four.ensures (rw (at_8, at_68, at_128) (three_is s 1 _ h (lit< tt) (middle_before s 68 h (omega arith)))) in
    let r5 = laid_next f 4 _ _ _ r4 c.sum_with-five.ensures (rw (at_16, at_76, at_136) (three_is s 2 _ h (lit< tt) (middle_before s 76 h (omega arith)))) in
    let r6 = laid_next f 5 _ _ _ r5 c.sum_with-six.ensures (rw (at_24, at_84, at_144) (three_is s 3 _ h (lit< tt) (summed_with_c s h))) in
    let r7 = laid_next f 6 _ _ _ r6 c.sum_with-seven.ensures (rw (at_32, at_92, at_152) (three_is s 4 _ h (lit< tt) (middle_after s h))) in
    c.crc4_of_sum.ensures ∙ ap number (r7 ∙ folded (summed_from 0 s) (length-summed_from 0 s ∙ h))
