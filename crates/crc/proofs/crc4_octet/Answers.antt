-- `crc::crc4_octet` meets its contract: the register goes into the octet's first four bits, and what they leave into the other four.
use mathlib.Core.Path.{◌≡◌, sym, ap, ◌∙◌}
use mathlib.Core.Bool.{Bool}
use mathlib.Core.List.{List, append-nil}
use Prim.Native.Nat.{ℕ, ◌/◌}
use lib.Bits.{bit_xor}
use lib.Dec.{lit<}
use Rattle.bits.specs.Bits.{low_bits, number, xors}
use Rattle.bits.specs.Remainder.{continued, remainder}
use Rattle.crc.specs.Crc.{crc4_generator, crc4_from}
use Rattle.bits.proofs.BitLaws.{low_bits-xor, low_bits-append, low_bits-back, length-low_bits, bits_of_one}
use Rattle.bits.proofs.RemainderLaws.{length-remainder, continued-append, continued_is}
use Rattle.crc.proofs.crc4_octet.Goals as goal

-- four bits more
more : (s h : ℕ) → remainder crc4_generator (low_bits 4 (bit_xor s h)) ≡ continued crc4_generator (low_bits 4 s) (low_bits 4 h)
more s h =
    ap (remainder crc4_generator) (low_bits-xor 4 s h ∙ ap (λ (l : List Bool). xors l (low_bits 4 h)) (sym (append-nil (low_bits 4 s))))
    ∙ sym (continued_is crc4_generator (low_bits 4 s) (low_bits 4 h) 0 (lit< tt) (length-low_bits 4 s) (length-low_bits 4 h))

pub returns : goal.returns
unfolding crc4_from
returns c =
    let s = c.args.before in
    let x = c.args.octet in
    let g = crc4_generator in
    let high = low_bits 4 (bit_xor s (x / 16)) in
    let between : low_bits 4 c.crc4_half-between.result ≡ continued g (low_bits 4 s) (low_bits 4 (x / 16)) =
    ap (low_bits 4) c.crc4_half-between.ensures ∙ low_bits-back 4 (remainder g high) (length-remainder g high) ∙ more s (x / 16) in
    c.crc4_half.ensures
    ∙ ap number
    (more c.crc4_half-between.result x
    ∙ ap (λ (r : List Bool). continued g r (low_bits 4 x)) between
    ∙ sym (continued-append g (low_bits 4 s) (low_bits 4 (x / 16)) (low_bits 4 x))
    ∙ ap (continued g (low_bits 4 s)) (sym (low_bits-append 4 4 x) ∙ sym (bits_of_one x)))
