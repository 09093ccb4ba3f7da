-- Laws of a sum, 64 bits that leave the remainder of octets at width 4: of eight octets more, and of the CRC-4 that it leaves.
use mathlib.Core.Path.{◌≡◌, refl, sym, ap, ap₂, ◌∙◌, subst}
use mathlib.Core.Bool.{Bool, true, xor}
use mathlib.Core.List.{List, [], ◌∷◌, ◌++◌}
use Prim.Native.Nat.{ℕ, ◌+◌, ◌*◌, ◌/◌, ◌%◌, ◌^◌, ◌<◌}
use native.Mathlib.Nat.{div-eq_of_lt}
use native.Mathlib.Omega.{arith}
use borrow.Author.Tests.{eqb-true}
use lib.Bits.{bit_xor}
use lib.Dec.{eqb}
use lib.ListN.{length}
use Rattle.bits.specs.Bits.{odd, low_bits, bits_of, number, zeros, xors}
use Rattle.bits.specs.Remainder.{scaled, fed, continued, remainder}
use Rattle.crc.specs.Crc.{crc4_generator, crc4_of, crc4_from}
use Rattle.bits.proofs.BitLaws.{xors_comm, xors-zeros, xors-append, length-low_bits, low_bits-mod, low_bits-zero, low_bits-append, low_bits_shifted, low_bits-xor, low_bits-back, number_bound, number_inj, bits_of-append, bits_of_one}
use Rattle.bits.proofs.RemainderLaws.{length-continued, continued-append, remainder-append, Period, period_times, remainder-after-zeros, remainder-moved}
use Rattle.crc.proofs.CrcLaws.{crc4_from-zero, crc4_from-append}
use Rattle.bits.proofs.BoolLaws.{every_below, below}

-- ---- X^15 leaves 1: over fifteen zeros each of the sixteen remainders comes back
comes_back : ℕ → Bool
comes_back r = eqb (number (continued crc4_generator (low_bits 4 r) (zeros 15))) r

all_come_back : every_below 16 comes_back ≡ true
unfolding comes_back number continued low_bits fed xors scaled xor odd
all_come_back = refl

pub crc4_period : Period crc4_generator 15
unfolding comes_back
crc4_period r h =
    let z = zeros 15 in
    let small : number r < 16 = subst (λ (k : ℕ). number r < 2 ^ k) h (number_bound r) in
    number_inj (continued crc4_generator r z) r (length-continued crc4_generator r z h ∙ sym h)
    (ap (λ (l : List Bool). number (continued crc4_generator l z)) (sym (low_bits-back 4 r h))
    ∙ eqb-true _ _ (below 16 comes_back all_come_back (number r) small))

-- and so over every multiple
pub crc4_times : (k : ℕ) → Period crc4_generator (15 * k)
crc4_times k = period_times crc4_generator 15 k crc4_period

-- ---- the remainder of a number's bits
-- zeros above a number do not show
pub remainder-fits : (g : List Bool) (j k n : ℕ) → n < 2 ^ k → remainder g (low_bits (j + k) n) ≡ remainder g (low_bits k n)
remainder-fits g j k n h =
    ap (remainder g)
    (low_bits-append j k n ∙ ap (λ (l : List Bool). l ++ low_bits k n) (ap (low_bits j) (div-eq_of_lt h) ∙ low_bits-zero j))
    ∙ remainder-after-zeros g (low_bits k n) j

-- a number, to which what stands k places higher is added
abbrev pub down : ℕ → ℕ → ℕ
down k n = bit_xor n (n / 2 ^ k)

-- what stands a period higher comes down
remainder_halved : (g : List Bool) (p n : ℕ) → Period g p → remainder g (low_bits (p + p) n) ≡ remainder g (low_bits p (down p n))
remainder_halved g p n q =
    let high = low_bits p (n / 2 ^ p) in
    let low = low_bits p n in
    ap (remainder g) (low_bits-append p p n)
    ∙ remainder-moved g high low (length-low_bits p (n / 2 ^ p) ∙ sym (length-low_bits p n)) (subst (Period g) (sym (length-low_bits p n)) q)
    ∙ ap (remainder g) (xors_comm high low ∙ sym (low_bits-xor p n (n / 2 ^ p)))

-- of a sum, sixty bits are left
sixty : (s : ℕ) → s < 2 ^ 64 → remainder crc4_generator (low_bits 64 s) ≡ remainder crc4_generator (low_bits 60 (down 60 s))
sixty s h = sym (remainder-fits crc4_generator 56 64 s h) ∙ remainder_halved crc4_generator 60 s (crc4_times 4)

-- ---- the sum of octets, eight by eight
-- eight octets more
pub sum_more : (s e : ℕ) → s < 2 ^ 64
    → remainder crc4_generator (low_bits 64 (bit_xor (down 60 s * 2 ^ 4 % 2 ^ 64) e))
    ≡ continued crc4_generator (remainder crc4_generator (low_bits 64 s)) (low_bits 64 e)
sum_more s e h =
    let g = crc4_generator in
    let u = down 60 s in
    let a = low_bits 60 u in
    let b = low_bits 60 (e / 2 ^ 4) in
    let c = low_bits 4 e in
    let hb : length b ≡ 60 = length-low_bits 60 (e / 2 ^ 4) in
    let hab : length a ≡ length b = length-low_bits 60 u ∙ sym hb in
    let up : low_bits 64 (u * 2 ^ 4 % 2 ^ 64) ≡ a ++ zeros 4 = low_bits-mod 64 (u * 2 ^ 4) ∙ low_bits_shifted 60 4 u in
    let parts : low_bits 64 e ≡ b ++ c = low_bits-append 60 4 e in
    let joined : low_bits 64 (bit_xor (u * 2 ^ 4 % 2 ^ 64) e) ≡ xors a b ++ c =
    low_bits-xor 64 (u * 2 ^ 4 % 2 ^ 64) e
    ∙ ap₂ xors up parts
    ∙ xors-append a b (zeros 4) c hab
    ∙ ap (λ (l : List Bool). xors a b ++ l) (xors_comm (zeros 4) c ∙ xors-zeros c 4 (length-low_bits 4 e)) in
    ap (remainder g) joined
    ∙ remainder-append g (xors a b) c
    ∙ ap (λ (r : List Bool). continued g r c) (sym (remainder-moved g a b hab (subst (Period g) (sym hb) (crc4_times 4))) ∙ remainder-append g a b)
    ∙ sym (continued-append g (remainder g a) b c)
    ∙ ap₂ (continued g) (sym (sixty s h)) (sym parts)

-- ---- the CRC-4 that a sum leaves
-- two octets from fifteen bits
two_octets : (n : ℕ) → n < 2 ^ 15 → crc4_from (crc4_from 0 (n / 256 ∷ [])) (n % 256 ∷ []) ≡ number (remainder crc4_generator (low_bits 15 n))
unfolding crc4_of
two_octets n h =
    let bits : bits_of ((n / 256 ∷ []) ++ (n % 256 ∷ [])) ≡ low_bits 16 n =
    bits_of-append (n / 256 ∷ []) (n % 256 ∷ [])
    ∙ ap₂ ◌++◌ (bits_of_one (n / 256)) (bits_of_one (n % 256) ∙ low_bits-mod 8 n)
    ∙ sym (low_bits-append 8 8 n) in
    sym (crc4_from-append 0 (n / 256 ∷ []) (n % 256 ∷ []))
    ∙ crc4_from-zero ((n / 256 ∷ []) ++ (n % 256 ∷ []))
    ∙ ap (λ (l : List Bool). number (remainder crc4_generator l)) bits
    ∙ ap number (remainder-fits crc4_generator 1 15 n h)

pub sum_leaves : (s : ℕ) → s < 2 ^ 64
    → crc4_from (crc4_from 0 (down 15 (down 30 (down 60 s)) % 2 ^ 15 / 256 ∷ [])) (down 15 (down 30 (down 60 s)) % 2 ^ 15 % 256 ∷ [])
    ≡ number (remainder crc4_generator (low_bits 64 s))
sum_leaves s h =
    let g = crc4_generator in
    let a = down 60 s in
    let b = down 30 a in
    let c = down 15 b in
    two_octets (c % 2 ^ 15) (omega arith)
    ∙ ap number
    (ap (remainder g) (low_bits-mod 15 c)
    ∙ sym (remainder_halved g 15 b crc4_period)
    ∙ sym (remainder_halved g 30 a (crc4_times 2))
    ∙ sym (sixty s h))
