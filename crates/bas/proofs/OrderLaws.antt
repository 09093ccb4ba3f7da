-- The order on the line, made by turning both of two bits that change places where they differ.
use mathlib.Core.Path.{◌≡◌, sym, ap, ap₂, ◌∙◌}
use mathlib.Core.Bool.{Bool, xor, ◌&&◌}
use mathlib.Core.List.{List, ◌++◌}
use Prim.Native.Nat.{ℕ, ◌+◌, ◌*◌, ◌/◌, ◌%◌, ◌^◌, ◌<◌}
use native.Mathlib.Omega.{arith}
use lib.Bits.{bit_xor, bit_and, and_comm, and_le_r, xor_lt}
use lib.Pow.{shr-shr}
use Rattle.bits.specs.Bits.{odd, low_bits, number, zeros, xors}
use Rattle.bits.proofs.BoolLaws.{xor-false, xor_again, xor_other}
use Rattle.bits.proofs.BitLaws.{bit-xor, bit-and, low_bits-mod, low_bits_shifted, low_bits-xor, number_fits}
use Rattle.bas.specs.Words.{even_order, odd_order, line_order}

-- where the bits that a mask covers differ from those k places higher
abbrev pub differing : ℕ → ℕ → ℕ → ℕ
differing k mask w = bit_and (bit_xor w (w / 2 ^ k)) mask

odd-differing : (k mask w j : ℕ) → odd (differing k mask w / 2 ^ j) ≡ (odd (mask / 2 ^ j) && xor (odd (w / 2 ^ j)) (odd (w / 2 ^ (k + j))))
odd-differing k mask w j =
    let x = bit_xor w (w / 2 ^ k) in
    ap (λ (y : ℕ). odd (y / 2 ^ j)) (and_comm x mask)
    ∙ bit-and mask x j
    ∙ ap (λ (b : Bool). odd (mask / 2 ^ j) && b)
    (bit-xor w (w / 2 ^ k) j ∙ ap (λ (y : ℕ). xor (odd (w / 2 ^ j)) (odd y)) (shr-shr w k j))

-- k places up, of j + k
abbrev pub up : ℕ → ℕ → ℕ → ℕ
up j k x = x * 2 ^ k % 2 ^ (j + k)

bits_up : (j k x : ℕ) → low_bits (j + k) (up j k x) ≡ low_bits j x ++ zeros k
bits_up j k x = low_bits-mod (j + k) (x * 2 ^ k) ∙ low_bits_shifted j k x

abbrev pub exchanged : ℕ → ℕ → ℕ → ℕ
exchanged w apart beside = bit_xor (bit_xor (bit_xor (bit_xor w apart) (up 14 2 apart)) beside) (up 15 1 beside)

bits-exchanged : (w apart beside : ℕ)
    → low_bits 16 (exchanged w apart beside)
    ≡ xors (xors (xors (xors (low_bits 16 w) (low_bits 16 apart)) (low_bits 14 apart ++ zeros 2)) (low_bits 16 beside)) (low_bits 15 beside ++ zeros 1)
bits-exchanged w apart beside =
    let one : ℕ = bit_xor w apart in
    let two : ℕ = bit_xor one (up 14 2 apart) in
    low_bits-xor 16 (bit_xor two beside) (up 15 1 beside)
    ∙ ap₂ xors (low_bits-xor 16 two beside
    ∙ ap (λ (l : List Bool). xors l (low_bits 16 beside)) (low_bits-xor 16 one (up 14 2 apart) ∙ ap₂ xors (low_bits-xor 16 w apart) (bits_up 14 2 apart)))
    (bits_up 15 1 beside)

ordered : (w : ℕ) → low_bits 16 (exchanged w (differing 2 4128 w) (differing 1 1032 w)) ≡ line_order (low_bits 16 w)
unfolding line_order even_order odd_order low_bits xors odd
ordered w = bits-exchanged w (differing 2 4128 w) (differing 1 1032 w) ∙ simp (odd-differing, xor-false, xor_again, xor_other)

-- as a number
exchanged-lt : (w apart beside : ℕ) → w < 65536 → apart < 65536 → beside < 65536 → exchanged w apart beside < 65536
exchanged-lt w apart beside hw ha hb =
    let first = xor_lt 16 (bit_xor w apart) (up 14 2 apart) (xor_lt 16 w apart hw ha) (omega arith) in
    xor_lt 16 (bit_xor (bit_xor (bit_xor w apart) (up 14 2 apart)) beside) (up 15 1 beside) (xor_lt 16 _ beside first hb) (omega arith)

pub order_is : (w : ℕ) → w < 65536 → exchanged w (differing 2 4128 w) (differing 1 1032 w) ≡ number (line_order (low_bits 16 w))
order_is w h =
    let apart = differing 2 4128 w in
    let beside = differing 1 1032 w in
    let ha : apart < 65536 = omega (arith, and_le_r (bit_xor w (w / 2 ^ 2)) 4128) in
    let hb : beside < 65536 = omega (arith, and_le_r (bit_xor w (w / 2 ^ 1)) 1032) in
    sym (number_fits 16 (exchanged w apart beside) (exchanged-lt w apart beside h ha hb)) ∙ ap number (ordered w)
