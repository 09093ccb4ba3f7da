-- Octets of a buffer as one number, and the eight fields of such a number.
use mathlib.Core.Path.{◌≡◌, ap, sym, ◌∙◌}
use mathlib.Core.Bool.{Bool, true}
use mathlib.Core.List.{List}
use Prim.Native.Nat.{ℕ, ◌+◌, ◌-◌, ◌*◌, ◌/◌, ◌^◌, ◌≤◌, ◌<◌}
use native.Mathlib.Nat.{add-zero, add-mul, one-mul, mul-one, lt_of_lt_of_le, mod-lt}
use native.Mathlib.Omega.{arith}
use lib.Pow.{pow_mono, pow_pos, high}
use lib.ListN.{length, get_or, drop, length-drop}
use Rattle.bits.specs.Bits.{bits_of, digit, number, number_at, nexts}
use Rattle.bits.proofs.BitLaws.{length-bits_of}
use Rattle.bits.proofs.EightLaws.{number_at-lt, number_parts, number-at}
use Rattle.bits.proofs.PackLaws.{take-bits_of}
use Rattle.bits.proofs.RunLaws.{part, drop-bits_of}
use Rattle.eights.specs.Eight.{field_of}
use Rattle.bits.proofs.NextLaws.{length-nexts, nexts-take, nexts-append}

-- ---- octets of a buffer as one number: of eight, of which some may be past the end, the first n
pub octets_first : (xs : List ℕ) (i n : ℕ) → n ≤ 8 → i + n ≤ length xs
    → number_at xs i 8 / 2 ^ (8 * (8 - n)) ≡ number (nexts (8 * n) (drop (8 * i) (bits_of xs)))
octets_first xs i n h room =
    let ys : List ℕ = drop i xs in
    let parts : 8 ≡ n + (8 - n) = omega arith in
    let long : 8 * n ≤ length (bits_of ys) = rw (length-bits_of ys, length-drop i xs) (omega arith) in
    ap (λ (m : ℕ). number_at xs i m / 2 ^ (8 * (8 - n))) parts
    ∙ rw (number_parts xs i n (8 - n)) (high (number_at xs i n) (8 * (8 - n)) (number_at-lt xs (i + n) (8 - n)))
    ∙ number-at xs i n room
    ∙ ap number (sym (ap (nexts (8 * n)) (drop-bits_of i xs) ∙ nexts-take (8 * n) (bits_of ys) long ∙ take-bits_of n ys))

-- ---- one bit's number is its digit
pub number_one : (l : List Bool) → number (nexts 1 l) ≡ digit (get_or l 0 true)
unfolding number nexts
number_one l = rw (add-zero, mul-one)

-- ---- a field of the number of 8 * n bits is the number of n of them
pub field_nexts : (n k : ℕ) (l : List Bool) → k < 8 → field_of (number (nexts (8 * n) l)) n k ≡ number (nexts n (drop (k * n) l))
unfolding field_of
field_nexts n k l h =
    let r : ℕ = (7 - k) * n in
    let eight : 8 ≡ k + (1 + (7 - k)) = omega arith in
    let parts : 8 * n ≡ k * n + (n + r) = ap (λ (m : ℕ). m * n) eight ∙ rw (add-mul k (1 + (7 - k)) n, add-mul 1 (7 - k) n, one-mul n) in
    let ms : List Bool = nexts n (drop (k * n) l) in
    let rs : List Bool = nexts r (drop n (drop (k * n) l)) in
    rw (parts, nexts-append (k * n) (n + r) l, nexts-append n r (drop (k * n) l))
    (rw (length-nexts r (drop n (drop (k * n) l)), length-nexts n (drop (k * n) l)) at (part (nexts (k * n) l) ms rs))

pub field_lt : (x n k : ℕ) → field_of x n k < 2 ^ n
unfolding field_of
field_lt x n k = mod-lt (x / 2 ^ ((7 - k) * n)) (pow_pos n)

pub field_small : (x n k : ℕ) → n ≤ 8 → field_of x n k < 256
field_small x n k h = lt_of_lt_of_le (field_lt x n k) (pow_mono {i = n} {j = 8} h)
