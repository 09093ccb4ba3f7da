-- Laws of a block that is folded. Divided by X^4 + X + 1, X^480 leaves 1: so the first forty octets of a block, the sixty after them and the
-- last sixty are added to one another, end over end, and leave the block's remainder. The sixty are four octets and seven times eight.
use mathlib.Core.Path.{◌≡◌, refl, sym, ap, ap₂, ◌∙◌, subst}
use mathlib.Core.Bool.{Bool}
use mathlib.Core.List.{List, ◌++◌, append_assoc}
use Prim.Native.Nat.{ℕ, zero, suc, ◌+◌, ◌*◌, ◌/◌, ◌%◌, ◌^◌, ◌≤◌, ◌<◌}
use native.Mathlib.Nat.{mod-lt}
use native.Mathlib.Omega.{arith}
use borrow.Author.Tests.{le-leb, lt-leb, lt-ltb, le-ltb}
use lib.Bits.{bit_xor, bit_and, xor_lt, xor_shr, and_zero_l, and_block, and_mask, and_high}
use lib.Dec.{lit<}
use lib.ListN.{length, get_or, take, drop, length-append, length-drop}
use lib.Pow.{pow_pos}
use lib.Seq.{take-add, take_all, drop-drop, length-take-le}
use Rattle.bits.specs.Bits.{low_bits, bits_of, number_at, eight_at, zeros, xors}
use Rattle.bits.specs.Remainder.{continued, remainder}
use Rattle.crc.specs.Crc.{crc4_generator, summed, summed_from}
use Rattle.bits.proofs.BitLaws.{xors-append, length-xors, length-low_bits, low_bits-zero, low_bits-xor, low_bits-back, bits_of-append, length-bits_of, without-sc}
use Rattle.bits.proofs.RemainderLaws.{remainder-append, remainder-after-zeros, remainder-moved, Period}
use Rattle.crc.proofs.CrcLaws.{summed_at}
use Rattle.bits.proofs.EightLaws.{number_at-lt, number-at}
use Rattle.crc.proofs.SumLaws.{remainder-fits, crc4_times}

-- ---- thirty-two bits of a number, and sixty-four of each of n more
unfoldable pub laid : (ℕ → ℕ) → ℕ → List Bool
laid f zero = low_bits 32 (f 0)
laid f (suc n) = laid f n ++ low_bits 64 (f (suc n))

length-laid : (f : ℕ → ℕ) (n : ℕ) → length (laid f n) ≡ 32 + 64 * n
unfolding laid
length-laid f zero = length-low_bits 32 (f 0)
length-laid f (suc n) =
    length-append (laid f n) (low_bits 64 (f (suc n))) ∙ ap₂ ◌+◌ (length-laid f n) (length-low_bits 64 (f (suc n))) ∙ omega arith

laid-xor : (f g : ℕ → ℕ) (n : ℕ) → laid (λ i. bit_xor (f i) (g i)) n ≡ xors (laid f n) (laid g n)
unfolding laid
laid-xor f g zero = low_bits-xor 32 (f 0) (g 0)
laid-xor f g (suc n) =
    ap₂ ◌++◌ (laid-xor f g n) (low_bits-xor 64 (f (suc n)) (g (suc n)))
    ∙ sym (xors-append (laid f n) (laid g n) (low_bits 64 (f (suc n))) (low_bits 64 (g (suc n))) (length-laid f n ∙ sym (length-laid g n)))

-- a sum that leaves what the numbers so far leave, continued over the next
pub laid_first : (f : ℕ → ℕ) (s : ℕ) → s ≡ f 0 → s < 2 ^ 32 → remainder crc4_generator (low_bits 64 s) ≡ remainder crc4_generator (laid f 0)
unfolding laid
laid_first f s e h = remainder-fits crc4_generator 32 32 s h ∙ ap (λ (n : ℕ). remainder crc4_generator (low_bits 32 n)) e

pub laid_next : (f : ℕ → ℕ) (n s r e : ℕ) → remainder crc4_generator (low_bits 64 s) ≡ remainder crc4_generator (laid f n)
    → remainder crc4_generator (low_bits 64 r) ≡ continued crc4_generator (remainder crc4_generator (low_bits 64 s)) (low_bits 64 e) → e ≡ f (suc n)
    → remainder crc4_generator (low_bits 64 r) ≡ remainder crc4_generator (laid f (suc n))
unfolding laid
laid_next f n s r e hs hr he =
    hr ∙ ap₂ (λ (l : List Bool) (x : ℕ). continued crc4_generator l (low_bits 64 x)) hs he
    ∙ sym (remainder-append crc4_generator (laid f n) (low_bits 64 (f (suc n))))

-- ---- octets as such numbers
bits_at : (s : List ℕ) (at n : ℕ) → at + n ≤ length s → low_bits (n * 8) (number_at s at n) ≡ bits_of (take n (drop at s))
bits_at s at n h =
    let many : n ≤ length (drop at s) = rw (length-drop at s) (omega arith) in
    ap (low_bits (n * 8)) (number-at s at n h)
    ∙ low_bits-back (n * 8) (bits_of (take n (drop at s))) (length-bits_of (take n (drop at s)) ∙ ap (λ (k : ℕ). k * 8) (length-take-le n (drop at s) many))

-- four octets from a place on, and eights after them
abbrev pub words_of : List ℕ → ℕ → ℕ → ℕ
words_of s at zero = number_at s at 4
words_of s at (suc k) = eight_at s (at + (4 + 8 * k))

laid-octets : (s : List ℕ) (at n : ℕ) → at + (4 + 8 * n) ≤ length s → laid (words_of s at) n ≡ bits_of (take (4 + 8 * n) (drop at s))
unfolding laid
laid-octets s at zero h = bits_at s at 4 (omega arith)
laid-octets s at (suc n) h =
    let m = 4 + 8 * n in
    let next : 4 + 8 * suc n ≡ m + 8 = omega arith in
    let here : drop m (drop at s) ≡ drop (at + m) s = drop-drop m at s in
    ap₂ ◌++◌ (laid-octets s at n (omega arith)) (bits_at s (at + m) 8 (omega arith) ∙ ap (λ (l : List ℕ). bits_of (take 8 l)) (sym here))
    ∙ sym (bits_of-append (take m (drop at s)) (take 8 (drop m (drop at s))))
    ∙ ap bits_of (sym (take-add m 8 (drop at s)) ∙ ap (λ (k : ℕ). take k (drop at s)) (sym next))

-- zeros for twenty octets, and eights after them
abbrev pub front_of : List ℕ → ℕ → ℕ
front_of s zero = 0
front_of s (suc zero) = 0
front_of s (suc (suc zero)) = 0
front_of s (suc (suc (suc k))) = eight_at s (8 * k)

laid_front : (s : List ℕ) (n : ℕ) → 8 * n ≤ length s → laid (front_of s) (suc (suc n)) ≡ zeros 160 ++ bits_of (take (8 * n) s)
unfolding laid bits_of
laid_front s zero h = ap₂ (λ (a b : List Bool). a ++ b ++ b) (low_bits-zero 32) (low_bits-zero 64)
laid_front s (suc n) h =
    let m = 8 * n in
    let next : 8 * suc n ≡ m + 8 = omega arith in
    ap₂ ◌++◌ (laid_front s n (omega arith)) (bits_at s m 8 (omega arith))
    ∙ append_assoc (zeros 160) (bits_of (take m s)) (bits_of (take 8 (drop m s)))
    ∙ ap (λ (l : List Bool). zeros 160 ++ l)
    (sym (bits_of-append (take m s) (take 8 (drop m s))) ∙ ap bits_of (sym (take-add m 8 s) ∙ ap (λ (k : ℕ). take k s) (sym next)))

-- ---- the three parts of a block, end over end
abbrev pub fold_of : List ℕ → ℕ → ℕ
fold_of s i = bit_xor (bit_xor (front_of s i) (words_of s 40 i)) (words_of s 100 i)

pub folded : (s : List ℕ) → length s ≡ 160 → remainder crc4_generator (laid (fold_of s) 7) ≡ remainder crc4_generator (bits_of s)
folded s h =
    let g = crc4_generator in
    let a = laid (front_of s) 7 in
    let b = laid (words_of s 40) 7 in
    let c = laid (words_of s 100) 7 in
    let p = bits_of (take 40 s) in
    let la : length a ≡ 480 = length-laid (front_of s) 7 in
    let lb : length b ≡ 480 = length-laid (words_of s 40) 7 in
    let lc : length c ≡ 480 = length-laid (words_of s 100) 7 in
    let lab : length (xors a b) ≡ 480 = length-xors a b (la ∙ sym lb) ∙ la in
    let turn : (l : List Bool) → length l ≡ 480 → Period g (length l) = λ l e. subst (Period g) (sym e) (crc4_times 32) in
    let ab : bits_of (take 40 s) ++ b ≡ bits_of (take 100 s) =
    ap (λ (l : List Bool). p ++ l) (laid-octets s 40 7 (omega arith)) ∙ sym (bits_of-append (take 40 s) (take 60 (drop 40 s))) ∙ ap bits_of (sym (take-add 40 60 s)) in
    let abc : bits_of (take 100 s) ++ c ≡ bits_of s =
    ap (λ (l : List Bool). bits_of (take 100 s) ++ l) (laid-octets s 100 7 (omega arith)) ∙ sym (bits_of-append (take 100 s) (take 60 (drop 100 s)))
    ∙ ap bits_of (sym (take-add 100 60 s) ∙ take_all 160 s (omega arith)) in
    ap (remainder g) (laid-xor (λ i. bit_xor (front_of s i) (words_of s 40 i)) (words_of s 100) 7 ∙ ap (λ (l : List Bool). xors l c) (laid-xor (front_of s) (words_of s 40) 7))
    ∙ sym (remainder-moved g (xors a b) c (lab ∙ sym lc) (turn c lc))
    ∙ remainder-append g (xors a b) c
    ∙ ap (λ (r : List Bool). continued g r c) (sym (remainder-moved g a b (la ∙ sym lb) (turn b lb)))
    ∙ sym (remainder-append g (a ++ b) c)
    ∙ ap (λ (l : List Bool). remainder g ((l ++ b) ++ c)) (laid_front s 5 (omega arith))
    ∙ ap (remainder g) (ap (λ (l : List Bool). l ++ c) (append_assoc (zeros 160) p b) ∙ append_assoc (zeros 160) (p ++ b) c)
    ∙ remainder-after-zeros g ((p ++ b) ++ c) 160
    ∙ ap (remainder g) (ap (λ (l : List Bool). l ++ c) ab ∙ abc)

-- ---- a block as it is summed, eight octets of it at a time
same_number : (s t : List ℕ) (at n : ℕ) → ((i : ℕ) → i < n → get_or s (at + i) 0 ≡ get_or t (at + i) 0) → number_at s at n ≡ number_at t at n
unfolding number_at
same_number s t at zero e = refl
same_number s t at (suc n) e =
    ap₂ (λ (a x : ℕ). a * 256 + x % 256) (same_number s t at n (λ i h. e i (omega arith))) (e n (omega arith))

before-c : (s : List ℕ) (i : ℕ) → i < length s → i < 84 → get_or (summed_from 0 s) i 0 ≡ get_or s i 0
unfolding summed
before-c s i h l = sym (summed_at s i h) ∙ simp (lt-leb _ _ l)

after-c : (s : List ℕ) (i : ℕ) → i < length s → 88 ≤ i → get_or (summed_from 0 s) i 0 ≡ get_or s i 0
unfolding summed
after-c s i h l =
    let low : 84 ≤ i = omega arith in
    sym (summed_at s i h) ∙ simp (le-leb _ _ low, le-ltb _ _ l)

summed-before : (s : List ℕ) (at n : ℕ) → at + n ≤ length s → at + n ≤ 84 → number_at s at n ≡ number_at (summed_from 0 s) at n
summed-before s at n h l = sym (same_number (summed_from 0 s) s at n (λ i k. before-c s (at + i) (omega arith) (omega arith)))

summed-after : (s : List ℕ) (at n : ℕ) → at + n ≤ length s → 88 ≤ at → number_at s at n ≡ number_at (summed_from 0 s) at n
summed-after s at n h l = sym (same_number (summed_from 0 s) s at n (λ i k. after-c s (at + i) (omega arith) (omega arith)))

-- a mask, octet by octet
abbrev mask_of : (ℕ → ℕ) → ℕ → ℕ
mask_of m zero = 0
mask_of m (suc n) = mask_of m n * 256 + m n

and-octets : (s t : List ℕ) (at : ℕ) (m : ℕ → ℕ) (n : ℕ)
    → ((i : ℕ) → i < n → (m i < 256) × (bit_and (get_or s (at + i) 0 % 256) (m i) ≡ get_or t (at + i) 0 % 256))
    → bit_and (number_at s at n) (mask_of m n) ≡ number_at t at n
unfolding number_at
and-octets s t at m zero e = and_zero_l 0
and-octets s t at m (suc n) e =
    and_block 8 (number_at s at n) (mask_of m n) (get_or s (at + n) 0 % 256) (m n) (mod-lt (get_or s (at + n) 0) (pow_pos 8)) (e n (omega arith)).0
    ∙ ap₂ (λ (a x : ℕ). a * 256 + x) (and-octets s t at m n (λ i h. e i (omega arith))) (e n (omega arith)).1

-- of the octets with C1 to C4 all but the last bit
abbrev all_but_c : ℕ → ℕ
all_but_c zero = 0xFE
all_but_c (suc zero) = 0xFE
all_but_c (suc (suc zero)) = 0xFE
all_but_c (suc (suc (suc zero))) = 0xFE
all_but_c (suc (suc (suc (suc i)))) = 0xFF

with_c : (s : List ℕ) (i : ℕ) → 84 + i < length s → i < 4
    → bit_and (get_or s (84 + i) 0 % 256) 0xFE ≡ get_or (summed_from 0 s) (84 + i) 0 % 256
unfolding summed
with_c s i h l =
    let x = get_or s (84 + i) 0 in
    let low : 84 ≤ 84 + i = omega arith in
    let high : 84 + i < 88 = omega arith in
    let is : get_or (summed_from 0 s) (84 + i) 0 ≡ x / 2 * 2 = sym (summed_at s (84 + i) h) ∙ simp (le-leb _ _ low, lt-ltb _ _ high, without-sc) in
    and_high (x % 256) 7 1 ∙ omega (arith, is)

pub summed_with_c : (s : List ℕ) → length s ≡ 160 → bit_and (eight_at s 84) 0xFEFE_FEFE_FFFF_FFFF ≡ eight_at (summed_from 0 s) 84
summed_with_c s h = and-octets s (summed_from 0 s) 84 all_but_c 8 each
  where
    each : (i : ℕ) → i < 8 → (all_but_c i < 256) × (bit_and (get_or s (84 + i) 0 % 256) (all_but_c i) ≡ get_or (summed_from 0 s) (84 + i) 0 % 256)
    each zero l = (lit< tt, with_c s 0 (omega arith) (omega arith))
    each (suc zero) l = (lit< tt, with_c s 1 (omega arith) (omega arith))
    each (suc (suc zero)) l = (lit< tt, with_c s 2 (omega arith) (omega arith))
    each (suc (suc (suc zero))) l = (lit< tt, with_c s 3 (omega arith) (omega arith))
    each (suc (suc (suc (suc i)))) l =
        let j = suc (suc (suc (suc i))) in
        (lit< tt, and_mask (get_or s (84 + j) 0 % 256) 8 ∙ omega (arith, after-c s (84 + j) (omega arith) (omega arith)))

-- ---- what the machine adds up is what is folded
high_half : (s : List ℕ) (at : ℕ) → eight_at s at / 2 ^ 32 ≡ number_at s at 4
unfolding number_at
high_half s at = omega arith

pub half_is : (s : List ℕ) → length s ≡ 160
    → (bit_xor (eight_at s 40) (eight_at s 100) / 2 ^ 32 ≡ fold_of (summed_from 0 s) 0) × (bit_xor (eight_at s 40) (eight_at s 100) / 2 ^ 32 < 2 ^ 32)
half_is s h =
    let bound = xor_lt 64 (eight_at s 40) (eight_at s 100) (number_at-lt s 40 8) (number_at-lt s 100 8) in (
      xor_shr (eight_at s 40) (eight_at s 100) 32
          ∙ ap₂ bit_xor (high_half s 40 ∙ summed-before s 40 4 (omega arith) (omega arith)) (high_half s 100 ∙ summed-after s 100 4 (omega arith) (omega arith)),
      omega (arith, bound),
    )

pub two_is : (s : List ℕ) (k : ℕ) → length s ≡ 160 → k < 2
    → bit_xor (eight_at s (44 + 8 * k)) (eight_at s (104 + 8 * k)) ≡ fold_of (summed_from 0 s) (suc k)
two_is s zero h l = ap₂ bit_xor (summed-before s 44 8 (omega arith) (omega arith)) (summed-after s 104 8 (omega arith) (omega arith))
two_is s (suc zero) h l = ap₂ bit_xor (summed-before s 52 8 (omega arith) (omega arith)) (summed-after s 112 8 (omega arith) (omega arith))
two_is s (suc (suc k)) h l = absurd (omega arith)

-- what stands in the middle is the eight there as it is summed
pub three_is : (s : List ℕ) (k middle : ℕ) → length s ≡ 160 → k < 5 → middle ≡ eight_at (summed_from 0 s) (60 + 8 * k)
    → bit_xor (bit_xor (eight_at s (8 * k)) middle) (eight_at s (120 + 8 * k)) ≡ fold_of (summed_from 0 s) (suc (suc (suc k)))
three_is s k middle h l e =
    let t = summed_from 0 s in
    let second : 60 + 8 * k ≡ 40 + (4 + 8 * suc (suc k)) = omega arith in
    let third : 120 + 8 * k ≡ 100 + (4 + 8 * suc (suc k)) = omega arith in
    ap₂ bit_xor
    (ap₂ bit_xor (summed-before s (8 * k) 8 (omega arith) (omega arith)) (e ∙ ap (eight_at t) second))
    (summed-after s (120 + 8 * k) 8 (omega arith) (omega arith) ∙ ap (eight_at t) third)

-- the eights in the middle that have no C bits
pub middle_before : (s : List ℕ) (at : ℕ) → length s ≡ 160 → at + 8 ≤ 84 → eight_at s at ≡ eight_at (summed_from 0 s) at
middle_before s at h l = summed-before s at 8 (omega arith) l

pub middle_after : (s : List ℕ) → length s ≡ 160 → eight_at s 92 ≡ eight_at (summed_from 0 s) 92
middle_after s h = summed-after s 92 8 (omega arith) (omega arith)
