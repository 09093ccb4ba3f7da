-- Laws of the service channel of a block that came, and that the service bits of a block that was written are read back.
use mathlib.Core.Path.{◌≡◌, refl, ap, ap₂, sym, ◌∙◌}
use mathlib.Core.Bool.{Bool, true, false}
use mathlib.Core.List.{List, [], ◌∷◌, ◌++◌}
use Prim.Native.Nat.{ℕ, zero, suc, ◌+◌, ◌*◌, ◌/◌, ◌%◌, ◌^◌, ◌≤◌, ◌<◌}
use native.Mathlib.Nat.{add-zero, zero-add, suc-add, mul-one, lt_of_lt_of_le}
use native.Mathlib.Omega.{arith}
use lib.Pow.{pow_mono, high, low}
use lib.ListN.{length, get_or}
use lib.Bits.{bit_xor}
use lib.Count.{ones_in, ones, ones_cat}
use Rattle.bits.specs.Bits.{odd, low_bits, octet_bits, sc_bit, digit, number, xors}
use Rattle.bits.proofs.BitLaws.{number_append, number_bound, number_fits, low_bits-xor, low_bits-back, low_bits_two}
use Rattle.bas.specs.Words.{line_order}
use Rattle.bas.specs.Reading.{weight}
use Rattle.service.specs.Service.{even_alignment}
use Rattle.service.specs.Channel.{channel_bits, alignment_bits, wrong_bits, bas_word}

pub length_channel : (n at : ℕ) (line : List ℕ) → length (channel_bits n at line) ≡ n
unfolding channel_bits
length_channel zero at line = refl
length_channel (suc n) at line = ap suc (length_channel n (at + 1) line)

-- in two parts
channel_parts : (n k at : ℕ) (line : List ℕ) → channel_bits (n + k) at line ≡ channel_bits n at line ++ channel_bits k (at + n) line
unfolding channel_bits
channel_parts zero k at line = ap₂ (λ (i j : ℕ). channel_bits i j line) (zero-add k) (sym (add-zero at))
channel_parts (suc n) k at line =
    let e : at + 1 + n ≡ at + suc n = omega arith in
    ap (λ (i : ℕ). channel_bits i at line) (suc-add n k)
    ∙ ap (λ (l : List Bool). sc_bit (get_or line at 0) ∷ l)
    (channel_parts n k (at + 1) line ∙ ap (λ (j : ℕ). channel_bits n (at + 1) line ++ channel_bits k j line) e)

channel_lt : (n at : ℕ) (line : List ℕ) → number (channel_bits n at line) < 2 ^ n
channel_lt n at line = rw length_channel at (number_bound (channel_bits n at line))

channel_number : (n k at : ℕ) (line : List ℕ)
    → number (channel_bits (n + k) at line) ≡ number (channel_bits n at line) * 2 ^ k + number (channel_bits k (at + n) line)
channel_number n k at line =
    ap number (channel_parts n k at line) ∙ number_append (channel_bits n at line) (channel_bits k (at + n) line) ∙ rw length_channel

first_of : (n k at : ℕ) (line : List ℕ) → number (channel_bits (n + k) at line) / 2 ^ k ≡ number (channel_bits n at line)
first_of n k at line =
    ap (λ (x : ℕ). x / 2 ^ k) (channel_number n k at line) ∙ high (number (channel_bits n at line)) k (channel_lt k (at + n) line)

pub last_of : (n k at : ℕ) (line : List ℕ) → number (channel_bits (n + k) at line) % 2 ^ k ≡ number (channel_bits k (at + n) line)
last_of n k at line =
    ap (λ (x : ℕ). x % 2 ^ k) (channel_number n k at line) ∙ low (number (channel_bits n at line)) k (channel_lt k (at + n) line)

-- one bit more; seven at most leave room for it in an octet
one_bit : (at : ℕ) (line : List ℕ) → number (channel_bits 1 at line) ≡ digit (sc_bit (get_or line at 0))
unfolding channel_bits number
one_bit at line = rw (mul-one, add-zero)

pub channel_turn : (n at : ℕ) (line : List ℕ)
    → number (channel_bits n at line) * 2 + digit (sc_bit (get_or line (at + n) 0)) ≡ number (channel_bits (n + 1) at line)
channel_turn n at line = sym (channel_number n 1 at line ∙ ap (λ (x : ℕ). number (channel_bits n at line) * 2 + x) (one_bit (at + n) line))

pub channel_small : (n at : ℕ) (line : List ℕ) → n ≤ 7 → number (channel_bits n at line) < 128
channel_small n at line h = lt_of_lt_of_le (channel_lt n at line) (pow_mono h)

-- the alignment word as an octet, and how many of its bits are wrong
alignment_number : (line : List ℕ) (row one : ℕ) → row ≡ number (channel_bits 8 1 line) → one ≡ digit (sc_bit (get_or line 81 0))
    → row / 2 * 2 + one ≡ number (alignment_bits line)
unfolding alignment_bits
alignment_number line row one e f =
    ap₂ (λ (x y : ℕ). x * 2 + y) (ap (λ (x : ℕ). x / 2) e ∙ first_of 7 1 1 line) (f ∙ sym (one_bit 81 line))
    ∙ sym (number_append (channel_bits 7 1 line) (channel_bits 1 81 line) ∙ rw length_channel)

length_alignment : (line : List ℕ) → length (alignment_bits line) ≡ 8
unfolding alignment_bits channel_bits
length_alignment line = refl

right_word : octet_bits 55 ≡ even_alignment ++ (true ∷ [])
unfolding low_bits odd
right_word = refl

ones-digit : (b : Bool) → ones (digit b) ≡ digit b
unfolding ones ones_in
ones-digit true = refl
ones-digit false = refl

ones-number : (bs : List Bool) → ones (number bs) ≡ weight bs
unfolding number weight ones ones_in
ones-number [] = refl
ones-number (b ∷ bs) = ones_cat (length bs) (digit b) (number bs) (number_bound bs) ∙ ap₂ ◌+◌ (ones-digit b) (ones-number bs)

pub octet-weight : (octet : ℕ) → octet < 256 → ones octet ≡ weight (octet_bits octet)
octet-weight octet h = ap ones (sym (number_fits 8 octet h)) ∙ ones-number (octet_bits octet)

pub wrong_are : (line : List ℕ) (row one : ℕ) → row ≡ number (channel_bits 8 1 line) → one ≡ digit (sc_bit (get_or line 81 0))
    → weight (octet_bits (bit_xor (row / 2 * 2 + one) 55)) ≡ wrong_bits line
unfolding wrong_bits
wrong_are line row one e f =
    let word = alignment_bits line in
    ap (λ (x : ℕ). weight (octet_bits (bit_xor x 55))) (alignment_number line row one e f)
    ∙ ap weight (low_bits-xor 8 (number word) 55 ∙ ap₂ xors (low_bits-back 8 word (length_alignment line)) right_word)

-- the BAS word, from its two octets
pub word_is : (line : List ℕ) (even odds : ℕ) → even ≡ number (channel_bits 8 8 line) → odds ≡ number (channel_bits 8 88 line)
    → number (line_order (low_bits 16 (even * 256 + odds))) ≡ bas_word line
unfolding bas_word
word_is line even odds e f =
    let b = channel_bits 8 8 line in
    let p = channel_bits 8 88 line in
    let small : number p < 256 = channel_lt 8 88 line in
    ap₂ (λ (x y : ℕ). number (line_order (low_bits 16 (x * 256 + y)))) e f
    ∙ ap (λ (l : List Bool). number (line_order l))
    (low_bits_two (number b) (number p) small
    ∙ ap₂ ◌++◌ (low_bits-back 8 b (length_channel 8 8 line)) (low_bits-back 8 p (length_channel 8 88 line)))
