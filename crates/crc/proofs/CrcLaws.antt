-- The facts of a remainder at width 4, and the CRC-4 of octets one after the other.
use mathlib.Core.Path.{◌≡◌, refl, sym, ap, ◌∙◌, subst}
use mathlib.Core.Bool.{Bool, true}
use mathlib.Core.List.{List, [], ◌∷◌, ◌++◌}
use Prim.Native.Nat.{ℕ, zero, suc, ◌+◌, ◌%◌, ◌^◌, ◌<◌}
use native.Mathlib.Nat.{zero-add, add-zero, le_of_suc-le-suc}
use native.Mathlib.Numerals.{add-one}
use native.Mathlib.Omega.{arith}
use lib.Dec.{leb, lit<}
use borrow.Author.Tests.{le-leb}
use lib.Seq.{take-suc, ext_get_or}
use lib.ListN.{length, take, get_or}
use Rattle.bits.specs.Bits.{low_bits, bits_of, number, xors}
use Rattle.bits.specs.Remainder.{continued, remainder, Leaves}
use Rattle.crc.specs.Crc.{crc4_generator, crc4_of, crc4_from, summed, summed_from, block_crc_of}
use Rattle.bits.proofs.BitLaws.{length-low_bits, low_bits-zero, low_bits-back, number-low_bits, number_fits, number_bound, bits_of-append, length-bits_of}
use Rattle.bits.proofs.RemainderLaws.{length-continued, length-remainder, continued-append, remainder-xor, is_remainder, only_remainder}

-- ---- the facts of a remainder, at width 4
pub crc4_width : (s : List ℕ) → crc4_of s < 16
unfolding crc4_of
crc4_width s =
    let r = remainder crc4_generator (bits_of s) in
    subst (λ (k : ℕ). number r < 2 ^ k) (length-remainder crc4_generator (bits_of s)) (number_bound r)

-- so the remainder of a block is at most 15
pub crc-low : (block : List ℕ) → leb (block_crc_of block) 15 ≡ true
unfolding block_crc_of
crc-low block = let l = crc4_width (summed_from 0 block) in le-leb (crc4_of (summed_from 0 block)) 15 (omega arith)

crc4_bits : (s : List ℕ) → low_bits 4 (crc4_of s) ≡ remainder crc4_generator (bits_of s)
unfolding crc4_of
crc4_bits s = low_bits-back 4 (remainder crc4_generator (bits_of s)) (length-remainder crc4_generator (bits_of s))

pub crc4_is_remainder : (s : List ℕ) → Leaves crc4_generator (bits_of s) (low_bits 4 (crc4_of s))
crc4_is_remainder s = rw crc4_bits (is_remainder crc4_generator (bits_of s) (lit< tt))

pub crc4_only : (s : List ℕ) (n : ℕ) → n < 16 → Leaves crc4_generator (bits_of s) (low_bits 4 n) → n ≡ crc4_of s
unfolding crc4_of
crc4_only s n h l =
    sym (number_fits 4 n h) ∙ ap number (only_remainder crc4_generator (bits_of s) (low_bits 4 n) (lit< tt) (length-low_bits 4 n) l)

pub crc4_linear : (s t : List ℕ) → length s ≡ length t
    → remainder crc4_generator (xors (bits_of s) (bits_of t)) ≡ xors (low_bits 4 (crc4_of s)) (low_bits 4 (crc4_of t))
crc4_linear s t h =
    rw (crc4_bits s, crc4_bits t) (remainder-xor crc4_generator (bits_of s) (bits_of t) (rw (length-bits_of s, length-bits_of t, h)))

-- ---- the CRC-4 of octets, one after the other
pub crc4_from-nil : (state : ℕ) → crc4_from state [] ≡ state % 16
unfolding crc4_from continued bits_of
crc4_from-nil state = number-low_bits 4 state

-- from 0 it is the CRC-4
pub crc4_from-zero : (s : List ℕ) → crc4_from 0 s ≡ crc4_of s
unfolding crc4_from crc4_of remainder
crc4_from-zero s = ap (λ (r : List Bool). number (continued crc4_generator r (bits_of s))) (low_bits-zero 4)

-- octets in two parts
pub crc4_from-append : (state : ℕ) (s t : List ℕ) → crc4_from state (s ++ t) ≡ crc4_from (crc4_from state s) t
unfolding crc4_from
crc4_from-append state s t =
    let r = continued crc4_generator (low_bits 4 state) (bits_of s) in
    let back : low_bits 4 (number r) ≡ r =
    low_bits-back 4 r (length-continued crc4_generator (low_bits 4 state) (bits_of s) (length-low_bits 4 state)) in
    ap number
    (ap (continued crc4_generator (low_bits 4 state)) (bits_of-append s t)
    ∙ continued-append crc4_generator (low_bits 4 state) (bits_of s) (bits_of t)
    ∙ ap (λ (l : List Bool). continued crc4_generator l (bits_of t)) (sym back))

-- a loop's turn: one octet more of a list
pub crc4_from-turn : (state : ℕ) (s : List ℕ) (i : ℕ) → i < length s
    → crc4_from (crc4_from state (take i s)) (get_or s i 0 ∷ []) ≡ crc4_from state (take (i + 1) s)
crc4_from-turn state s i h =
    sym (crc4_from-append state (take i s) (get_or s i 0 ∷ []))
    ∙ ap (crc4_from state) (sym (take-suc s i 0 h) ∙ ap (λ (n : ℕ). take n s) (sym (add-one i)))

-- ---- a block's octets as they are summed
pub length-summed_from : (at : ℕ) (s : List ℕ) → length (summed_from at s) ≡ length s
unfolding summed_from
length-summed_from at [] = refl
length-summed_from at (x ∷ xs) = ap suc (length-summed_from (at + 1) xs)

get_or-summed_from : (at : ℕ) (s : List ℕ) (i : ℕ) → i < length s → get_or (summed_from at s) i 0 ≡ summed (at + i) (get_or s i 0)
unfolding summed_from
get_or-summed_from at [] i h = absurd (omega arith)
get_or-summed_from at (x ∷ xs) zero h = ap (λ (n : ℕ). summed n x) (sym (add-zero at))
get_or-summed_from at (x ∷ xs) (suc i) h =
    get_or-summed_from (at + 1) xs i (le_of_suc-le-suc h) ∙ ap (λ (n : ℕ). summed n (get_or xs i 0)) (omega arith)

pub summed_at : (s : List ℕ) (i : ℕ) → i < length s → summed i (get_or s i 0) ≡ get_or (summed_from 0 s) i 0
summed_at s i h = ap (λ (n : ℕ). summed n (get_or s i 0)) (sym (zero-add i)) ∙ sym (get_or-summed_from 0 s i h)

-- blocks whose octets are one as they are summed have one remainder
pub crc-agree : (s t : List ℕ) → length s ≡ length t
    → ((i : ℕ) → i < length s → summed i (get_or s i 0) ≡ summed i (get_or t i 0)) → block_crc_of s ≡ block_crc_of t
unfolding block_crc_of
crc-agree s t same each =
    ap crc4_of
    (ext_get_or 0 (summed_from 0 s) (summed_from 0 t) (rw (length-summed_from 0 s, length-summed_from 0 t) same) (λ i l.
    let here : i < length s = rw (length-summed_from 0 s) at l in
    let there : i < length t = omega (arith, same) in
    sym (summed_at s i here) ∙ each i here ∙ summed_at t i there))
