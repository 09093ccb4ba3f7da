-- Laws of a run of bits as a number: in the middle of a list, and out of the octet that has it.
use mathlib.Core.Path.{◌≡◌, refl, sym, ap, ◌∙◌}
use mathlib.Core.Bool.{Bool}
use mathlib.Core.List.{List, [], ◌∷◌, ◌++◌, append_assoc}
use Prim.Native.Nat.{ℕ, zero, suc, ◌+◌, ◌-◌, ◌*◌, ◌/◌, ◌%◌, ◌^◌, ◌≤◌, ◌<◌}
use native.Mathlib.Nat.{mul-suc, add_comm, div-add-mod}
use native.Mathlib.Omega.{arith}
use lib.Pow.{high, low}
use lib.ListN.{length, get_or, take, drop, length-drop, length-take, take-append-drop}
use lib.Seq.{drop-drop, drop-cons, drop-nil, drop-append-add, drop-append-le, take-append-le}
use Rattle.bits.specs.Bits.{low_bits, octet_bits, bits_of, number}
use Rattle.bits.proofs.BitLaws.{length-low_bits, number_append, number_bound, number_fits}

-- the number of the bits in the middle of a list
pub part : (ps ms rs : List Bool) → number (ps ++ (ms ++ rs)) / 2 ^ length rs % 2 ^ length ms ≡ number ms
part ps ms rs =
    rw (← append_assoc, number_append (ps ++ ms) rs, high (number (ps ++ ms)) (length rs) (number_bound rs), number_append ps ms)
    (low (number ps) (length ms) (number_bound ms))

-- the number that n bits spell, after the first s
pub run_value : (s n : ℕ) (l : List Bool) → s + n ≤ length l
    → number (take n (drop s l)) ≡ number l / 2 ^ (length l - (s + n)) % 2 ^ n
run_value s n l h =
    let m : List Bool = take n (drop s l) in
    let r : List Bool = drop n (drop s l) in
    let whole : take s l ++ (m ++ r) ≡ l = rw (take-append-drop n (drop s l)) (take-append-drop s l) in
    let lm : length m ≡ n = simp (length-take, length-drop) (omega arith) in
    let lr : length r ≡ length l - (s + n) = simp length-drop (omega arith) in
    sym (rw (whole, lr, lm) at (part (take s l) m r))

pub length-octet : (x : ℕ) → length (octet_bits x) ≡ 8
length-octet x = length-low_bits 8 x

pub drop-bits_of : (i : ℕ) (xs : List ℕ) → drop (8 * i) (bits_of xs) ≡ bits_of (drop i xs)
unfolding bits_of low_bits
drop-bits_of zero xs = refl
drop-bits_of (suc i) [] = drop-nil (8 * suc i)
drop-bits_of (suc i) (x ∷ xs) =
    rw (mul-suc, add_comm (8 * i) 8, drop-append-add (octet_bits x) (bits_of xs) (8 * i)) (drop-bits_of i xs)

-- a run that ends within the first list
pub run-left : (s n : ℕ) (xs ys : List Bool) → s + n ≤ length xs → take n (drop s (xs ++ ys)) ≡ take n (drop s xs)
run-left s n xs ys h =
    let l : n ≤ length (drop s xs) = simp length-drop (omega arith) in
    let k : s ≤ length xs = omega arith in
    rw (drop-append-le s xs ys k) (take-append-le n (drop s xs) ys l)

-- ---- a run of bits that one octet has
pub run-within : (xs : List ℕ) (at n : ℕ) → at % 8 + n ≤ 8 → at / 8 < length xs → get_or xs (at / 8) 0 < 256
    → number (take n (drop at (bits_of xs))) ≡ get_or xs (at / 8) 0 / 2 ^ (8 - (at % 8 + n)) % 2 ^ n
unfolding bits_of
run-within xs at n h inside small =
    let q : ℕ = at / 8 in
    let s : ℕ = at % 8 in
    let x : ℕ = get_or xs q 0 in
    let rest : List Bool = bits_of (drop (suc q) xs) in
    let fits : s + n ≤ length (octet_bits x) = rw length-octet h in
    let whole : drop at (bits_of xs) ≡ drop s (bits_of (drop q xs)) =
    ap (λ (k : ℕ). drop k (bits_of xs)) (sym (div-add-mod at 8)) ∙ sym (drop-drop s (8 * q) (bits_of xs))
    ∙ ap (drop s) (drop-bits_of q xs) in
    rw (whole, drop-cons xs q 0 inside, run-left s n (octet_bits x) rest fits, run_value s n (octet_bits x) fits, length-octet x, number_fits 8 x small)
