-- Laws of octets from a place on as one number.
use mathlib.Core.Path.{◌≡◌, refl, sym, ap, ap₂, ◌∙◌}
use mathlib.Core.Bool.{Bool}
use mathlib.Core.List.{List, [], ◌∷◌, ◌++◌}
use Prim.Native.Nat.{ℕ, zero, suc, ◌+◌, ◌*◌, ◌%◌, ◌-◌, ◌^◌, ◌≤◌, ◌<◌, min}
use native.Mathlib.Nat.{add-zero, add-suc, add_assoc, add-mul, mul_assoc, mod-lt, mod-eq_of_lt}
use native.Mathlib.Omega.{arith}
use lib.Arith.{digits_lt}
use lib.Dec.{lit<}
use lib.ListN.{length, get_or, take, drop, replicate, length-drop, get_or-eq_default}
use lib.Pow.{pow_pos, pow-add}
use lib.Seq.{get_or-drop, get_or-take, length-take-le, take_all, take-suc}
use mathlib.Core.Logic.{⊎_elim}
use Rattle.std.specs.Int.{from_be_bytes, w64}
use Rattle.std.proofs.lemmas.Bool.{cases_lt}
use Rattle.std.proofs.lemmas.List.{get_or_append_left, get_or-append_right, get_or-replicate}
use Rattle.bits.specs.Bits.{octet_bits, bits_of, number, number_at}
use Rattle.bits.proofs.BitLaws.{length-low_bits, number_append, number-low_bits, bits_of-append, bits_of_one}

pub number_at-lt : (s : List ℕ) (at n : ℕ) → number_at s at n < 2 ^ (8 * n)
unfolding number_at
number_at-lt s at zero = lit< tt
number_at-lt s at (suc n) =
    let e : 8 * suc n ≡ 8 * n + 8 = omega arith in
    rw (e, pow-add 2 (8 * n) 8) (digits_lt (number_at-lt s at n) (mod-lt (get_or s (at + n) 0) (pow_pos 8)))

-- in two parts
pub number_parts : (s : List ℕ) (at n k : ℕ) → number_at s at (n + k) ≡ number_at s at n * 2 ^ (8 * k) + number_at s (at + n) k
unfolding number_at
number_parts s at n zero = ap (number_at s at) (add-zero n) ∙ omega arith
number_parts s at n (suc k) =
    let e : 8 * suc k ≡ 8 * k + 8 = omega arith in
    let a = number_at s at n in
    let b = number_at s (at + n) k in
    ap (number_at s at) (add-suc n k)
    ∙ ap₂ (λ (x i : ℕ). x * 256 + get_or s i 0 % 256) (number_parts s at n k) (sym (add_assoc at n k))
    ∙ rw (e, pow-add 2 (8 * k) 8, add-mul (a * 2 ^ (8 * k)) b 256, mul_assoc a (2 ^ (8 * k)) 256, add_assoc (a * (2 ^ (8 * k) * 256)) (b * 256) (get_or s (at + n + k) 0 % 256))

-- octets that are all there: their bits spell the number
pub number-at : (s : List ℕ) (at n : ℕ) → at + n ≤ length s → number_at s at n ≡ number (bits_of (take n (drop at s)))
unfolding number_at bits_of number
number-at s at zero h = refl
number-at s at (suc n) h =
    let t = drop at s in
    let x = get_or s (at + n) 0 in
    let inside : n < length t = rw (length-drop at s) (omega arith) in
    sym
    (ap (λ (l : List ℕ). number (bits_of l)) (take-suc t n 0 inside ∙ ap (λ (y : ℕ). take n t ++ (y ∷ [])) (get_or-drop at s n 0))
    ∙ ap number (bits_of-append (take n t) (x ∷ []) ∙ ap (λ (l : List Bool). bits_of (take n t) ++ l) (bits_of_one x))
    ∙ number_append (bits_of (take n t)) (octet_bits x)
    ∙ ap₂ (λ (k z : ℕ). number (bits_of (take n t)) * 2 ^ k + z) (length-low_bits 8 x) (number-low_bits 8 x)
    ∙ ap (λ (y : ℕ). y * 256 + x % 256) (sym (number-at s at n (omega arith))))

-- eight octets that are read at once, where the list xs has them at its front
pub eight_read : (s xs : List ℕ) (at : ℕ) → ((i : ℕ) → get_or s i 0 < 256) → ((i : ℕ) → i < 8 → get_or xs i 0 ≡ get_or s (at + i) 0)
    → from_be_bytes w64 xs ≡ number_at s at 8
unfolding number_at
eight_read s xs at small same =
    let e : (i : ℕ) → i < 8 → get_or s (at + i) 0 % 256 ≡ get_or xs i 0 = λ i h. mod-eq_of_lt (small (at + i)) ∙ sym (same i h) in
    rw (e 0 (omega arith), e 1 (omega arith), e 2 (omega arith), e 3 (omega arith), e 4 (omega arith), e 5 (omega arith), e 6 (omega arith), e 7 (omega arith)) (omega arith)

-- the same, where xs is a part of what follows
pub eight_cut : (s xs : List ℕ) (at m : ℕ) → ((i : ℕ) → get_or s i 0 < 256) → 8 ≤ m → xs ≡ take 8 (take m (drop at s)) → from_be_bytes w64 xs ≡ number_at s at 8
eight_cut s xs at m small room is =
    eight_read s xs at small
    (λ i h.
    ap (λ (l : List ℕ). get_or l i 0) is ∙ get_or-take 8 (take m (drop at s)) i 0 h ∙ get_or-take m (drop at s) i 0 (omega arith)
    ∙ get_or-drop at s i 0)

-- a place of what is left of s, cut off at n and filled up with zeros
filled-up : (rest : List ℕ) (n i : ℕ) → n ≡ min (length rest) 8 → i < 8 → get_or (take n rest ++ drop n (replicate 8 0)) i 0 ≡ get_or rest i 0
filled-up rest n i e h =
    let l : length (take n rest) ≡ n = length-take-le n rest (omega arith) in
    let early : (k : i < n) → get_or (take n rest ++ drop n (replicate 8 0)) i 0 ≡ get_or rest i 0 =
    λ k. get_or_append_left (take n rest) (drop n (replicate 8 0)) 0 i (omega arith) ∙ get_or-take n rest i 0 k in
    let late : (k : n ≤ i) → get_or (take n rest ++ drop n (replicate 8 0)) i 0 ≡ get_or rest i 0 =
    λ k. get_or-append_right (take n rest) (drop n (replicate 8 0)) n i 0 l k ∙ get_or-drop n (replicate 8 0) (i - n) 0 ∙ get_or-replicate 8 (n + (i - n)) 0 0 (omega arith)
    ∙ sym (get_or-eq_default rest 0 (omega arith)) in
    ⊎_elim early late (cases_lt i n)

-- the same, where xs is what is left of s, filled up with zeros
pub eight_short : (s rest : List ℕ) (at k n : ℕ) → ((i : ℕ) → get_or s i 0 < 256) → k ≡ min at (length s) → rest ≡ take (length s - k) (drop k s)
    → n ≡ min (length rest) 8 → from_be_bytes w64 (take n rest ++ drop n (replicate 8 0)) ≡ number_at s at 8
eight_short s rest at k n small start is e =
    let all : rest ≡ drop k s = is ∙ take_all (length s - k) (drop k s) (rw length-drop (omega arith)) in
    let here : (i : ℕ) → get_or rest i 0 ≡ get_or s (at + i) 0 =
    λ i. ap (λ (l : List ℕ). get_or l i 0) all ∙ get_or-drop k s i 0
    ∙ ⊎_elim (λ (h : at < length s). ap (λ (j : ℕ). get_or s (j + i) 0) (omega arith))
    (λ (h : length s ≤ at). get_or-eq_default s 0 (omega arith) ∙ sym (get_or-eq_default s 0 (omega arith))) (cases_lt at (length s)) in
    eight_read s (take n rest ++ drop n (replicate 8 0)) at small (λ i h. filled-up rest n i e h ∙ here i)
