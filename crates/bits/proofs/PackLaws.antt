-- Laws of packing: by parts, octet by octet, with zeros past the end; packed octets have the bits that were packed, and the other way round.
use mathlib.Core.Path.{◌≡◌, refl, sym, ap, ◌∙◌}
use mathlib.Core.Bool.{Bool}
use mathlib.Core.List.{List, [], ◌∷◌, ◌++◌, append_assoc}
use Prim.Native.Nat.{ℕ, zero, suc, ◌+◌, ◌-◌, ◌*◌, ◌^◌, ◌≤◌, ◌<◌}
use native.Mathlib.Nat.{zero-add, add-zero, suc-add, zero-mul, mul-suc, add_comm}
use native.Mathlib.Numerals.{add-one}
use native.Mathlib.Omega.{arith}
use lib.Dec.{lit<}
use lib.ListN.{length, get_or, take, drop, set, replicate, length-append, length-drop, length-take, take-append-drop}
use lib.Seq.{drop-drop, drop-cons, take-nil, take-append-le, take-append-add, drop-append-le, length-take-le, take_at, drop_at, set_at, append_snoc}
use Rattle.bits.specs.Bits.{low_bits, octet_bits, bits_of, number, zeros, octets}
use Rattle.bits.proofs.BitLaws.{low_bits-back, number_append, number_fits}
use Rattle.bits.proofs.RunLaws.{length-octet}

pub length-octets : (n : ℕ) (bs : List Bool) → length (octets n bs) ≡ n
unfolding octets
length-octets zero bs = refl
length-octets (suc n) bs = ap suc (length-octets n (drop 8 bs))

pub no_bits : (bs : List Bool) → length bs ≡ 0 → bs ≡ []
no_bits [] h = refl
no_bits (b ∷ bs) h = let z : ◌≡◌ {A = ℕ} 0 1 = omega arith in absurd (omega (arith, z))

pub octets-append : (n m : ℕ) (xs ys : List Bool) → length xs ≡ n * 8 → octets (n + m) (xs ++ ys) ≡ octets n xs ++ octets m ys
unfolding octets
octets-append zero m xs ys h = rw (zero-add, no_bits xs (h ∙ omega arith))
octets-append (suc n) m xs ys h =
    let l : 8 ≤ length xs = omega arith in
    let k : length (drop 8 xs) ≡ n * 8 = rw length-drop (omega arith) in
    rw (suc-add, append_assoc xs ys (zeros 8), take-append-le 8 xs (ys ++ zeros 8) l, drop-append-le 8 xs ys l, octets-append n m (drop 8 xs) ys k, take-append-le 8 xs (zeros 8) l)

pub octets_one : (xs : List Bool) → length xs ≡ 8 → octets 1 xs ≡ number xs ∷ []
unfolding octets
octets_one xs h = rw (take_at xs (zeros 8) 8 h)

pub bits-octets : (n : ℕ) (bs : List Bool) → length bs ≡ n * 8 → bits_of (octets n bs) ≡ bs
unfolding octets bits_of
bits-octets zero bs h = sym (no_bits bs (h ∙ omega arith))
bits-octets (suc n) bs h =
    let l : 8 ≤ length bs = omega arith in
    let e : length (take 8 bs) ≡ 8 = rw length-take (omega arith) in
    let d : length (drop 8 bs) ≡ n * 8 = rw length-drop (omega arith) in
    rw (take-append-le 8 bs (zeros 8) l, low_bits-back 8 (take 8 bs) e, bits-octets n (drop 8 bs) d) (take-append-drop 8 bs)

-- ---- one octet more, and a first part
pub octets_snoc : (n : ℕ) (bs : List Bool) → octets (n + 1) bs ≡ octets n bs ++ (number (take 8 (drop (n * 8) bs ++ zeros 8)) ∷ [])
unfolding octets
octets_snoc zero bs = refl
octets_snoc (suc n) bs =
    let e : suc n * 8 ≡ 8 + n * 8 = omega arith in
    rw (suc-add n 1, octets_snoc n (drop 8 bs), e, drop-drop (n * 8) 8 bs)

pub octets_prefix : (n : ℕ) (xs ys : List Bool) → n * 8 ≤ length xs → octets n (xs ++ ys) ≡ octets n xs
unfolding octets
octets_prefix zero xs ys h = refl
octets_prefix (suc n) xs ys h =
    let l : 8 ≤ length xs = omega arith in
    let k : n * 8 ≤ length (drop 8 xs) = rw length-drop (omega arith) in
    rw (append_assoc xs ys (zeros 8), take-append-le 8 xs (ys ++ zeros 8) l, drop-append-le 8 xs ys l, octets_prefix n (drop 8 xs) ys k, take-append-le 8 xs (zeros 8) l)

-- ---- zeros past the end
octets-nil : (m : ℕ) → octets m [] ≡ replicate m 0
unfolding octets number
octets-nil zero = refl
octets-nil (suc m) = rw (octets-nil m)

pub octets-zeros : (n m : ℕ) (bs : List Bool) → length bs ≤ n * 8 → octets (n + m) bs ≡ octets n bs ++ replicate m 0
unfolding octets
octets-zeros zero m bs h = rw (zero-add, no_bits bs (omega arith)) (octets-nil m)
octets-zeros (suc n) m bs h =
    let k : length (drop 8 bs) ≤ n * 8 = rw length-drop (omega arith) in
    rw (suc-add n m, octets-zeros n m (drop 8 bs) k)

number-zeros : (m n : ℕ) → number (take m (zeros n)) ≡ 0
unfolding number
number-zeros zero n = refl
number-zeros (suc m) zero = refl
number-zeros (suc m) (suc n) = rw (number-zeros m n, zero-mul)

pub padded : (l : List Bool) → length l ≤ 8 → number (take 8 (l ++ zeros 8)) ≡ number l * 2 ^ (8 - length l)
padded l h =
    let m : ℕ = 8 - length l in
    let e : 8 ≡ length l + m = omega arith in
    let k : length (take m (zeros 8)) ≡ m = length-take-le m (zeros 8) (omega arith) in
    ap (λ (n : ℕ). number (take n (l ++ zeros 8))) e ∙ ap number (take-append-add l (zeros 8) m) ∙ number_append l (take m (zeros 8))
    ∙ rw (k, number-zeros m 8, add-zero)

-- ---- octets that are packed from their own bits
pub take-bits_of : (k : ℕ) (xs : List ℕ) → take (8 * k) (bits_of xs) ≡ bits_of (take k xs)
unfolding bits_of low_bits
take-bits_of zero xs = refl
take-bits_of (suc k) [] = take-nil (8 * suc k)
take-bits_of (suc k) (x ∷ xs) =
    rw (mul-suc, add_comm (8 * k) 8, take-append-add (octet_bits x) (bits_of xs) (8 * k)) (ap (λ (l : List Bool). octet_bits x ++ l) (take-bits_of k xs))

pub octets-bits : (xs : List ℕ) → ((k : ℕ) → get_or xs k 0 < 256) → octets (length xs) (bits_of xs) ≡ xs
unfolding octets bits_of
octets-bits [] h = refl
octets-bits (x ∷ xs) h =
    let l : 8 ≤ length (octet_bits x ++ bits_of xs) = rw (length-append, length-octet) (omega arith) in
    rw (take-append-le 8 (octet_bits x ++ bits_of xs) (zeros 8) l, take_at (octet_bits x) (bits_of xs) 8 (length-octet x), drop_at (octet_bits x) (bits_of xs) 8 (length-octet x), number_fits 8 x (h 0), octets-bits xs (λ k. h (suc k)))

pub below-take : (k : ℕ) (xs : List ℕ) (i : ℕ) → ((j : ℕ) → get_or xs j 0 < 256) → get_or (take k xs) i 0 < 256
below-take zero xs i h = lit< tt
below-take (suc k) [] i h = lit< tt
below-take (suc k) (x ∷ xs) zero h = h 0
below-take (suc k) (x ∷ xs) (suc i) h = below-take k xs i (λ j. h (suc j))

-- ---- a slice that is filled from the front
-- one more element written: W k is what the first k elements are to be
pub one_more : (W : ℕ → List ℕ) (f : List ℕ) (k x : ℕ) → length (W k) ≡ k → W (k + 1) ≡ W k ++ (x ∷ []) → k < length f
    → set (W k ++ drop k f) k x ≡ W (k + 1) ++ drop (k + 1) f
one_more W f k x hl hw hk = rw (hw, add-one k, drop-cons f k 0 hk, set_at (W k) _ _ x k hl) (sym (append_snoc (W k) x (drop (suc k) f)))
