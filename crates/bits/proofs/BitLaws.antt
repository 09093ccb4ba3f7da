-- Laws of bits: of the sum without carry, and of the passage between numbers and bits, once for every width.
use mathlib.Core.Path.{◌≡◌, refl, sym, ap, ap₂, ◌∙◌}
use mathlib.Core.Bool.{Bool, true, false, xor, ◌&&◌, ◌||◌}
use mathlib.Core.List.{List, [], ◌∷◌, ◌++◌, append_assoc, append-nil}
use Prim.Native.Nat.{ℕ, zero, suc, ◌+◌, ◌-◌, ◌*◌, ◌/◌, ◌%◌, ◌^◌, ◌≤◌, ◌<◌, min, max}
use native.Mathlib.Nat.{suc_inj, suc-ne-zero, pow-suc, mul_assoc, add_assoc, mod-one, mod-eq_of_lt, mul-add-mod_self_right, mul-add-div_right, pow-succ', zero-div, zero-mul, add-mul, zero-add, suc-add, add_comm, add-zero, div-one, le_of_suc-le-suc, lt_of_lt_of_le}
use native.Mathlib.Omega.{arith}
use native.Mathlib.Numerals.{one-add}
use lib.Dec.{eqb}
use lib.ListN.{length, get_or, take, drop, length-append}
use lib.Seq.{take_at, drop_at, length-take-le}
use Rattle.std.proofs.lemmas.List.{take_more}
use lib.Pow.{pow_pos, pow_mono, pow-add, mod-pow-add, high, split, shr-shr, shl-shr}
use lib.Bits.{bit_xor, bit_or, bit_and, xor_step, or_step, and_step, xor_shr, or_shr, and_shr, differ}
use Rattle.bits.proofs.BoolLaws.{xor_comm, xor_assoc, xor-false, xor_self}
use Rattle.bits.specs.Bits.{odd, low_bits, octet_bits, sc_bit, without_sc, bits_of, digit, number, zeros, xors}

-- ---- the sum of two lists of bits
pub xors_comm : (xs ys : List Bool) → xors xs ys ≡ xors ys xs
unfolding xors
xors_comm [] [] = refl
xors_comm [] (y ∷ ys) = refl
xors_comm (x ∷ xs) [] = refl
xors_comm (x ∷ xs) (y ∷ ys) = ap₂ ◌∷◌ (xor_comm x y) (xors_comm xs ys)

pub xors_assoc : (xs ys zs : List Bool) → xors (xors xs ys) zs ≡ xors xs (xors ys zs)
unfolding xors
xors_assoc [] ys zs = refl
xors_assoc (x ∷ xs) [] zs = refl
xors_assoc (x ∷ xs) (y ∷ ys) [] = refl
xors_assoc (x ∷ xs) (y ∷ ys) (z ∷ zs) = ap₂ ◌∷◌ (xor_assoc x y z) (xors_assoc xs ys zs)

-- four sums, regrouped
pub xors_medial : (a b c d : List Bool) → xors (xors a b) (xors c d) ≡ xors (xors a c) (xors b d)
xors_medial a b c d =
    xors_assoc a b (xors c d)
    ∙ ap (xors a) (sym (xors_assoc b c d) ∙ ap (λ (l : List Bool). xors l d) (xors_comm b c) ∙ xors_assoc c b d)
    ∙ sym (xors_assoc a c (xors b d))

pub length-xors : (xs ys : List Bool) → length xs ≡ length ys → length (xors xs ys) ≡ length xs
unfolding xors
length-xors [] ys h = refl
length-xors (x ∷ xs) [] h = absurd (suc-ne-zero _ h)
length-xors (x ∷ xs) (y ∷ ys) h = ap suc (length-xors xs ys (suc_inj h))

pub xors-zeros : (xs : List Bool) (k : ℕ) → length xs ≡ k → xors xs (zeros k) ≡ xs
unfolding xors
xors-zeros [] k h = refl
xors-zeros (x ∷ xs) zero h = absurd (suc-ne-zero _ h)
xors-zeros (x ∷ xs) (suc k) h = ap₂ ◌∷◌ (xor-false x) (xors-zeros xs k (suc_inj h))

pub xors_self : (xs : List Bool) → xors xs xs ≡ zeros (length xs)
unfolding xors
xors_self [] = refl
xors_self (x ∷ xs) = ap₂ ◌∷◌ (xor_self x) (xors_self xs)

-- what is added twice is gone
pub xors_cancel : (xs ys : List Bool) → length xs ≡ length ys → xors xs (xors xs ys) ≡ ys
xors_cancel xs ys h =
    sym (xors_assoc xs xs ys) ∙ ap (λ (l : List Bool). xors l ys) (xors_self xs)
    ∙ xors_comm (zeros (length xs)) ys ∙ xors-zeros ys (length xs) (sym h)

pub xors-append : (xs ys us vs : List Bool) → length xs ≡ length ys → xors (xs ++ us) (ys ++ vs) ≡ xors xs ys ++ xors us vs
unfolding xors
xors-append [] [] us vs h = refl
xors-append [] (y ∷ ys) us vs h = absurd (suc-ne-zero _ (sym h))
xors-append (x ∷ xs) [] us vs h = absurd (suc-ne-zero _ h)
xors-append (x ∷ xs) (y ∷ ys) us vs h = ap (λ (l : List Bool). xor x y ∷ l) (xors-append xs ys us vs (suc_inj h))

-- ---- numbers and bits
pub length-low_bits : (k n : ℕ) → length (low_bits k n) ≡ k
unfolding low_bits
length-low_bits zero n = refl
length-low_bits (suc k) n = ap suc (length-low_bits k n)

pub odd-digit : (b : Bool) → odd (digit b) ≡ b
unfolding odd
odd-digit true = refl
odd-digit false = refl

-- the bit of a remainder by 2
bit_of : (r : ℕ) → r < 2 → digit (eqb r 1) ≡ r
bit_of zero h = refl
bit_of (suc zero) h = refl
bit_of (suc (suc r)) h = absurd (omega arith)

pub digit-odd : (n : ℕ) → digit (odd n) ≡ n % 2
unfolding odd
digit-odd n = bit_of (n % 2) (omega arith)

pub number-low_bits : (k n : ℕ) → number (low_bits k n) ≡ n % 2 ^ k
unfolding number low_bits
number-low_bits zero n = sym (mod-one n)
number-low_bits (suc k) n =
    rw (length-low_bits k n, number-low_bits k n, digit-odd (n / 2 ^ k))
    (sym (mod-pow-add n 1 k) ∙ ap (λ (j : ℕ). n % 2 ^ j) (one-add k))

-- a number of k bits is what its bits spell
pub number_fits : (k n : ℕ) → n < 2 ^ k → number (low_bits k n) ≡ n
number_fits k n h = number-low_bits k n ∙ mod-eq_of_lt h

pub number_bound : (bs : List Bool) → number bs < 2 ^ length bs
unfolding number
number_bound [] = omega arith
number_bound (true ∷ bs) = omega (arith, number_bound bs, pow-suc 2 (length bs))
number_bound (false ∷ bs) = omega (arith, number_bound bs, pow-suc 2 (length bs))

pub odd-above : (a q : ℕ) → odd (a * 2 + q) ≡ odd q
unfolding odd
odd-above a q = ap (λ (r : ℕ). eqb r 1) (mul-add-mod_self_right a 2 q)

-- what stands above the k low bits does not show in them
pub low_bits-above : (k a n : ℕ) → low_bits k (a * 2 ^ k + n) ≡ low_bits k n
unfolding low_bits
low_bits-above zero a n = refl
low_bits-above (suc k) a n =
    let e : a * 2 ^ suc k + n ≡ a * 2 * 2 ^ k + n = rw (pow-succ' 2 k, mul_assoc a 2 (2 ^ k)) in
    ap₂ ◌∷◌ (ap (λ (m : ℕ). odd (m / 2 ^ k)) e ∙ ap odd (mul-add-div_right (pow_pos k) (a * 2) n) ∙ odd-above a (n / 2 ^ k))
    (ap (low_bits k) e ∙ low_bits-above k (a * 2) n)

pub low_bits-mod : (k n : ℕ) → low_bits k (n % 2 ^ k) ≡ low_bits k n
low_bits-mod k n = sym (low_bits-above k (n / 2 ^ k) (n % 2 ^ k)) ∙ ap (low_bits k) (split n k)

pub low_bits-zero : (k : ℕ) → low_bits k 0 ≡ zeros k
unfolding low_bits
low_bits-zero zero = refl
low_bits-zero (suc k) = ap₂ ◌∷◌ (ap odd (zero-div (2 ^ k)) ∙ odd-digit false) (low_bits-zero k)

-- the j + k low bits are j bits above the k low ones
pub low_bits-append : (j k n : ℕ) → low_bits (j + k) n ≡ low_bits j (n / 2 ^ k) ++ low_bits k n
unfolding low_bits
low_bits-append zero k n = rw zero-add
low_bits-append (suc j) k n =
    ap (λ (m : ℕ). low_bits m n) (suc-add j k)
    ∙ ap₂ ◌∷◌ (ap (λ (m : ℕ). odd (n / 2 ^ m)) (add_comm j k) ∙ ap odd (sym (shr-shr n k j))) (low_bits-append j k n)

-- a number times 2 ^ k: its bits, and k zeros
pub low_bits_shifted : (j k n : ℕ) → low_bits (j + k) (n * 2 ^ k) ≡ low_bits j n ++ zeros k
low_bits_shifted j k n =
    low_bits-append j k (n * 2 ^ k)
    ∙ ap₂ ◌++◌ (ap (low_bits j) (shl-shr n k)) (ap (low_bits k) (sym (add-zero (n * 2 ^ k))) ∙ low_bits-above k n 0 ∙ low_bits-zero k)

-- bit r of k bits, counted from the highest
pub get_or-low_bits : (k n r : ℕ) (d : Bool) → r < k → get_or (low_bits k n) r d ≡ odd (n / 2 ^ (k - (r + 1)))
unfolding low_bits
get_or-low_bits zero n r d h = absurd (omega arith)
get_or-low_bits (suc k) n zero d h = ap (λ (j : ℕ). odd (n / 2 ^ j)) (omega arith)
get_or-low_bits (suc k) n (suc r) d h =
    get_or-low_bits k n r d (le_of_suc-le-suc h) ∙ ap (λ (j : ℕ). odd (n / 2 ^ j)) (omega arith)

-- ---- octets
pub bits_of-append : (s t : List ℕ) → bits_of (s ++ t) ≡ bits_of s ++ bits_of t
unfolding bits_of
bits_of-append [] t = refl
bits_of-append (x ∷ s) t = ap (λ (l : List Bool). octet_bits x ++ l) (bits_of-append s t) ∙ sym (append_assoc (octet_bits x) (bits_of s) (bits_of t))

-- the SC bit is the lowest, and what is left without it is even
pub sc_is : (x : ℕ) → sc_bit x ≡ odd x
unfolding sc_bit low_bits
sc_is x = ap odd (div-one x)

pub without-sc : (x : ℕ) → without_sc x ≡ x / 2 * 2
unfolding without_sc
without-sc x = rw sc_is (omega (arith, digit-odd x))

pub same_without : (x y : ℕ) → x / 2 ≡ y / 2 → without_sc x ≡ without_sc y
same_without x y e = without-sc x ∙ ap (λ (n : ℕ). n * 2) e ∙ sym (without-sc y)

pub bits_of_one : (x : ℕ) → bits_of (x ∷ []) ≡ octet_bits x
unfolding bits_of
bits_of_one x = append-nil (octet_bits x)

pub length-bits_of : (s : List ℕ) → length (bits_of s) ≡ length s * 8
unfolding bits_of
length-bits_of [] = refl
length-bits_of (x ∷ xs) =
    let h : length (octet_bits x) ≡ 8 = length-low_bits 8 x in
    omega (arith, length-append (octet_bits x) (bits_of xs), length-bits_of xs)

-- bits spell a number whose bits they are
pub low_bits-number : (bs : List Bool) → low_bits (length bs) (number bs) ≡ bs
unfolding low_bits number
low_bits-number [] = refl
low_bits-number (b ∷ bs) =
    ap₂ ◌∷◌ (ap odd (high (digit b) (length bs) (number_bound bs)) ∙ odd-digit b)
    (low_bits-above (length bs) (digit b) (number bs) ∙ low_bits-number bs)

-- two equally long lists of bits that spell one number are equal
pub number_inj : (xs ys : List Bool) → length xs ≡ length ys → number xs ≡ number ys → xs ≡ ys
number_inj xs ys h e = sym (low_bits-number xs) ∙ ap₂ low_bits h e ∙ low_bits-number ys

-- ---- the machine's operations on numbers, in their bits; exclusive or is the sum without carry
-- an operation that goes digit by digit has the lowest bit that it gives of the two lowest digits
odd_of : (op on-digits : ℕ → ℕ → ℕ) (on-bits : Bool → Bool → Bool)
    → ((a b : ℕ) → op a b ≡ op (a / 2) (b / 2) * 2 + on-digits (a % 2) (b % 2))
    → ((p q : Bool) → odd (on-digits (digit p) (digit q)) ≡ on-bits p q)
    → (a b : ℕ) → odd (op a b) ≡ on-bits (odd a) (odd b)
odd_of op on-digits on-bits step lowest a b =
    ap odd (step a b) ∙ odd-above (op (a / 2) (b / 2)) (on-digits (a % 2) (b % 2))
    ∙ ap₂ (λ (x y : ℕ). odd (on-digits x y)) (sym (digit-odd a)) (sym (digit-odd b))
    ∙ lowest (odd a) (odd b)

differ_odd : (p q : Bool) → odd (differ (digit p) (digit q)) ≡ xor p q
unfolding odd xor
differ_odd true true = refl
differ_odd true false = refl
differ_odd false true = refl
differ_odd false false = refl

max-odd : (p q : Bool) → odd (max (digit p) (digit q)) ≡ (p || q)
unfolding odd
max-odd true true = refl
max-odd true false = refl
max-odd false true = refl
max-odd false false = refl

min-odd : (p q : Bool) → odd (min (digit p) (digit q)) ≡ (p && q)
unfolding odd
min-odd true true = refl
min-odd true false = refl
min-odd false true = refl
min-odd false false = refl

pub odd-xor : (a b : ℕ) → odd (bit_xor a b) ≡ xor (odd a) (odd b)
odd-xor = odd_of bit_xor differ xor xor_step differ_odd

pub odd-or : (a b : ℕ) → odd (bit_or a b) ≡ (odd a || odd b)
odd-or = odd_of bit_or max ◌||◌ or_step max-odd

pub odd-and : (a b : ℕ) → odd (bit_and a b) ≡ (odd a && odd b)
odd-and = odd_of bit_and min ◌&&◌ and_step min-odd

-- and so has each of their bits
pub bit-xor : (a b k : ℕ) → odd (bit_xor a b / 2 ^ k) ≡ xor (odd (a / 2 ^ k)) (odd (b / 2 ^ k))
bit-xor a b k = ap odd (xor_shr a b k) ∙ odd-xor (a / 2 ^ k) (b / 2 ^ k)

pub bit-or : (a b k : ℕ) → odd (bit_or a b / 2 ^ k) ≡ (odd (a / 2 ^ k) || odd (b / 2 ^ k))
bit-or a b k = ap odd (or_shr a b k) ∙ odd-or (a / 2 ^ k) (b / 2 ^ k)

pub bit-and : (a b k : ℕ) → odd (bit_and a b / 2 ^ k) ≡ (odd (a / 2 ^ k) && odd (b / 2 ^ k))
bit-and a b k = ap odd (and_shr a b k) ∙ odd-and (a / 2 ^ k) (b / 2 ^ k)

pub low_bits-xor : (k a b : ℕ) → low_bits k (bit_xor a b) ≡ xors (low_bits k a) (low_bits k b)
unfolding low_bits xors
low_bits-xor zero a b = refl
low_bits-xor (suc k) a b = ap₂ ◌∷◌ (bit-xor a b k) (low_bits-xor k a b)

-- ---- more of numbers and bits
pub low_bits-back : (k : ℕ) (bs : List Bool) → length bs ≡ k → low_bits k (number bs) ≡ bs
low_bits-back k bs h = ap (λ (n : ℕ). low_bits n (number bs)) (sym h) ∙ low_bits-number bs

pub number_append : (xs ys : List Bool) → number (xs ++ ys) ≡ number xs * 2 ^ length ys + number ys
unfolding number
number_append [] ys = sym (ap (λ (n : ℕ). n + number ys) (zero-mul (2 ^ length ys)) ∙ zero-add (number ys))
number_append (x ∷ xs) ys =
    rw (length-append xs ys, pow-add 2 (length xs) (length ys), number_append xs ys, add-mul, mul_assoc, add_assoc)

-- two pairs with one sum: crosswise they have one sum too
pub xors_swap : (x y u v : List Bool) → length x ≡ length y → length u ≡ length v → length x ≡ length u → xors x y ≡ xors u v → xors x u ≡ xors y v
xors_swap x y u v hxy huv hxu e =
    sym (xors-zeros (xors x u) (length v) (length-xors x u hxu ∙ hxu ∙ huv)
    ∙ refl)
    ∙ ap (xors (xors x u)) (sym (xors_self v))
    ∙ sym (xors_assoc (xors x u) v v)
    ∙ ap (λ (l : List Bool). xors l v) (xors_assoc x u v ∙ ap (xors x) (sym e) ∙ xors_cancel x y hxy)

pub take-xors : (n : ℕ) (xs ys : List Bool) → take n (xors xs ys) ≡ xors (take n xs) (take n ys)
unfolding xors
take-xors zero xs ys = refl
take-xors (suc n) [] ys = refl
take-xors (suc n) (x ∷ xs) [] = refl
take-xors (suc n) (x ∷ xs) (y ∷ ys) = ap (λ (l : List Bool). xor x y ∷ l) (take-xors n xs ys)

xors-nil : (xs : List Bool) → xors xs [] ≡ []
unfolding xors
xors-nil [] = refl
xors-nil (x ∷ xs) = refl

pub drop-xors : (n : ℕ) (xs ys : List Bool) → drop n (xors xs ys) ≡ xors (drop n xs) (drop n ys)
unfolding xors
drop-xors zero xs ys = refl
drop-xors (suc n) [] ys = refl
drop-xors (suc n) (x ∷ xs) [] = sym (xors-nil (drop n xs))
drop-xors (suc n) (x ∷ xs) (y ∷ ys) = drop-xors n xs ys

-- one bit more
pub number_more : (bs : List Bool) (i : ℕ) (d : Bool) → i < length bs → number (take (i + 1) bs) ≡ number (take i bs) * 2 + digit (get_or bs i d)
unfolding number
number_more bs i d h =
    ap number (take_more bs i d h) ∙ number_append (take i bs) (get_or bs i d ∷ [])
    ∙ ap (λ (n : ℕ). number (take i bs) * 2 + n) (omega arith)

-- and it fits the octet
pub number_below : (bs : List Bool) (i k : ℕ) → i ≤ length bs → i ≤ k → number (take i bs) < 2 ^ k
number_below bs i k h room =
    lt_of_lt_of_le (number_bound (take i bs)) (rw (length-take-le i bs h) (pow_mono {i = i} {j = k} room))

-- sixteen bits as a number are two octets
pub low_bits_two : (h l : ℕ) → l < 256 → low_bits 16 (h * 256 + l) ≡ octet_bits h ++ octet_bits l
low_bits_two h l k =
    low_bits-append 8 8 (h * 256 + l)
    ∙ ap₂ ◌++◌ (ap (low_bits 8) (high h 8 k)) (low_bits-above 8 h l)

pub first_octet : (bs : List Bool) → length bs ≡ 16 → octet_bits (number bs / 256) ≡ take 8 bs
first_octet bs h =
    sym (take_at (octet_bits (number bs / 256)) (octet_bits (number bs)) 8 (length-low_bits 8 (number bs / 256)))
    ∙ ap (take 8) (sym (low_bits-append 8 8 (number bs)) ∙ low_bits-back 16 bs h)

pub second-octet : (bs : List Bool) → length bs ≡ 16 → octet_bits (number bs % 256) ≡ drop 8 bs
second-octet bs h =
    low_bits-mod 8 (number bs)
    ∙ sym (drop_at (octet_bits (number bs / 256)) (octet_bits (number bs)) 8 (length-low_bits 8 (number bs / 256)))
    ∙ ap (drop 8) (sym (low_bits-append 8 8 (number bs)) ∙ low_bits-back 16 bs h)
