-- What `decimal_of` says: read back it is the number, none but 0 begins with a zero, and a small number has few digits.
use borrow.Author.Tests.{lt-ltb, leb-true, leb-false}
use mathlib.Core.Path.{◌≡◌, refl, sym, ap, ◌∙◌}
use mathlib.Core.Bool.{Bool, true, false, cond}
use mathlib.Core.List.{List, [], ◌∷◌, ◌++◌}
use Prim.Native.Nat.{ℕ, zero, suc, ◌+◌, ◌-◌, ◌*◌, ◌/◌, ◌%◌, ◌^◌, ◌≤◌, ◌<◌}
use native.Mathlib.Nat.{div-eq_of_lt, div-lt_iff_lt-mul, div-div-eq-div-mul, le-div_iff_mul-le, one-le-pow, one-mul, pow-suc, mul_comm}
use native.Mathlib.Omega.{arith}
use lib.Dec.{leb, lit<}
use lib.ListN.{length, get_or, length-append}
use Rattle.digits.specs.Digits.{digit_of, digit_at, digits_from, decimal_of}
use Rattle.digits.proofs.DigitLaws.{digits_below}

shown : (d : ℕ) → d < 10 → digit_of d ≡ 48 + d
unfolding digit_of
shown d h = rw (lt-ltb d 10 h)

-- ---- read back
-- the number that decimal characters spell after the number v
abbrev pub read_after : ℕ → List ℕ → ℕ
read_after v [] = v
read_after v (c ∷ cs) = read_after (v * 10 + (c - 48)) cs

read-digit : (v : ℕ) → v / 10 * 10 + (digit_of (v % 10) - 48) ≡ v
read-digit v = rw (shown (v % 10) (omega arith)) (omega arith)

read_by : (shows : Bool) (p n : ℕ) (rest : List ℕ) → leb p n ≡ shows
    → read_after (n / p / 10) (cond shows (digit_of (n / p % 10) ∷ []) [] ++ rest) ≡ read_after (n / p) rest
read_by true p n rest e = ap (λ (v : ℕ). read_after v rest) (read-digit (n / p))
read_by false p n rest e = rw (div-eq_of_lt (leb-false p n e))

reads-from : (k n : ℕ) → read_after (n / 10 ^ suc k) (digits_from k n) ≡ n
unfolding digits_from digit_at
reads-from zero n = read-digit n
reads-from (suc k) n =
    let p : ℕ = 10 ^ suc k in
    rw (pow-suc 10 (suc k), ← (div-div-eq-div-mul n p 10)) (read_by (leb p n) p n (digits_from k n) refl ∙ reads-from k n)

pub decimal-reads : (n : ℕ) → n < 10 ^ 20 → read_after 0 (decimal_of n) ≡ n
unfolding decimal_of
decimal-reads n h = rw (div-eq_of_lt h) at (reads-from 19 n)

-- ---- no zero leads
first_by : (shows : Bool) (p n : ℕ) (rest : List ℕ) → leb p n ≡ shows → 0 < p → n < 10 * p → (n < p → get_or rest 0 0 ≡ 48 → n ≡ 0)
    → get_or (cond shows (digit_of (n / p % 10) ∷ []) [] ++ rest) 0 0 ≡ 48 → n ≡ 0
first_by true p n rest e pos h below is =
    let some : 1 ≤ n / p = (le-div_iff_mul-le pos).1 (rw one-mul (leb-true p n e)) in
    let ten : n / p < 10 = (div-lt_iff_lt-mul pos).1 h in
    absurd (omega (arith, some, ten, sym (shown (n / p % 10) (omega arith)) ∙ is))
first_by false p n rest e pos h below is = below (leb-false p n e) is

first-from : (k n : ℕ) → n < 10 ^ suc k → get_or (digits_from k n) 0 0 ≡ 48 → n ≡ 0
unfolding digits_from digit_at
first-from zero n h is = omega (arith, h, sym (shown (n % 10) (omega arith)) ∙ is)
first-from (suc k) n h is =
    let p : ℕ = 10 ^ suc k in
    first_by (leb p n) p n (digits_from k n) refl (one-le-pow (suc k) 10 (lit< tt)) (rw (mul_comm 10 p) (rw (pow-suc 10 (suc k)) at h)) (first-from k n) is

pub decimal_first : (n : ℕ) → n < 10 ^ 20 → get_or (decimal_of n) 0 0 ≡ 48 → n ≡ 0
unfolding decimal_of
decimal_first n h is = first-from 19 n h is

-- ---- a small number has few digits
digit-few : (power n : ℕ) → length (digit_at power n) ≤ 1
unfolding digit_at
digit-few power n = go (leb power n)
  where
    go : (b : Bool) → length (cond b (digit_of (n / power % 10) ∷ []) []) ≤ 1
    go true = omega arith
    go false = omega arith

digits_few : (k n : ℕ) → length (digits_from k n) ≤ suc k
unfolding digits_from
digits_few zero n = omega arith
digits_few (suc k) n = rw length-append (omega (arith, digit-few (10 ^ suc k) n, digits_few k n))

digits_short : (m j n : ℕ) → n < 10 ^ suc j → length (digits_from (m + j) n) ≤ suc j
digits_short m j n h = rw (digits_below m j n h) (digits_few j n)

pub decimal_three : (n : ℕ) → n < 1000 → length (decimal_of n) ≤ 3
unfolding decimal_of
decimal_three n h = digits_short 17 2 n h

pub decimal_five : (n : ℕ) → n < 100000 → length (decimal_of n) ≤ 5
unfolding decimal_of
decimal_five n h = digits_short 15 4 n h
