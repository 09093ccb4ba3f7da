-- Laws of decimal digits, from a power of ten to the one below it.
use borrow.Author.Tests.{lt-leb}
use mathlib.Core.Path.{◌≡◌, refl}
use mathlib.Core.List.{[], ◌∷◌, ◌++◌}
use Prim.Native.Nat.{ℕ, zero, suc, ◌+◌, ◌-◌, ◌/◌, ◌%◌, ◌^◌, ◌≤◌, ◌<◌}
use native.Mathlib.Nat.{pow-suc, mul-div_cancel, suc-sub-suc, sub-zero, zero-add, suc-add, pow-le-pow_right}
use native.Mathlib.Omega.{arith}
use lib.Dec.{lit<}
use Rattle.digits.specs.Digits.{digit_of, digit_at, digits_from}

pub digits_last : (n : ℕ) → digits_from 0 n ≡ digit_of (n % 10) ∷ []
unfolding digits_from
digits_last n = refl

pub digits_more : (k n : ℕ) → 0 < k → digits_from k n ≡ digit_at (10 ^ k) n ++ digits_from (k - 1) n
unfolding digits_from
digits_more zero n h = absurd (omega arith)
digits_more (suc k) n h = rw (suc-sub-suc k 0, sub-zero k)

pub power_below : (k : ℕ) → 0 < k → 10 ^ k / 10 ≡ 10 ^ (k - 1)
power_below zero h = absurd (omega arith)
power_below (suc k) h = rw (suc-sub-suc k 0, sub-zero k, pow-suc 10 k) (mul-div_cancel (10 ^ k) (lit< tt))

-- the powers above a number show nothing
none_above : (power n : ℕ) → n < power → digit_at power n ≡ []
unfolding digit_at
none_above power n h = rw (lt-leb power n h)

pub digits_below : (m j n : ℕ) → n < 10 ^ suc j → digits_from (m + j) n ≡ digits_from j n
unfolding digits_from
digits_below zero j n h = rw (zero-add j)
digits_below (suc m) j n h =
    let below : 10 ^ suc j ≤ 10 ^ suc (m + j) = pow-le-pow_right (lit< tt) (omega arith) in
    rw (suc-add m j, none_above (10 ^ suc (m + j)) n (omega (arith, h, below))) (digits_below m j n h)
