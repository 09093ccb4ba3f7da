-- How a number is shown, as ASCII.
use Rattle.std.specs.Prelude.{cond, List, [], ◌∷◌, ◌++◌, ℕ, zero, suc, ◌+◌, ◌/◌, ◌%◌, ◌^◌, leb, ltb}

-- a digit's character: 0 to 9, then capital A to F
unfoldable pub digit_of : ℕ → ℕ
digit_of d = cond (ltb d 10) (48 + d) (55 + d)

-- an octet as two hex digits
unfoldable pub hex_of : ℕ → List ℕ
hex_of x = digit_of (x / 16) ∷ digit_of (x % 16) ∷ []

-- the decimal digit that counts a power of ten; a power larger than the number has none, so no zero leads
unfoldable pub digit_at : ℕ → ℕ → List ℕ
digit_at power n = cond (leb power n) (digit_of (n / power % 10) ∷ []) []

-- the decimal digits from that of 10 ^ k on; the last one always stands
unfoldable pub digits_from : ℕ → ℕ → List ℕ
digits_from zero n = digit_of (n % 10) ∷ []
digits_from (suc k) n = digit_at (10 ^ suc k) n ++ digits_from k n

-- a number in decimal: every usize is below 10 ^ 20
unfoldable pub decimal_of : ℕ → List ℕ
decimal_of n = digits_from 19 n
