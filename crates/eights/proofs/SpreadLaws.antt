-- A number's eight fields, spread over eight octets in three steps that part all lanes of a number at once.
use mathlib.Core.Path.{◌≡◌, ap, sym, ◌∙◌}
use Prim.Native.Nat.{ℕ, ◌+◌, ◌-◌, ◌*◌, ◌/◌, ◌%◌, ◌^◌, ◌≤◌, ◌<◌}
use native.Mathlib.Nat.{add-mul, mul_assoc, mul_comm, mod-lt, div-one, lt_of_lt_of_le}
use native.Mathlib.Omega.{arith}
use lib.Bits.{bit_and, and_block, and_mask, and_le_l}
use lib.Pow.{pow-add, pow_mono, pow_pos, split, shr-shr, shr_lt, shr_mod, mod-mod-pow}
use lib.Pow as P
use Rattle.eights.specs.Eight.{eights, parted_by, field_of}

-- ---- a lane parted in two, its m low bits and the rest s bits apart; and lanes parted side by side
abbrev lane : ℕ → ℕ → ℕ → ℕ
lane s m y = y / 2 ^ m * 2 ^ s + y % 2 ^ m

lane-parted : (s m y : ℕ) → m ≤ s → parted_by y (2 ^ m - 1) (s - m) ≡ lane s m y
unfolding parted_by
lane-parted s m y h =
    let rest : y - y % 2 ^ m ≡ y / 2 ^ m * 2 ^ m = omega (arith, split y m) in
    let all : m + (s - m) ≡ s = omega arith in
    rw (and_mask y m, rest, mul_assoc (y / 2 ^ m) (2 ^ m) (2 ^ (s - m)), ← pow-add 2 m (s - m), all)

-- of two lanes the parts that stay are p and q, the parts that move a and b
side_by_side : (a p b q k u : ℕ) → ((a + p) * k + (b + q) - (p * k + q)) * u + (p * k + q) ≡ (a * u + p) * k + (b * u + q)
side_by_side a p b q k u =
    let rest : (a + p) * k + (b + q) - (p * k + q) ≡ a * k + b = omega (arith, add-mul a p k) in
    let turned : a * k * u ≡ a * u * k = rw (mul_assoc a k u, mul_comm k u, ← mul_assoc a u k) in
    rw (rest, add-mul (a * k) b u, turned, add-mul (a * u) p k) (omega arith)

lanes_parted : (k a b m n up : ℕ) → b < 2 ^ k → n < 2 ^ k
    → parted_by (a * 2 ^ k + b) (m * 2 ^ k + n) up ≡ parted_by a m up * 2 ^ k + parted_by b n up
unfolding parted_by
lanes_parted k a b m n up hb hn =
    let p : ℕ = bit_and a m in
    let q : ℕ = bit_and b n in
    let ea : a - p + p ≡ a = omega (arith, and_le_l a m) in
    let eb : b - q + q ≡ b = omega (arith, and_le_l b n) in
    rw (and_block k a m b n hb hn) (rw (ea, eb) at (side_by_side (a - p) p (b - q) q (2 ^ k) (2 ^ up)))

-- ---- the fields of a number, as its halves' halves' halves
field_0 : (x n : ℕ) → x < 2 ^ (8 * n) → x / 2 ^ (4 * n) / 2 ^ (2 * n) / 2 ^ n ≡ field_of x n 0
unfolding field_of
field_0 x n h =
    let e : 4 * n + 2 * n + n ≡ 7 * n = omega arith in
    let whole : 8 * n ≡ n + 7 * n = omega arith in
    rw (shr-shr x (4 * n) (2 * n), shr-shr x (4 * n + 2 * n) n, e) (sym (shr_mod n (7 * n) (rw whole at h)))

field_1 : (x n : ℕ) → x / 2 ^ (4 * n) / 2 ^ (2 * n) % 2 ^ n ≡ field_of x n 1
unfolding field_of
field_1 x n = let e : 4 * n + 2 * n ≡ 6 * n = omega arith in rw (shr-shr x (4 * n) (2 * n), e)

-- the two fields of 2 * n bits
upper : (y n : ℕ) → y % 2 ^ (2 * n) / 2 ^ n ≡ y / 2 ^ n % 2 ^ n
upper y n = let e : 2 * n ≡ n + n = omega arith in rw e (P.field y n n)

lower : (y n : ℕ) → y % 2 ^ (2 * n) % 2 ^ n ≡ y % 2 ^ n
lower y n = let e : 2 * n ≡ n + n = omega arith in rw e (mod-mod-pow y n n)

field_2 : (x n : ℕ) → x / 2 ^ (4 * n) % 2 ^ (2 * n) / 2 ^ n ≡ field_of x n 2
unfolding field_of
field_2 x n = let e : 4 * n + n ≡ 5 * n = omega arith in rw (upper (x / 2 ^ (4 * n)) n, shr-shr x (4 * n) n, e)

field_3 : (x n : ℕ) → x / 2 ^ (4 * n) % 2 ^ (2 * n) % 2 ^ n ≡ field_of x n 3
unfolding field_of
field_3 x n = lower (x / 2 ^ (4 * n)) n

field_4 : (x n : ℕ) → x % 2 ^ (4 * n) / 2 ^ (2 * n) / 2 ^ n ≡ field_of x n 4
unfolding field_of
field_4 x n =
    let e : 2 * n + n ≡ 3 * n = omega arith in
    let whole : 4 * n ≡ n + 3 * n = omega arith in
    rw (shr-shr (x % 2 ^ (4 * n)) (2 * n) n, e, whole) (P.field x n (3 * n))

field_5 : (x n : ℕ) → x % 2 ^ (4 * n) / 2 ^ (2 * n) % 2 ^ n ≡ field_of x n 5
unfolding field_of
field_5 x n =
    let whole : 4 * n ≡ 2 * n + 2 * n = omega arith in
    rw (whole, P.field x (2 * n) (2 * n)) (lower (x / 2 ^ (2 * n)) n)

field_6 : (x n : ℕ) → x % 2 ^ (4 * n) % 2 ^ (2 * n) / 2 ^ n ≡ field_of x n 6
unfolding field_of
field_6 x n =
    let whole : 4 * n ≡ 2 * n + 2 * n = omega arith in
    let e : n ≡ 1 * n = omega arith in
    rw (whole, mod-mod-pow x (2 * n) (2 * n), upper x n) (ap (λ (j : ℕ). x / 2 ^ j % 2 ^ n) e)

field_7 : (x n : ℕ) → x % 2 ^ (4 * n) % 2 ^ (2 * n) % 2 ^ n ≡ field_of x n 7
unfolding field_of
field_7 x n =
    let whole : 4 * n ≡ 2 * n + 2 * n = omega arith in
    let e : 0 * n ≡ 0 = omega arith in
    rw (whole, mod-mod-pow x (2 * n) (2 * n), lower x n, e, div-one x)

-- ---- the three steps
pub two_of : ℕ → ℕ → ℕ
two_of x n = lane 32 (4 * n) x

pub four_of : ℕ → ℕ → ℕ
four_of x n = lane 16 (2 * n) (x / 2 ^ (4 * n)) * 2 ^ 32 + lane 16 (2 * n) (x % 2 ^ (4 * n))

-- the halves and the quarters are no longer than they have room
left_lt : (x n : ℕ) → x < 2 ^ (8 * n) → x / 2 ^ (4 * n) < 2 ^ (4 * n)
left_lt x n h = let e : 8 * n ≡ 4 * n + 4 * n = omega arith in shr_lt {n = x} (4 * n) (4 * n) (rw e at h)

right_lt : (x n : ℕ) → x % 2 ^ (4 * n) < 2 ^ (4 * n)
right_lt x n = mod-lt x (pow_pos (4 * n))

half_le : (n : ℕ) → n ≤ 8 → 2 ^ (4 * n) ≤ 2 ^ 32
half_le n h = pow_mono {i = 4 * n} {j = 32} (omega arith)

quarter_le : (n : ℕ) → n ≤ 8 → 2 ^ (2 * n) ≤ 2 ^ 16
quarter_le n h = pow_mono {i = 2 * n} {j = 16} (omega arith)

upper_lt : (y n : ℕ) → n ≤ 8 → y < 2 ^ (4 * n) → y / 2 ^ (2 * n) < 2 ^ 16
upper_lt y n hn h =
    let e : 4 * n ≡ 2 * n + 2 * n = omega arith in
    lt_of_lt_of_le (shr_lt {n = y} (2 * n) (2 * n) (rw e at h)) (quarter_le n hn)

lower-lt : (y n : ℕ) → n ≤ 8 → y % 2 ^ (2 * n) < 2 ^ 16
lower-lt y n hn = lt_of_lt_of_le (mod-lt y (pow_pos (2 * n))) (quarter_le n hn)

lane-lt : (y n : ℕ) → n ≤ 8 → y < 2 ^ (4 * n) → lane 16 (2 * n) y < 2 ^ 32
lane-lt y n hn h = omega (arith, upper_lt y n hn h, lower-lt y n hn)

pub two_lt : (x n : ℕ) → n ≤ 8 → x < 2 ^ (8 * n) → two_of x n < 2 ^ 64
unfolding two_of
two_lt x n hn h = omega (arith, left_lt x n h, right_lt x n, half_le n hn)

pub four_lt : (x n : ℕ) → n ≤ 8 → x < 2 ^ (8 * n) → four_of x n < 2 ^ 64
unfolding four_of
four_lt x n hn h = omega (arith, lane-lt (x / 2 ^ (4 * n)) n hn (left_lt x n h), lane-lt (x % 2 ^ (4 * n)) n hn (right_lt x n))

pub two_is : (x n : ℕ) → n ≤ 8 → parted_by x (2 ^ (4 * n) - 1) (32 - 4 * n) ≡ two_of x n
unfolding two_of
two_is x n hn = lane-parted 32 (4 * n) x (omega arith)

pub four_is : (x n : ℕ) → n ≤ 8 → parted_by (two_of x n) ((2 ^ (2 * n) - 1) * 4294967297) (16 - 2 * n) ≡ four_of x n
unfolding two_of four_of
four_is x n hn =
    let a : ℕ = x / 2 ^ (4 * n) in
    let b : ℕ = x % 2 ^ (4 * n) in
    let m : ℕ = 2 ^ (2 * n) - 1 in
    let mask : m * 4294967297 ≡ m * 2 ^ 32 + m = omega arith in
    rw (mask, lanes_parted 32 a b m m (16 - 2 * n) (omega (arith, right_lt x n, half_le n hn)) (omega (arith, quarter_le n hn)), lane-parted 16 (2 * n) a (omega arith), lane-parted 16 (2 * n) b (omega arith))

-- four lanes at once
quarters : (a b c d n : ℕ) → n ≤ 8 → b < 2 ^ 16 → c < 2 ^ 16 → d < 2 ^ 16
    → parted_by ((a * 2 ^ 16 + b) * 2 ^ 32 + (c * 2 ^ 16 + d)) ((2 ^ n - 1) * 281479271743489) (8 - n)
    ≡ (lane 8 n a * 2 ^ 16 + lane 8 n b) * 2 ^ 32 + (lane 8 n c * 2 ^ 16 + lane 8 n d)
quarters a b c d n hn hb hc hd =
    let m : ℕ = 2 ^ n - 1 in
    let small : 2 ^ n ≤ 2 ^ 8 = pow_mono {i = n} {j = 8} hn in
    let mask : m * 281479271743489 ≡ (m * 2 ^ 16 + m) * 2 ^ 32 + (m * 2 ^ 16 + m) = omega arith in
    let hm : m < 2 ^ 16 = omega (arith, small) in
    rw (mask, lanes_parted 32 (a * 2 ^ 16 + b) (c * 2 ^ 16 + d) (m * 2 ^ 16 + m) (m * 2 ^ 16 + m) (8 - n) (omega arith) (omega (arith, hm)), lanes_parted 16 a b m m (8 - n) hb hm, lanes_parted 16 c d m m (8 - n) hd hm, lane-parted 8 n a hn, lane-parted 8 n b hn, lane-parted 8 n c hn, lane-parted 8 n d hn)

pub eight_is : (x n : ℕ) → n ≤ 8 → x < 2 ^ (8 * n) → parted_by (four_of x n) ((2 ^ n - 1) * 281479271743489) (8 - n) ≡ eights (field_of x n)
unfolding four_of eights
eight_is x n hn h =
    let a : ℕ = x / 2 ^ (4 * n) in
    let b : ℕ = x % 2 ^ (4 * n) in
    quarters (a / 2 ^ (2 * n)) (a % 2 ^ (2 * n)) (b / 2 ^ (2 * n)) (b % 2 ^ (2 * n)) n hn (lower-lt a n hn) (upper_lt b n hn (right_lt x n)) (lower-lt b n hn)
    ∙ rw (field_0 x n h, field_1 x n, field_2 x n, field_3 x n, field_4 x n, field_5 x n, field_6 x n, field_7 x n) (omega arith)
