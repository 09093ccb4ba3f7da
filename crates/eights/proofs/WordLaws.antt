-- Eight octets as one number: what it is to add and to multiply it, how an octet is had from it, and fields of a stream in eight octets.
use mathlib.Core.Path.{◌≡◌, ap, ◌∙◌}
use mathlib.Core.Bool.{Bool}
use mathlib.Core.List.{List}
use Prim.Native.Nat.{ℕ, zero, suc, ◌+◌, ◌-◌, ◌*◌, ◌/◌, ◌%◌, ◌^◌, ◌≤◌, ◌<◌}
use native.Mathlib.Nat.{zero-mul, zero-add, add-mul, mul_assoc, mul_comm, lt_of_lt_of_le}
use native.Mathlib.Omega.{arith}
use lib.Arith.{digits_lt}
use lib.Dec.{lit<}
use lib.Pow.{pow-add, pow_mono}
use Rattle.bits.specs.Bits.{number, nexts}
use Rattle.eights.specs.Eight.{eights, field_of, spread_by, fields_of, raised_by}
use Rattle.eights.proofs.EightLaws.{field_nexts, field_lt, field_small}

-- ---- eight octets as one number
more : (x y u : ℕ) → (x * 256 + y) * u ≡ x * u * 256 + y * u
more x y u = rw (add-mul (x * 256) y u, mul_assoc x 256 u, mul_comm 256 u, ← mul_assoc x u 256)

eights_times : (f : ℕ → ℕ) (u : ℕ) → eights f * u ≡ eights (λ k. f k * u)
unfolding eights
eights_times f u =
    let two : ℕ = f 0 * 256 + f 1 in
    let three : ℕ = two * 256 + f 2 in
    let four : ℕ = three * 256 + f 3 in
    let five : ℕ = four * 256 + f 4 in
    let six : ℕ = five * 256 + f 5 in
    let seven : ℕ = six * 256 + f 6 in
    rw (more seven (f 7) u, more six (f 6) u, more five (f 5) u, more four (f 4) u, more three (f 3) u, more two (f 2) u, more (f 0) (f 1) u)

pub eights_plus : (f g : ℕ → ℕ) → eights f + eights g ≡ eights (λ k. f k + g k)
unfolding eights
eights_plus f g = omega arith

pub eights_same : (x : ℕ) → x * 72340172838076673 ≡ eights (λ k. x)
unfolding eights
eights_same x = omega arith

pub eights_each : (f g : ℕ → ℕ) → ((k : ℕ) → k < 8 → f k ≡ g k) → eights f ≡ eights g
unfolding eights
eights_each f g h =
    rw (h 0 (lit< tt), h 1 (lit< tt), h 2 (lit< tt), h 3 (lit< tt), h 4 (lit< tt), h 5 (lit< tt), h 6 (lit< tt), h 7 (lit< tt))

pub eights-lt : (f : ℕ → ℕ) → ((k : ℕ) → f k < 256) → eights f < 2 ^ 64
unfolding eights
eights-lt f h = omega (arith, h 0, h 1, h 2, h 3, h 4, h 5, h 6, h 7)

pub octet-of : (f : ℕ → ℕ) → ((k : ℕ) → f k < 256) → (k : ℕ) → k < 8 → eights f / 2 ^ (8 * (7 - k)) % 256 ≡ f k
unfolding eights
octet-of f h zero l = omega (arith, h 0, h 1, h 2, h 3, h 4, h 5, h 6, h 7)
octet-of f h (suc zero) l = omega (arith, h 0, h 1, h 2, h 3, h 4, h 5, h 6, h 7)
octet-of f h (suc (suc zero)) l = omega (arith, h 0, h 1, h 2, h 3, h 4, h 5, h 6, h 7)
octet-of f h (suc (suc (suc zero))) l = omega (arith, h 0, h 1, h 2, h 3, h 4, h 5, h 6, h 7)
octet-of f h (suc (suc (suc (suc zero)))) l = omega (arith, h 0, h 1, h 2, h 3, h 4, h 5, h 6, h 7)
octet-of f h (suc (suc (suc (suc (suc zero))))) l = omega (arith, h 0, h 1, h 2, h 3, h 4, h 5, h 6, h 7)
octet-of f h (suc (suc (suc (suc (suc (suc zero)))))) l = omega (arith, h 0, h 1, h 2, h 3, h 4, h 5, h 6, h 7)
octet-of f h (suc (suc (suc (suc (suc (suc (suc zero))))))) l = omega (arith, h 0, h 1, h 2, h 3, h 4, h 5, h 6, h 7)
octet-of f h (suc (suc (suc (suc (suc (suc (suc (suc k)))))))) l = absurd (omega arith)

-- the first n of the eight
abbrev pub firsts : (ℕ → ℕ) → ℕ → ℕ
firsts f zero = 0
firsts f (suc n) = firsts f n * 256 + f n

pub firsts_all : (f : ℕ → ℕ) → firsts f 8 ≡ eights f
unfolding eights
firsts_all f = omega arith

-- ---- fields of n bits each of a stream in eight octets, and the same moved `up` bits up with `below` under each
pub lane_is : (n : ℕ) (l : List Bool) → eights (field_of (number (nexts (8 * n) l)) n) ≡ eights (fields_of n l)
unfolding fields_of
lane_is n l = eights_each (field_of (number (nexts (8 * n) l)) n) (fields_of n l) (λ k h. field_nexts n k l h)

-- the fields of a number, moved up, and what is below them added
pub spread-up : (n up below x : ℕ) → eights (field_of x n) * 2 ^ up + eights (λ k. below) ≡ spread_by n up below x
unfolding spread_by
spread-up n up below x =
    ap (λ (y : ℕ). y + eights (λ k. below)) (eights_times (field_of x n) (2 ^ up)) ∙ eights_plus (λ k. field_of x n k * 2 ^ up) (λ k. below)

-- of the number that a stream begins with they are the fields of the stream
pub spread-nexts : (n up below : ℕ) (l : List Bool) → spread_by n up below (number (nexts (8 * n) l)) ≡ raised_by n up below l
unfolding spread_by raised_by fields_of
spread-nexts n up below l =
    eights_each (λ j. field_of (number (nexts (8 * n) l)) n j * 2 ^ up + below) (λ j. fields_of n l j * 2 ^ up + below)
    (λ k h. ap (λ (x : ℕ). x * 2 ^ up + below) (field_nexts n k l h))

pub raised_none : (n up below : ℕ) (l : List Bool) → n ≡ 0 → eights (λ k. below) ≡ raised_by n up below l
unfolding raised_by fields_of nexts number
raised_none n up below l z = eights_each (λ k. below) (λ j. fields_of n l j * 2 ^ up + below) each
  where
    each : (j : ℕ) → j < 8 → below ≡ fields_of n l j * 2 ^ up + below
    each j h = rw (z, zero-mul, zero-add)

pub below-small : (up below : ℕ) → up ≤ 8 → below < 2 ^ up → below < 256
below-small up below h hb = lt_of_lt_of_le hb (pow_mono {i = up} {j = 8} h)

pub spread-lt : (n up below x : ℕ) → n + up ≤ 8 → below < 2 ^ up → spread_by n up below x < 2 ^ 64
unfolding spread_by
spread-lt n up below x h hb = eights-lt (λ j. field_of x n j * 2 ^ up + below) each
  where
    each : (j : ℕ) → field_of x n j * 2 ^ up + below < 256
    each j =
        let all : 2 ^ n * 2 ^ up ≤ 2 ^ 8 = rw (← pow-add 2 n up) (pow_mono {i = n + up} {j = 8} h) in
        lt_of_lt_of_le (digits_lt (field_lt x n j) hb) all

pub fields_lt : (x n : ℕ) → n ≤ 8 → eights (field_of x n) < 2 ^ 64
fields_lt x n h = eights-lt (field_of x n) (λ k. field_small x n k h)
