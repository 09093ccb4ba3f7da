-- Laws of lanes: & with ones at the low bits of each lane, and each two neighbours made one lane, in all lanes at once.
use mathlib.Core.Path.{◌≡◌, refl, sym, ap, ap₂, ◌∙◌}
use mathlib.Core.List.{List}
use Prim.Native.Nat.{ℕ, zero, suc, ◌+◌, ◌-◌, ◌*◌, ◌/◌, ◌%◌, ◌^◌, ◌≤◌, ◌<◌}
use native.Mathlib.Nat.{mod-lt, mod-eq_of_lt, add-le-add, mul-le-mul_right, add-mul, add_assoc, add_left_comm, add_comm, mul_assoc, mul_right_comm, mul-add, mul-one, lt_of_lt_of_le, zero-mul, zero-add}
use native.Mathlib.Numerals.{add-one}
use native.Mathlib.Omega.{arith}
use lib.Arith.{digits_lt}
use lib.Pow.{pow_pos, pow_mono, pow-add, split, shr-shr, high, low, field, mod-mod-pow, ones_lt, ones_split}
use lib.Bits.{bit_and, and_block, and_mask, and_le_r}
use lib.ListN.{get_or, take, drop}
use Rattle.bits.specs.Bits.{octet_bits, number, number_at}
use Rattle.bits.proofs.BitLaws.{number-low_bits}
use Rattle.bits.proofs.RunLaws.{run_value, length-octet}
use Rattle.packing.specs.Lanes.{picked, units}
use Rattle.packing.specs.Filled.{runs}
use Rattle.packing.proofs.RunsLaws.{number-runs}

-- of fewer low bits nothing is lost by a cut at w
mod-within : (w n x : ℕ) → n ≤ w → x % 2 ^ w % 2 ^ n ≡ x % 2 ^ n
mod-within w n x h =
    let e : w - n + n ≡ w = omega arith in
    ap (λ (j : ℕ). x % 2 ^ j % 2 ^ n) (sym e) ∙ mod-mod-pow x (w - n) n

-- shifts in either order
shifts : (x a b : ℕ) → x / 2 ^ a / 2 ^ b ≡ x / 2 ^ b / 2 ^ a
shifts x a b = shr-shr x a b ∙ ap (λ (j : ℕ). x / 2 ^ j) (add_comm a b) ∙ sym (shr-shr x b a)

-- ---- the lowest lane, and the others
and-lane : (w n x m : ℕ) → n ≤ w → bit_and x (m * 2 ^ w + (2 ^ n - 1)) ≡ bit_and (x / 2 ^ w) m * 2 ^ w + x % 2 ^ n
and-lane w n x m h =
    ap (λ (y : ℕ). bit_and y (m * 2 ^ w + (2 ^ n - 1))) (sym (split x w))
    ∙ and_block w (x / 2 ^ w) m (x % 2 ^ w) (2 ^ n - 1) (mod-lt x (pow_pos w)) (lt_of_lt_of_le (ones_lt n) (pow_mono h))
    ∙ ap (λ (y : ℕ). bit_and (x / 2 ^ w) m * 2 ^ w + y) (and_mask (x % 2 ^ w) n ∙ mod-within w n x h)

-- what the machine makes of x: the second of each two neighbours goes before the first
abbrev pub join : ℕ → ℕ → ℕ → ℕ → ℕ
join w n m x = bit_and (x / 2 ^ w) m * 2 ^ n + bit_and x m

regroup : (a b p q u v : ℕ) → (a * p + u) * q + (b * p + v) ≡ (a * q + b) * p + (u * q + v)
regroup a b p q u v =
    rw (add-mul (a * p) u q, add-mul (a * q) b p, mul_right_comm a p q, add_assoc (a * q * p) (u * q) (b * p + v), add_assoc (a * q * p) (b * p) (u * q + v), add_left_comm (u * q) (b * p) v)

join-lane : (w n x m : ℕ) → n ≤ w
    → join w n (m * 2 ^ (w + w) + (2 ^ n - 1)) x ≡ join w n m (x / 2 ^ (w + w)) * 2 ^ (w + w) + (x / 2 ^ w % 2 ^ n * 2 ^ n + x % 2 ^ n)
join-lane w n x m h =
    rw (and-lane (w + w) n (x / 2 ^ w) m (omega arith), and-lane (w + w) n x m (omega arith), shifts x w (w + w))
    (regroup (bit_and (x / 2 ^ (w + w) / 2 ^ w) m) (bit_and (x / 2 ^ (w + w)) m) (2 ^ (w + w)) (2 ^ n) (x / 2 ^ w % 2 ^ n) (x % 2 ^ n))

two_lt : (n a b : ℕ) → a < 2 ^ n → b < 2 ^ n → a * 2 ^ n + b < 2 ^ (n + n)
two_lt n a b ha hb = rw (pow-add 2 n n) (digits_lt ha hb)

picked_two : (w n k x : ℕ)
    → picked w n (suc (suc k)) x ≡ picked w n k (x / 2 ^ (w + w)) * 2 ^ (n + n) + (x / 2 ^ w % 2 ^ n * 2 ^ n + x % 2 ^ n)
unfolding picked
picked_two w n k x =
    let a : ℕ = picked w n k (x / 2 ^ (w + w)) in
    let b : ℕ = x / 2 ^ w % 2 ^ n in
    ap (λ (y : ℕ). (picked w n k y * 2 ^ n + b) * 2 ^ n + x % 2 ^ n) (shr-shr x w w)
    ∙ rw (add-mul (a * 2 ^ n) b (2 ^ n), mul_assoc a (2 ^ n) (2 ^ n), ← (pow-add 2 n n), add_assoc (a * 2 ^ (n + n)) (b * 2 ^ n) (x % 2 ^ n))

-- so the bits that are picked out of half as many lanes, twice as wide, are the same
pub join-picked : (w n k x : ℕ) → n ≤ w → picked (w + w) (n + n) k (join w n ((2 ^ n - 1) * units (w + w) k) x) ≡ picked w n (k + k) x
unfolding picked units
join-picked w n zero x h = refl
join-picked w n (suc k) x h =
    let two : ℕ = x / 2 ^ w % 2 ^ n * 2 ^ n + x % 2 ^ n in
    let rest : ℕ = join w n ((2 ^ n - 1) * units (w + w) k) (x / 2 ^ (w + w)) in
    let fits : two < 2 ^ (n + n) = two_lt n (x / 2 ^ w % 2 ^ n) (x % 2 ^ n) (mod-lt (x / 2 ^ w) (pow_pos n)) (mod-lt x (pow_pos n)) in
    let wide : two < 2 ^ (w + w) = lt_of_lt_of_le fits (pow_mono (omega arith)) in
    let above : (rest * 2 ^ (w + w) + two) / 2 ^ (w + w) ≡ rest = high rest (w + w) wide in
    let below : (rest * 2 ^ (w + w) + two) % 2 ^ (n + n) ≡ two =
    sym (mod-within (w + w) (n + n) (rest * 2 ^ (w + w) + two) (omega arith)) ∙ ap (λ (y : ℕ). y % 2 ^ (n + n)) (low rest (w + w) wide) ∙ mod-eq_of_lt fits in
    let twice : suc (suc (k + k)) ≡ suc k + suc k = omega arith in
    let mask : (2 ^ n - 1) * (units (w + w) k * 2 ^ (w + w) + 1) ≡ (2 ^ n - 1) * units (w + w) k * 2 ^ (w + w) + (2 ^ n - 1) =
    rw (mul-add (2 ^ n - 1) (units (w + w) k * 2 ^ (w + w)) 1, mul-one, mul_assoc (2 ^ n - 1) (units (w + w) k) (2 ^ (w + w))) in
    ap (λ (y : ℕ). picked (w + w) (n + n) k (y / 2 ^ (w + w)) * 2 ^ (n + n) + y % 2 ^ (n + n))
    (ap (λ (m : ℕ). join w n m x) mask ∙ join-lane w n x ((2 ^ n - 1) * units (w + w) k) h)
    ∙ ap₂ (λ (a b : ℕ). picked (w + w) (n + n) k a * 2 ^ (n + n) + b) above below
    ∙ ap (λ (y : ℕ). y * 2 ^ (n + n) + two) (join-picked w n k (x / 2 ^ (w + w)) h)
    ∙ sym (picked_two w n (k + k) x)
    ∙ ap (λ (j : ℕ). picked w n j x) twice

-- what comes out is no greater than where all bits that count are ones
pub all_ones : (n u : ℕ) → (2 ^ n - 1) * u * 2 ^ n + (2 ^ n - 1) * u ≡ (2 ^ (n + n) - 1) * u
all_ones n u =
    ap (λ (y : ℕ). y + (2 ^ n - 1) * u) (mul_right_comm (2 ^ n - 1) u (2 ^ n))
    ∙ sym (add-mul ((2 ^ n - 1) * 2 ^ n) (2 ^ n - 1) u) ∙ ap (λ (y : ℕ). y * u) (sym (ones_split n n))

pub join-le : (w n u x : ℕ) → join w n ((2 ^ n - 1) * u) x ≤ (2 ^ (n + n) - 1) * u
join-le w n u x =
    let m : ℕ = (2 ^ n - 1) * u in
    rw (← (all_ones n u)) (add-le-add (mul-le-mul_right (2 ^ n) (and_le_r (x / 2 ^ w) m)) (and_le_r x m))

-- one lane that has no more bits than are picked
pub picked_one : (w n x : ℕ) → x < 2 ^ n → picked w n 1 x ≡ x
unfolding picked
picked_one w n x h = rw (mod-eq_of_lt h, zero-mul, zero-add)

-- ---- eight octets as one number
-- n bits that end e bits before the end of an octet are not touched by what stands above it
within-octet : (e n x : ℕ) → n + e ≤ 8 → x / 2 ^ e % 2 ^ n ≡ x % 256 / 2 ^ e % 2 ^ n
within-octet e n x h =
    sym (field x n e)
    ∙ ap (λ (y : ℕ). y / 2 ^ e) (sym (mod-within 8 (n + e) x h))
    ∙ field (x % 256) n e

-- what is picked out of the octets' number is the number of their runs
pub picked-runs : (s n : ℕ) (line : List ℕ) (o k : ℕ) → s + n ≤ 8 → picked 8 n k (number_at line o k / 2 ^ (8 - (s + n))) ≡ number (runs s n line o k)
unfolding picked number_at runs number
picked-runs s n line o zero h = refl
picked-runs s n line o (suc k) h =
    let e : ℕ = 8 - (s + n) in
    let y : ℕ = get_or line (o + k) 0 in
    let all : ℕ = number_at line o k * 256 + y % 256 in
    let octet : y % 256 < 2 ^ 8 = mod-lt y (pow_pos 8) in
    let above : all / 2 ^ e / 2 ^ 8 ≡ number_at line o k / 2 ^ e = shifts all e 8 ∙ ap (λ (z : ℕ). z / 2 ^ e) (high (number_at line o k) 8 octet) in
    let here : all / 2 ^ e % 2 ^ n ≡ y % 256 / 2 ^ e % 2 ^ n =
    within-octet e n all (omega arith) ∙ ap (λ (z : ℕ). z / 2 ^ e % 2 ^ n) (low (number_at line o k) 8 octet) in
    let run : number (take n (drop s (octet_bits y))) ≡ y % 256 / 2 ^ e % 2 ^ n =
    rw (length-octet y, number-low_bits 8 y) at (run_value s n (octet_bits y) (rw length-octet h)) in
    ap₂ (λ (a b : ℕ). picked 8 n k a * 2 ^ n + b) above (here ∙ sym run)
    ∙ ap (λ (a : ℕ). a * 2 ^ n + number (take n (drop s (octet_bits y)))) (picked-runs s n line o k h)
    ∙ sym (number-runs s n line o k h)
    ∙ ap (λ (j : ℕ). number (runs s n line o j)) (add-one k)
