-- Laws of the eight bits of octets, each by itself: how the machine's operations join them, and that bit 0 is SC.
use mathlib.Core.Path.{◌≡◌, refl, sym, ap, ap₂, ◌∙◌}
use mathlib.Core.Bool.{Bool, true, xor}
use mathlib.Core.List.{List, [], ◌∷◌}
use Prim.Native.Nat.{ℕ, zero, suc, ◌+◌, ◌-◌, ◌*◌, ◌/◌, ◌%◌, ◌^◌, ◌<◌}
use native.Mathlib.Nat.{zero-div, div-one, add_comm}
use native.Mathlib.Numerals.{add-one}
use native.Mathlib.Omega.{arith}
use lib.ListN.{length, get_or, length-map, get_or-map}
use lib.Dec.{eqb}
use lib.Pow.{field, high, shr-shr, mod-mod-pow}
use lib.Bits.{bit_xor}
use Rattle.bits.specs.Bits.{odd, sc_bit}
use Rattle.bits.proofs.BitLaws.{bit-xor, odd-above, odd-digit, digit-odd, sc_is}
use Rattle.bits.proofs.BoolLaws.{below}
use Rattle.search.specs.Groups.{EachBit, plane}

-- 255 is an octet of ones
pub all_ones : EachBit 255 (λ k. true)
unfolding odd
all_ones = below 8 (λ k. odd (255 / 2 ^ k)) refl

pub bit-turned : (a k : ℕ) → k < 8 → odd (bit_xor a 255 / 2 ^ k) ≡ xor (odd (a / 2 ^ k)) true
bit-turned a k h = bit-xor a 255 k ∙ ap (xor (odd (a / 2 ^ k))) (all_ones k h)

pub length-plane : (k : ℕ) (part : List ℕ) → length (plane k part) ≡ length part
unfolding plane
length-plane k part = length-map part (λ (x : ℕ). x / 2 ^ k)

pub plane_at : (k : ℕ) (part : List ℕ) (i : ℕ) → get_or (plane k part) i 0 ≡ get_or part i 0 / 2 ^ k
unfolding plane
plane_at k part i =
    ap (get_or (plane k part) i) (sym (zero-div (2 ^ k))) ∙ get_or-map (λ (x : ℕ). x / 2 ^ k) part i 0

plane_0 : (part : List ℕ) → plane 0 part ≡ part
unfolding plane
plane_0 [] = refl
plane_0 (x ∷ xs) = ap₂ ◌∷◌ (div-one x) (plane_0 xs)

-- what is so of each bit is so of SC
pub low_bit : (r : ℕ) (says : List ℕ → Bool) (part : List ℕ) → EachBit r (λ k. says (plane k part)) → odd r ≡ says part
low_bit r says part each = ap odd (sym (div-one r)) ∙ each 0 (omega arith) ∙ ap says (plane_0 part)

-- ---- bits that go up by one, with the SC bit of another octet below them
lowest : (octet : ℕ) → odd (octet % 2) ≡ sc_bit octet
lowest octet = ap odd (sym (digit-odd octet)) ∙ odd-digit (odd octet) ∙ sym (sc_is octet)

pub bit_below : (bits octet : ℕ) → odd (bits % 128 * 2 + octet % 2) ≡ sc_bit octet
bit_below bits octet = odd-above (bits % 128) (octet % 2) ∙ lowest octet

low-kept : (bits k : ℕ) → k < 7 → odd (bits % 128 / 2 ^ k) ≡ odd (bits / 2 ^ k)
unfolding odd
low-kept bits k h =
    let e : 7 ≡ 6 - k + 1 + k = omega arith in
    ap (λ (w : ℕ). odd (bits % 2 ^ w / 2 ^ k)) e
    ∙ ap odd (field bits (6 - k + 1) k)
    ∙ ap (λ (r : ℕ). eqb r 1) (mod-mod-pow (bits / 2 ^ k) (6 - k) 1)

pub bits_above : (bits octet k : ℕ) → k < 7 → odd ((bits % 128 * 2 + octet % 2) / 2 ^ (k + 1)) ≡ odd (bits / 2 ^ k)
bits_above bits octet k h =
    let n = bits % 128 * 2 + octet % 2 in
    let up : n / 2 ^ (k + 1) ≡ bits % 128 / 2 ^ k =
    ap (λ (j : ℕ). n / 2 ^ j) (add_comm k 1) ∙ sym (shr-shr n 1 k) ∙ ap (λ (m : ℕ). m / 2 ^ k) (high (bits % 128) 1 (omega arith)) in
    ap odd up ∙ low-kept bits k h

-- so the bits taken so far stay in their order
pub one_below : (n bits r : ℕ) (says : ℕ → Bool) → n < 8 → odd r ≡ says 0
    → ((k : ℕ) → k < 7 → odd (r / 2 ^ (k + 1)) ≡ odd (bits / 2 ^ k)) → ((k : ℕ) → k < n → odd (bits / 2 ^ k) ≡ says (k + 1))
    → (k : ℕ) → k < n + 1 → odd (r / 2 ^ k) ≡ says k
one_below n bits r says h lowest above before zero w = ap odd (div-one r) ∙ lowest
one_below n bits r says h lowest above before (suc k) w =
    ap (λ (j : ℕ). odd (r / 2 ^ j)) (sym (add-one k)) ∙ above k (omega arith) ∙ before k (omega arith) ∙ ap says (add-one k)

-- ---- bits that go down by one, with the SC bit of another octet above them
pub bit-above : (bits octet : ℕ) → bits < 256 → odd ((bits / 2 + octet % 2 * 128) / 2 ^ 7) ≡ sc_bit octet
bit-above bits octet h =
    let up : (bits / 2 + octet % 2 * 128) / 128 ≡ octet % 2 = omega arith in
    ap odd up ∙ lowest octet

pub bits_below : (bits octet k : ℕ) → bits < 256 → k < 7 → odd ((bits / 2 + octet % 2 * 128) / 2 ^ k) ≡ odd (bits / 2 ^ (k + 1))
bits_below bits octet k h w =
    let n = bits / 2 + octet % 2 * 128 in
    let down : n % 128 ≡ bits / 2 = omega arith in
    sym (low-kept n k w) ∙ ap (λ (m : ℕ). odd (m / 2 ^ k)) down
    ∙ ap odd (shr-shr bits 1 k) ∙ ap (λ (j : ℕ). odd (bits / 2 ^ j)) (add_comm 1 k)
