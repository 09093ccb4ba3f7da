-- Laws of BAS words: the word as a number, sums of words, distances, and that two codes' words differ in at least five bits.
use mathlib.Core.Path.{◌≡◌, refl, sym, ap, ap₂, ◌∙◌, subst}
use mathlib.Core.Bool.{Bool, true, false, xor, ◌||◌}
use mathlib.Core.List.{List, [], ◌∷◌, ◌++◌}
use mathlib.Core.Logic.{◌≢◌}
use Prim.Native.Nat.{ℕ, ◌+◌, ◌*◌, ◌^◌, ◌≤◌, ◌<◌}
use native.Mathlib.Omega.{arith}
use lib.Dec.{leb, eqb, lit<}
use borrow.Author.Tests.{leb-true, eqb-true}
use lib.ListN.{length, length-append}
use lib.Bits.{bit_xor, xor_lt}
use Rattle.bits.specs.Bits.{odd, low_bits, octet_bits, digit, number, zeros, xors}
use Rattle.bits.specs.Remainder.{scaled, fed, continued, remainder, Leaves}
use Rattle.bits.proofs.BitLaws.{xors_comm, xors_assoc, xors-zeros, xors_cancel, xors-append, length-low_bits, low_bits-xor, low_bits-zero, low_bits-back, number_fits, number_bound, number_append}
use Rattle.bits.proofs.RemainderLaws.{length-remainder, remainder-xor, is_remainder, only_remainder}
use Rattle.bits.proofs.BoolLaws.{or_right, every_below, below}
use Rattle.bas.specs.Words.{bas_generator, check_of, word_bits, word_of, even_order, odd_order, line_order}
use Rattle.bas.specs.Reading.{weight, distance}

-- ---- the word
pub length-word_bits : (c : ℕ) → length (word_bits c) ≡ 16
unfolding word_bits
length-word_bits c = length-append (octet_bits c) (remainder bas_generator (octet_bits c)) ∙ ap₂ ◌+◌ (length-low_bits 8 c) (length-remainder bas_generator (octet_bits c))

pub word_of_is : (c : ℕ) → c < 256 → word_of c ≡ c * 256 + check_of c
unfolding word_of word_bits check_of
word_of_is c h =
    let r = remainder bas_generator (octet_bits c) in
    number_append (octet_bits c) r
    ∙ ap₂ (λ (n k : ℕ). n * 2 ^ k + number r) (number_fits 8 c h) (length-remainder bas_generator (octet_bits c))

-- ---- the facts of a remainder, at width 8
pub check-bits : (c : ℕ) → low_bits 8 (check_of c) ≡ remainder bas_generator (octet_bits c)
unfolding check_of
check-bits c = low_bits-back 8 (remainder bas_generator (octet_bits c)) (length-remainder bas_generator (octet_bits c))

pub check_width : (c : ℕ) → check_of c < 256
unfolding check_of
check_width c =
    let r = remainder bas_generator (octet_bits c) in
    subst (λ (k : ℕ). number r < 2 ^ k) (length-remainder bas_generator (octet_bits c)) (number_bound r)

pub check_is_remainder : (c : ℕ) → Leaves bas_generator (octet_bits c) (low_bits 8 (check_of c))
check_is_remainder c = rw check-bits (is_remainder bas_generator (octet_bits c) (lit< tt))

pub check_only : (c p : ℕ) → p < 256 → Leaves bas_generator (octet_bits c) (low_bits 8 p) → p ≡ check_of c
unfolding check_of
check_only c p h l =
    sym (number_fits 8 p h) ∙ ap number (only_remainder bas_generator (octet_bits c) (low_bits 8 p) (lit< tt) (length-low_bits 8 p) l)

-- linear: the sum of two words is the word of the codes' sum
pub word_bits-xor : (c d : ℕ) → word_bits (bit_xor c d) ≡ xors (word_bits c) (word_bits d)
unfolding word_bits
word_bits-xor c d =
    let a = octet_bits c in
    let b = octet_bits d in
    let same : length a ≡ length b = length-low_bits 8 c ∙ sym (length-low_bits 8 d) in
    ap₂ ◌++◌ (low_bits-xor 8 c d) (ap (remainder bas_generator) (low_bits-xor 8 c d) ∙ remainder-xor bas_generator a b same)
    ∙ sym (xors-append a b (remainder bas_generator a) (remainder bas_generator b) same)

-- ---- weights and distances
weight-xor : (a b : Bool) → digit (xor a b) ≤ digit a + digit b
unfolding xor
weight-xor true true = omega arith
weight-xor true false = omega arith
weight-xor false true = omega arith
weight-xor false false = omega arith

pub weight-xors : (xs ys : List Bool) → weight (xors xs ys) ≤ weight xs + weight ys
unfolding weight xors
weight-xors [] ys = omega arith
weight-xors (x ∷ xs) [] = omega arith
weight-xors (x ∷ xs) (y ∷ ys) = omega (arith, weight-xor x y, weight-xors xs ys)

pub triangle : (a b c : List Bool) → length a ≡ length b → length b ≡ length c → distance b c ≤ distance a b + distance a c
unfolding distance
triangle a b c hab hbc =
    let same : xors b c ≡ xors (xors a b) (xors a c) =
    sym
    (ap (λ (l : List Bool). xors l (xors a c)) (xors_comm a b)
    ∙ xors_assoc b a (xors a c)
    ∙ ap (xors b) (xors_cancel a c (hab ∙ hbc))) in
    subst (λ (l : List Bool). weight l ≤ weight (xors a b) + weight (xors a c)) (sym same) (weight-xors (xors a b) (xors a c))

-- ---- two codes' words differ in at least five bits
heavy : ℕ → Bool
heavy d = eqb d 0 || leb 5 (weight (word_bits d))

all_heavy : every_below 256 heavy ≡ true
unfolding heavy weight word_bits number remainder continued low_bits fed xors scaled xor odd
all_heavy = refl

sum-zero : (c d : ℕ) → c < 256 → d < 256 → bit_xor c d ≡ 0 → c ≡ d
sum-zero c d hc hd e =
    let a = octet_bits c in
    let b = octet_bits d in
    let same : length a ≡ length b = length-low_bits 8 c ∙ sym (length-low_bits 8 d) in
    let none : xors a b ≡ zeros (length a) = sym (low_bits-xor 8 c d) ∙ ap (low_bits 8) e ∙ low_bits-zero 8 ∙ ap zeros (sym (length-low_bits 8 c)) in
    sym (number_fits 8 c hc)
    ∙ ap number (sym (ap (xors a) none ∙ xors-zeros a (length a) refl) ∙ xors_cancel a b same)
    ∙ number_fits 8 d hd

pub five_apart : (c d : ℕ) → c < 256 → d < 256 → c ≢ d → 5 ≤ distance (word_bits c) (word_bits d)
unfolding heavy distance
five_apart c d hc hd ne =
    let s = bit_xor c d in
    let far : leb 5 (weight (word_bits s)) ≡ true =
    or_right (eqb s 0) (leb 5 (weight (word_bits s))) (λ e. ne (sum-zero c d hc hd (eqb-true s 0 e)))
    (below 256 heavy all_heavy s (xor_lt 8 c d hc hd)) in
    subst (λ (l : List Bool). 5 ≤ weight l) (word_bits-xor c d) (leb-true 5 (weight (word_bits s)) far)

-- ---- the order on the line
-- the order is its own inverse
pub line-back : (w : ℕ) → line_order (line_order (low_bits 16 w)) ≡ low_bits 16 w
unfolding line_order even_order odd_order low_bits
line-back w = refl

pub length-line : (w : List Bool) → length (line_order w) ≡ 16
unfolding line_order even_order odd_order
length-line w = refl

-- so what `line_order` gives of what it gave is the word again
pub line-back-number : (w : ℕ) → w < 65536 → number (line_order (low_bits 16 (number (line_order (low_bits 16 w))))) ≡ w
line-back-number w h =
    ap (λ (l : List Bool). number (line_order l)) (low_bits-back 16 (line_order (low_bits 16 w)) (length-line (low_bits 16 w)))
    ∙ ap number (line-back w) ∙ number_fits 16 w h
