-- Laws of Bool: of the sum of two bits, of "and" and "or", of two that are the same, of a bit as a digit, and of a test at every number below n.
use mathlib.Core.Path.{◌≡◌, refl, sym, ap, ◌∙◌}
use mathlib.Core.Bool.{Bool, true, false, false≢true, beq, xor, ◌&&◌, ◌||◌}
use mathlib.Core.Logic.{⊎_elim}
use Prim.Native.Nat.{ℕ, zero, suc, ◌≤◌, ◌<◌}
use native.Mathlib.Nat.{eq-or-lt_of_le, le_of_suc-le-suc}
use native.Mathlib.Omega.{arith}
use lib.Dec.{eqb}
use Rattle.bits.specs.Bits.{digit}

-- ---- the sum of two bits
pub xor_comm : (a b : Bool) → xor a b ≡ xor b a
unfolding xor
xor_comm true true = refl
xor_comm true false = refl
xor_comm false true = refl
xor_comm false false = refl

pub xor_assoc : (a b c : Bool) → xor (xor a b) c ≡ xor a (xor b c)
unfolding xor
xor_assoc true true true = refl
xor_assoc true true false = refl
xor_assoc true false true = refl
xor_assoc true false false = refl
xor_assoc false true true = refl
xor_assoc false true false = refl
xor_assoc false false true = refl
xor_assoc false false false = refl

pub xor-false : (a : Bool) → xor a false ≡ a
unfolding xor
xor-false true = refl
xor-false false = refl

pub xor_self : (a : Bool) → xor a a ≡ false
unfolding xor
xor_self true = refl
xor_self false = refl

-- a bit that is turned where it differs from another is the other
pub xor_again : (a b : Bool) → xor a (xor a b) ≡ b
xor_again a b = sym (xor_assoc a a b) ∙ ap (λ (x : Bool). xor x b) (xor_self a) ∙ xor_comm false b ∙ xor-false b

pub xor_other : (a b : Bool) → xor b (xor a b) ≡ a
xor_other a b = ap (xor b) (xor_comm a b) ∙ xor_again b a

-- ---- "and" and "or"
pub and_left : (a b : Bool) → (a && b) ≡ true → a ≡ true
and_left true b e = refl
and_left false b e = e

pub and_right : (a b : Bool) → (a && b) ≡ true → b ≡ true
and_right true b e = e
and_right false b e = absurd (false≢true e)

pub and_make : (a b : Bool) → a ≡ true → b ≡ true → (a && b) ≡ true
and_make true b e f = f
and_make false b e f = e

pub or_right : (a b : Bool) → (a ≡ true → ⊥) → (a || b) ≡ true → b ≡ true
or_right true b no-a e = absurd (no-a refl)
or_right false b no-a e = e

pub or_left_false : (a b : Bool) → (a || b) ≡ false → a ≡ false
or_left_false true b h = h
or_left_false false b h = refl

pub or_right_false : (a b : Bool) → (a || b) ≡ false → b ≡ false
or_right_false true b h = cc
or_right_false false b h = h

-- ---- what is not true is false, and two that are tested to be the same are
pub isnt_true : (b : Bool) → (b ≡ true → ⊥) → b ≡ false
isnt_true true h = absurd (h refl)
isnt_true false h = refl

pub same_bool : (a b : Bool) → beq a b ≡ true → a ≡ b
same_bool true true e = refl
same_bool true false e = sym e
same_bool false true e = e
same_bool false false e = refl

-- ---- a bit as a digit
pub bit-back : (b : Bool) → eqb (digit b) 1 ≡ b
bit-back true = refl
bit-back false = refl

pub digit_low : (b : Bool) → digit b ≤ 1
digit_low true = omega arith
digit_low false = omega arith

-- ---- a test that antt computes at every number below n, and the fact that it gives at each
abbrev pub every_below : ℕ → (ℕ → Bool) → Bool
every_below zero p = true
every_below (suc n) p = p n && every_below n p

pub below : (n : ℕ) (p : ℕ → Bool) → every_below n p ≡ true → (k : ℕ) → k < n → p k ≡ true
below zero p e k h = absurd (omega arith)
below (suc n) p e k h =
    ⊎_elim
    (λ same. ap p same ∙ and_left (p n) (every_below n p) e)
    (λ less. below n p (and_right (p n) (every_below n p) e) k less)
    (eq-or-lt_of_le (le_of_suc-le-suc h))
