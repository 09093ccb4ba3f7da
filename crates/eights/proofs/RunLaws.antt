-- Octets written one after the other over others: one number more.
use mathlib.Core.Path.{◌≡◌, refl, ap, sym, ◌∙◌}
use mathlib.Core.List.{List, ◌++◌}
use Prim.Native.Nat.{ℕ, zero, suc, ◌+◌, ◌*◌, ◌<◌}
use native.Mathlib.Numerals.{add-one}
use native.Mathlib.Omega.{arith}
use lib.ListN.{length, take, drop, length-append}
use lib.Seq.{take_at, take-add, drop_at, drop-drop, paste}
use Rattle.eights.specs.Eight.{octets_in, all_octets}

-- the octets of one number more, over what stood there
length_all : (f : ℕ → ℕ) (n : ℕ) → length (all_octets f n) ≡ 8 * n
unfolding all_octets
length_all f zero = refl
length_all f (suc n) = length-append (all_octets f n) (octets_in (f n)) ∙ rw (length_all f n) (omega arith)

pub word_over : (f : ℕ → ℕ) (d : List ℕ) (k : ℕ)
    → paste (all_octets f k ++ drop (8 * k) d) (8 * k) (octets_in (f k)) 8 ≡ all_octets f (k + 1) ++ drop (8 * (k + 1)) d
unfolding all_octets
word_over f d k =
    let was : List ℕ = all_octets f k in
    let rest : List ℕ = drop (8 * k) d in
    let next : 8 * k + 8 ≡ 8 * (k + 1) = omega arith in
    let left : drop (8 * k + 8) (was ++ rest) ≡ drop (8 * (k + 1)) d =
    sym (drop-drop 8 (8 * k) (was ++ rest)) ∙ ap (drop 8) (drop_at was rest (8 * k) (length_all f k)) ∙ drop-drop 8 (8 * k) d ∙ ap (λ (n : ℕ). drop n d) next in
    rw (take_at was rest (8 * k) (length_all f k), left, add-one k)

-- the octets of the numbers are those of a list that has them eight by eight
pub all_are : (f : ℕ → ℕ) (fs : List ℕ) (n : ℕ) → ((k : ℕ) → k < n → octets_in (f k) ≡ take 8 (drop (8 * k) fs)) → all_octets f n ≡ take (8 * n) fs
unfolding all_octets
all_are f fs zero h = refl
all_are f fs (suc n) h =
    let next : 8 * n + 8 ≡ 8 * suc n = omega arith in
    rw (all_are f fs n (λ k l. h k (omega arith)), h n (omega arith)) (sym (take-add (8 * n) 8 fs) ∙ ap (λ (m : ℕ). take m fs) next)
