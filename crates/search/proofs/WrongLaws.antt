-- Laws of the test of a place: what it says that some bit is wrong, and of the lowest bits of octets that are joined to say it.
use mathlib.Core.Path.{◌≡◌, refl, sym, ap, ap₂, ◌∙◌}
use mathlib.Core.Bool.{Bool, true, false, not, xor, ◌&&◌, ◌||◌, and-true}
use mathlib.Core.List.{List, [], ◌∷◌}
use Prim.Native.Nat.{ℕ, zero, suc, ◌+◌, ◌%◌, ◌≤◌, ◌<◌}
use native.Mathlib.Nat.{add_assoc}
use native.Mathlib.Omega.{arith}
use lib.Dec.{eqb}
use lib.ListN.{length, get_or, drop, length-drop}
use lib.Seq.{get_or-drop}
use borrow.Author.Tests.{ne_eqb, le-leb}
use Rattle.bits.specs.Bits.{odd, sc_bit, digit, number}
use Rattle.bits.proofs.BitLaws.{number_bound, digit-odd}
use Rattle.service.specs.Service.{even_alignment}
use Rattle.service.specs.Channel.{channel_bits}
use Rattle.search.specs.Finding.{spells, aligned}

-- ---- seven bits are 0011011, the number 27, or one of them is wrong; the first such makes the number too large or too small
other_word : (bits : List Bool) → (number bits ≡ 27 → ⊥) → true ≡ not (eqb (number bits) 27)
other_word bits h = sym (ap not (ne_eqb (number bits) 27 h))

word-wrong : (a b c d e f g : Bool)
    → (a || b || e || xor (c && d && f && g) true) ≡ not (eqb (number (a ∷ b ∷ c ∷ d ∷ e ∷ f ∷ g ∷ [])) 27)
unfolding number xor
word-wrong true b c d e f g = other_word (true ∷ b ∷ c ∷ d ∷ e ∷ f ∷ g ∷ []) (λ h. omega arith)
word-wrong false true c d e f g = other_word (false ∷ true ∷ c ∷ d ∷ e ∷ f ∷ g ∷ []) (λ h. omega arith)
word-wrong false false false d true f g =
    other_word (false ∷ false ∷ false ∷ d ∷ true ∷ f ∷ g ∷ []) (λ h. omega (arith, number_bound (d ∷ true ∷ f ∷ g ∷ [])))
word-wrong false false false d false f g =
    other_word (false ∷ false ∷ false ∷ d ∷ false ∷ f ∷ g ∷ []) (λ h. omega (arith, number_bound (d ∷ false ∷ f ∷ g ∷ [])))
word-wrong false false true false true f g =
    other_word (false ∷ false ∷ true ∷ false ∷ true ∷ f ∷ g ∷ []) (λ h. omega (arith, number_bound (true ∷ f ∷ g ∷ [])))
word-wrong false false true false false f g =
    other_word (false ∷ false ∷ true ∷ false ∷ false ∷ f ∷ g ∷ []) (λ h. omega (arith, number_bound (false ∷ f ∷ g ∷ [])))
word-wrong false false true true true f g = other_word (false ∷ false ∷ true ∷ true ∷ true ∷ f ∷ g ∷ []) (λ h. omega arith)
word-wrong false false true true false false g =
    other_word (false ∷ false ∷ true ∷ true ∷ false ∷ false ∷ g ∷ []) (λ h. omega (arith, number_bound (g ∷ [])))
word-wrong false false true true false true false = refl
word-wrong false false true true false true true = refl

-- the same of the SC bits of seven octets
channel_seven : (at : ℕ) (part : List ℕ)
    → (let sc : ℕ → Bool = λ i. sc_bit (get_or part i 0) in
    channel_bits 7 at part ≡ sc at ∷ sc (at + 1) ∷ sc (at + 2) ∷ sc (at + 3) ∷ sc (at + 4) ∷ sc (at + 5) ∷ sc (at + 6) ∷ [])
unfolding channel_bits
channel_seven at part = simp add_assoc

pub not_spelled : (at : ℕ) (part : List ℕ)
    → (let sc : ℕ → Bool = λ i. sc_bit (get_or part i 0) in
    (sc at || sc (at + 1) || sc (at + 4) || xor (sc (at + 2) && sc (at + 3) && sc (at + 5) && sc (at + 6)) true)
    ≡ not (spells at part))
unfolding spells number
not_spelled at part =
    let sc : ℕ → Bool = λ i. sc_bit (get_or part i 0) in
    word-wrong (sc at) (sc (at + 1)) (sc (at + 2)) (sc (at + 3)) (sc (at + 4)) (sc (at + 5)) (sc (at + 6))
    ∙ ap (λ (bits : List Bool). not (eqb (number bits) 27)) (sym (channel_seven at part))

-- a number is even where its lowest bit is 0
pub even_is : (n : ℕ) → eqb (n % 2) 0 ≡ not (odd n)
even_is n = ap (λ (r : ℕ). eqb r 0) (sym (digit-odd n)) ∙ by_bit (odd n)
  where
    by_bit : (b : Bool) → eqb (digit b) 0 ≡ not b
    by_bit true = refl
    by_bit false = refl

-- ---- offset k in the part from octet `at` on is `at` octets further on in the whole
channel_on : (n at k : ℕ) (part : List ℕ) → channel_bits n k (drop at part) ≡ channel_bits n (at + k) part
unfolding channel_bits
channel_on zero at k part = refl
channel_on (suc n) at k part =
    ap₂ ◌∷◌ (ap sc_bit (get_or-drop at part k 0)) (channel_on n at (k + 1) part ∙ ap (λ (j : ℕ). channel_bits n j part) (sym (add_assoc at k 1)))

spells_on : (at k : ℕ) (part : List ℕ) → spells k (drop at part) ≡ spells (at + k) part
unfolding spells
spells_on at k part = ap (λ (bits : List Bool). eqb (number bits) (number even_alignment)) (channel_on 7 at k part)

one_wrong : (a b c : Bool) → (not a || xor b true || not c) ≡ not (a && b && c)
unfolding xor
one_wrong true true c = refl
one_wrong true false c = refl
one_wrong false b c = refl

-- with its 168 octets inside, alignment does not stand at a place exactly where one of the two words or the bit between them is wrong
pub not_aligned : (at : ℕ) (part : List ℕ) → at + 168 ≤ length part
    → (not (spells (at + 1) part) || xor (sc_bit (get_or part (at + 81) 0)) true || not (spells (at + 161) part)) ≡ not (aligned (drop at part))
unfolding aligned
not_aligned at part h =
    let inside : 168 ≤ length (drop at part) = omega (arith, length-drop at part) in
    rw (le-leb 168 (length (drop at part)) inside, and-true, spells_on at 1 part, spells_on at 161 part, get_or-drop at part 81 0)
    (one_wrong (spells (at + 1) part) (sc_bit (get_or part (at + 81) 0)) (spells (at + 161) part))

-- ---- where SC is the same, alignment stands or does not
channel_same : (w n at : ℕ) (xs ys : List ℕ) → at + n ≤ w → ((j : ℕ) → j < w → sc_bit (get_or xs j 0) ≡ sc_bit (get_or ys j 0))
    → channel_bits n at xs ≡ channel_bits n at ys
unfolding channel_bits
channel_same w zero at xs ys h same = refl
channel_same w (suc n) at xs ys h same = ap₂ ◌∷◌ (same at (omega arith)) (channel_same w n (at + 1) xs ys (omega arith) same)

pub aligned_same : (xs ys : List ℕ) → 168 ≤ length xs → 168 ≤ length ys
    → ((j : ℕ) → j < 168 → sc_bit (get_or xs j 0) ≡ sc_bit (get_or ys j 0)) → aligned xs ≡ aligned ys
unfolding aligned spells
aligned_same xs ys h k same =
    rw (
      le-leb 168 (length xs) h,
      le-leb 168 (length ys) k,
      same 81 (omega arith),
      channel_same 168 7 1 xs ys (omega arith) same,
      channel_same 168 7 161 xs ys (omega arith) same,
    )
