-- Laws of many places together: one more of them, that those without alignment can be passed over, and eight parts laid over one another.
use mathlib.Core.Path.{◌≡◌, refl, sym, ap, ap₂, subst, ◌∙◌}
use mathlib.Core.Bool.{Bool, true, false, not, ◌&&◌, and-true, and_comm, and_assoc}
use mathlib.Core.Logic.{⊎_elim}
use mathlib.Core.List.{List, [], ◌∷◌}
use Prim.Native.Nat.{ℕ, zero, suc, ◌+◌, ◌-◌, ◌*◌, ◌/◌, ◌^◌, ◌≤◌, ◌<◌}
use native.Mathlib.Nat.{add-zero, eq-or-lt_of_le}
use native.Mathlib.Numerals.{add-one}
use native.Mathlib.Omega.{arith}
use lib.Dec.{eqb}
use lib.ListN.{length, get_or, drop, set, length-drop}
use lib.Seq.{drop-drop, get_or-drop, get_or-set_same, get_or-set_other}
use borrow.Author.Tests.{not-true, ne_eqb}
use Rattle.bits.specs.Bits.{odd, low_bits, sc_bit, number}
use Rattle.bits.proofs.BitLaws.{number_bound, number_fits, sc_is}
use Rattle.bits.proofs.BoolLaws.{and_left, and_right, every_below}
use Rattle.search.specs.Finding.{aligned}
use Rattle.search.specs.Groups.{none_of, first_from, plane, EachBit, Folded}
use Rattle.search.proofs.PlaceLaws.{first_step}
use Rattle.search.proofs.PlaneLaws.{length-plane, plane_at}
use Rattle.search.proofs.WrongLaws.{aligned_same}

pub none_turn : (n : ℕ) (part : List ℕ) → (none_of n part && not (aligned (drop n part))) ≡ none_of (n + 1) part
unfolding none_of
none_turn n part = rw (add-one n)

pub passed_over : (n at : ℕ) (recording : List ℕ) → at + n ≤ length recording → none_of n (drop at recording) ≡ true
    → first_from (at + n) recording ≡ first_from at recording
unfolding none_of
passed_over zero at recording h e = ap (λ (k : ℕ). first_from k recording) (add-zero at)
passed_over (suc n) at recording h e =
    let before = none_of n (drop at recording) in
    let here = aligned (drop n (drop at recording)) in
    let fails : aligned (drop (at + n) recording) ≡ false = rw drop-drop at (not-true here (and_right before (not here) e)) in
    let next : at + suc n ≡ at + n + 1 = omega arith in
    ap (λ (k : ℕ). first_from k recording) next
    ∙ sym (rw fails at (first_step (at + n) recording (omega arith)))
    ∙ passed_over n at recording (omega arith) (and_left before (not here) e)

-- ---- groups of 256 places, each in a bit of its own
none_append : (n m : ℕ) (part : List ℕ) → (none_of n part && none_of m (drop n part)) ≡ none_of (n + m) part
unfolding none_of
none_append n zero part = and-true (none_of n part) ∙ ap (λ (k : ℕ). none_of k part) (sym (add-zero n))
none_append n (suc m) part =
    let last = not (aligned (drop m (drop n part))) in
    let turn : (none_of (n + m) part && last) ≡ none_of (n + m + 1) part = rw drop-drop (none_turn (n + m) part) in
    let e : n + m + 1 ≡ n + suc m = omega arith in
    sym (and_assoc (none_of n part) (none_of m (drop n part)) last)
    ∙ ap (λ (b : Bool). b && last) (none_append n m part)
    ∙ turn ∙ ap (λ (k : ℕ). none_of k part) e

-- some of them may have been passed over before
pub passed_to_the_end : (n first at : ℕ) (recording : List ℕ) → first + n ≤ length recording → first ≤ at → at ≤ first + n
    → none_of n (drop first recording) ≡ true → first_from (first + n) recording ≡ first_from at recording
passed_to_the_end n first at recording h w v e =
    let before = at - first in
    let left = first + n - at in
    let here : first + before ≡ at = omega arith in
    let parted : (none_of before (drop first recording) && none_of left (drop before (drop first recording))) ≡ true =
    none_append before left (drop first recording) ∙ ap (λ (k : ℕ). none_of k (drop first recording)) (omega arith) ∙ e in
    let rest : none_of left (drop at recording) ≡ true =
    rw (drop-drop, here) at (and_right (none_of before (drop first recording)) (none_of left (drop before (drop first recording))) parted) in
    ap (λ (k : ℕ). first_from k recording) (omega arith) ∙ passed_over left at recording (omega arith) rest

-- where SC is the same, the same places have alignment
none_same : (n : ℕ) (xs ys : List ℕ) → n + 167 ≤ length xs → n + 167 ≤ length ys
    → ((j : ℕ) → j < n + 167 → sc_bit (get_or xs j 0) ≡ sc_bit (get_or ys j 0)) → none_of n xs ≡ none_of n ys
unfolding none_of
none_same zero xs ys h k same = refl
none_same (suc n) xs ys h k same =
    ap₂ ◌&&◌
    (none_same n xs ys (omega arith) (omega arith) (λ j w. same j (omega arith)))
    (ap not
    (aligned_same (drop n xs) (drop n ys) (omega (arith, length-drop n xs)) (omega (arith, length-drop n ys))
    (λ j w. ap sc_bit (get_or-drop n xs j 0) ∙ same (n + j) (omega arith) ∙ ap sc_bit (sym (get_or-drop n ys j 0)))))

every_same : (n : ℕ) (p q : ℕ → Bool) → ((k : ℕ) → k < n → p k ≡ q k) → every_below n p ≡ every_below n q
every_same zero p q same = refl
every_same (suc n) p q same = ap₂ ◌&&◌ (same n (omega arith)) (every_same n p q (λ k h. same k (omega arith)))

groups : (n : ℕ) (part : List ℕ) → every_below n (λ k. none_of 256 (drop (256 * k) part)) ≡ none_of (256 * n) part
unfolding none_of
groups zero part = refl
groups (suc n) part =
    let last = none_of 256 (drop (256 * n) part) in
    let e : 256 * n + 256 ≡ 256 * suc n = omega arith in
    ap (λ (b : Bool). last && b) (groups n part) ∙ and_comm last (none_of (256 * n) part)
    ∙ none_append (256 * n) 256 part ∙ ap (λ (k : ℕ). none_of k part) e

-- an octet of eight ones is 255; the first bit that is 0 makes it smaller
not_255 : (bits : List Bool) → number bits < 255 → eqb (number bits) 255 ≡ false
not_255 bits w = ne_eqb (number bits) 255 (λ e. omega arith)

ones : (a b c d e f g h : Bool)
    → eqb (number (a ∷ b ∷ c ∷ d ∷ e ∷ f ∷ g ∷ h ∷ [])) 255 ≡ (a && (b && (c && (d && (e && (f && (g && (h && true))))))))
unfolding number
ones false b c d e f g h = not_255 (false ∷ b ∷ c ∷ d ∷ e ∷ f ∷ g ∷ h ∷ []) (omega (arith, number_bound (b ∷ c ∷ d ∷ e ∷ f ∷ g ∷ h ∷ [])))
ones true false c d e f g h = not_255 (true ∷ false ∷ c ∷ d ∷ e ∷ f ∷ g ∷ h ∷ []) (omega (arith, number_bound (c ∷ d ∷ e ∷ f ∷ g ∷ h ∷ [])))
ones true true false d e f g h = not_255 (true ∷ true ∷ false ∷ d ∷ e ∷ f ∷ g ∷ h ∷ []) (omega (arith, number_bound (d ∷ e ∷ f ∷ g ∷ h ∷ [])))
ones true true true false e f g h = not_255 (true ∷ true ∷ true ∷ false ∷ e ∷ f ∷ g ∷ h ∷ []) (omega (arith, number_bound (e ∷ f ∷ g ∷ h ∷ [])))
ones true true true true false f g h = not_255 (true ∷ true ∷ true ∷ true ∷ false ∷ f ∷ g ∷ h ∷ []) (omega (arith, number_bound (f ∷ g ∷ h ∷ [])))
ones true true true true true false g h = not_255 (true ∷ true ∷ true ∷ true ∷ true ∷ false ∷ g ∷ h ∷ []) (omega (arith, number_bound (g ∷ h ∷ [])))
ones true true true true true true false h = not_255 (true ∷ true ∷ true ∷ true ∷ true ∷ true ∷ false ∷ h ∷ []) (omega (arith, number_bound (h ∷ [])))
ones true true true true true true true false = refl
ones true true true true true true true true = refl

is_full : (r : ℕ) → r < 256 → eqb r 255 ≡ every_below 8 (λ k. odd (r / 2 ^ k))
unfolding low_bits
is_full r h =
    let bit : ℕ → Bool = λ k. odd (r / 2 ^ k) in
    ap (λ (n : ℕ). eqb n 255) (sym (number_fits 8 r h)) ∙ ones (bit 7) (bit 6) (bit 5) (bit 4) (bit 3) (bit 2) (bit 1) (bit 0)

folded_none : (k : ℕ) (bits part : List ℕ) → k < 8 → length bits ≡ 424 → 2216 ≤ length part → Folded 424 bits part
    → none_of 256 (plane k bits) ≡ none_of 256 (drop (256 * k) part)
folded_none k bits part h l w folded =
    none_same 256 (plane k bits) (drop (256 * k) part)
    (omega (arith, length-plane k bits))
    (omega (arith, length-drop (256 * k) part))
    (λ j v. sc_is _ ∙ ap odd (plane_at k bits j) ∙ folded j (omega arith) k h ∙ ap sc_bit (sym (get_or-drop (256 * k) part j 0)))

-- the octets that follow a part begin the next one; what follows the last part has the bit above
pub one_part_further : (bits r octet i : ℕ) (part : List ℕ) → octet ≡ get_or part (i + 2048) 0
    → EachBit bits (λ k. sc_bit (get_or part (256 * k + i) 0)) → odd (r / 2 ^ 7) ≡ sc_bit octet
    → ((k : ℕ) → k < 7 → odd (r / 2 ^ k) ≡ odd (bits / 2 ^ (k + 1))) → EachBit r (λ k. sc_bit (get_or part (256 * k + (i + 256)) 0))
one_part_further bits r octet i part o first highest below k h =
    let sc : ℕ → Bool = λ j. sc_bit (get_or part j 0) in
    ⊎_elim
    (λ (e : k ≡ 7). ap (λ (j : ℕ). odd (r / 2 ^ j)) e ∙ highest ∙ ap sc_bit o ∙ ap sc (omega arith))
    (λ (w : k < 7). below k w ∙ first (k + 1) (omega arith) ∙ ap sc (omega arith))
    (eq-or-lt_of_le (omega arith))

-- so eight ones say that alignment stands at none of 2,048 places
pub none_folded : (r : ℕ) (bits part : List ℕ) → r < 256 → length bits ≡ 424 → 2216 ≤ length part → Folded 424 bits part
    → EachBit r (λ k. none_of 256 (plane k bits)) → eqb r 255 ≡ none_of 2048 part
none_folded r bits part h l w folded each =
    is_full r h
    ∙ every_same 8 (λ k. odd (r / 2 ^ k)) (λ k. none_of 256 (drop (256 * k) part)) (λ k v. each k v ∙ folded_none k bits part v l w folded)
    ∙ groups 8 part

-- ---- entries that are written one after the other
pub one_more_entry : (P : ℕ → ℕ → Type 0) (xs : List ℕ) (i x : ℕ) → i < length xs → ((j : ℕ) → j < i → P j (get_or xs j 0)) → P i x
    → (j : ℕ) → j < i + 1 → P j (get_or (set xs i x) j 0)
one_more_entry P xs i x h before here j w =
    ⊎_elim
    (λ (e : j ≡ i). subst (λ (k : ℕ). P k (get_or (set xs i x) k 0)) (sym e) (subst (P i) (sym (get_or-set_same xs i x 0 h)) here))
    (λ (v : j < i). subst (P j) (sym (get_or-set_other xs i j x 0 (λ e. omega arith))) (before j v))
    (eq-or-lt_of_le (omega arith))
