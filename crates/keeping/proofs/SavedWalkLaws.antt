-- A walk that was saved comes back when it is loaded, and its forms are a reader's with nine octets more.
use mathlib.Core.Path.{◌≡◌, refl, sym, ap, ap₂, ◌∙◌}
use mathlib.Core.Bool.{Bool, true, false, false≢true, ◌||◌}
use mathlib.Core.List.{List, [], ◌∷◌, ◌++◌, map}
use Prim.Native.Nat.{ℕ, ◌+◌, ◌-◌, ◌*◌, ◌/◌, ◌%◌, ◌<◌, ◌≤◌, ◌^◌}
use native.Mathlib.Omega.{arith}
use lib.Dec.{eqb, leb}
use lib.ListN.{replicate, length, take, drop, get_or}
use lib.Seq.{get_or-take, get_or-drop, take-take}
use Rattle.std.specs.Prelude.{Some}
use Rattle.std.proofs.lemmas.Grind.{common_steps}
use Rattle.std.specs.Int.{w8, w64, to_le_bytes, from_le_bytes}
use Rattle.std.proofs.Common.{Fits}
use borrow.Author.Tests.{leb-true, leb-false, eqb-true, eqb-false, eq-eqb, ne_eqb}
use Rattle.reader.specs.declared.Reader.{Reader}
use Rattle.saving.specs.Saved.{is_form, reader_in}
use Rattle.bits.specs.Bits.{number_at}
use Rattle.keeping.specs.SavedWalk.{low_first, eight_low_first, nine_more, walk_forms, walk_octets, walk_of, walk_loaded}
use Rattle.keeping.specs.declared.WalkState.{WalkState}

-- ---- which octets are a walk's form, over any forms of its reader
-- fewer than nine are none
pub too_few : (forms : List ℕ) (n : ℕ) → n < 9 → is_form (map nine_more forms) n ≡ false
too_few [] n h = refl
too_few (m ∷ forms) n h = ap₂ ◌||◌ (ne_eqb n (m + 9) (λ e. omega arith)) (too_few forms n h)

-- and of as many or more nine are the walk's own
pub nine_own : (forms : List ℕ) (n : ℕ) → 9 ≤ n → is_form (map nine_more forms) n ≡ is_form forms (n - 9)
nine_own [] n h = refl
nine_own (m ∷ forms) n h = ap₂ ◌||◌ (go (eqb (n - 9) m) refl) (nine_own forms n h)
  where
    go : (b : Bool) → eqb (n - 9) m ≡ b → eqb n (m + 9) ≡ eqb (n - 9) m
    go true e = rw e (eq-eqb n (m + 9) (let same = eqb-true (n - 9) m e in omega arith))
    go false e = rw e (ne_eqb n (m + 9) (λ same. eqb-false (n - 9) m e (omega arith)))

-- so those of a form are nine or more
pub nine_there : (forms : List ℕ) (n : ℕ) → is_form (map nine_more forms) n ≡ true → 9 ≤ n
nine_there forms n e = go (leb 9 n) refl
  where
    go : (b : Bool) → leb 9 n ≡ b → 9 ≤ n
    go true l = leb-true 9 n l
    go false l = absurd (false≢true (sym (too_few forms n (leb-false 9 n l)) ∙ e))

-- ---- the octets of a place, as the library writes and reads them
pub place_written : (n : ℕ) → to_le_bytes w64 n ≡ low_first 8 n
unfolding low_first
place_written n =
    let b2 : n / 256 ^ 2 ≡ n / 256 / 256 = omega arith in
    let b3 : n / 256 ^ 3 ≡ n / 256 / 256 / 256 = omega arith in
    let b4 : n / 256 ^ 4 ≡ n / 256 / 256 / 256 / 256 = omega arith in
    let b5 : n / 256 ^ 5 ≡ n / 256 / 256 / 256 / 256 / 256 = omega arith in
    let b6 : n / 256 ^ 6 ≡ n / 256 / 256 / 256 / 256 / 256 / 256 = omega arith in
    let b7 : n / 256 ^ 7 ≡ n / 256 / 256 / 256 / 256 / 256 / 256 / 256 = omega arith in
    rw (b2, b3, b4, b5, b6, b7)

pub place_read : (xs : List ℕ) (at : ℕ) → ((i : ℕ) → Fits w8 (get_or xs i 0)) → from_le_bytes w64 (drop at xs) ≡ eight_low_first xs at
unfolding number_at
place_read xs at octets =
    let none : at + 0 ≡ at = omega arith in
    let e0 : get_or (drop at xs) 0 0 ≡ get_or xs at 0 = get_or-drop at xs 0 0 ∙ ap (λ (k : ℕ). get_or xs k 0) none in
    let e1 = get_or-drop at xs 1 0 in
    let e2 = get_or-drop at xs 2 0 in
    let e3 = get_or-drop at xs 3 0 in
    let e4 = get_or-drop at xs 4 0 in
    let e5 = get_or-drop at xs 5 0 in
    let e6 = get_or-drop at xs 6 0 in
    let e7 = get_or-drop at xs 7 0 in
    rw (e0, e1, e2, e3, e4, e5, e6, e7)
    omega (arith, octets at, octets (at + 1), octets (at + 2), octets (at + 3), octets (at + 4), octets (at + 5), octets (at + 6), octets (at + 7))

-- what a walk's form is read in: the place in its last eight octets, the mark before them, and the reader before that
pub walk_read : (xs rest place reader : List ℕ) (lost n : ℕ) (r : Reader)
    → ((i : ℕ) → Fits w8 (get_or xs i 0))
    → is_form walk_forms (length xs) ≡ true
    → (rest ≡ take (length xs - 8) xs) × (place ≡ drop (length xs - 8) xs) × (length rest + 8 ≡ length xs)
    → (rest ≡ reader ++ (lost ∷ [])) × (length reader + 1 ≡ length rest)
    → n ≡ from_le_bytes w64 place
    → r ≡ reader_in reader
    → Some (record { place = n; reader = r; lost = lost; reserved = replicate 3 0 }) ≡ walk_of xs
walk_read xs rest place reader lost n r octets form a b en er =
    let ends : length xs - 9 ≡ length reader = omega (arith, a.2, b.1) in
    let lasts : length xs - 8 ≡ length reader + 1 = omega (arith, a.2, b.1) in
    let whole : reader ++ (lost ∷ []) ≡ take (length reader + 1) xs = sym b.0 ∙ a.0 ∙ ap (λ (k : ℕ). take k xs) lasts in
    let readers : take (length reader) xs ≡ reader =
    sym (take-take (length reader) (length reader + 1) xs (omega arith))
    ∙ ap (λ (ys : List ℕ). take (length reader) ys) (sym whole)
    ∙ grind (arith, common_steps)
    in
    let mark : get_or xs (length reader) 0 ≡ lost =
    sym (get_or-take (length reader + 1) xs (length reader) 0 (omega arith))
    ∙ ap (λ (ys : List ℕ). get_or ys (length reader) 0) (sym whole)
    ∙ grind (arith, common_steps)
    in
    let places : n ≡ eight_low_first xs (length reader + 1) =
    en ∙ ap (λ (ys : List ℕ). from_le_bytes w64 ys) (a.1 ∙ ap (λ (k : ℕ). drop k xs) lasts) ∙ place_read xs (length reader + 1) octets
    in
    rw (form, ends, readers, mark, places, er)

-- a number by its lowest octet and what stands above it
joined : (n : ℕ) → n / 256 * 256 + n % 256 % 256 ≡ n
joined n = omega arith

less : (k n : ℕ) → n < 256 * k → n / 256 < k
less k n h = omega (arith, h)

place-back : (w : WalkState) → w.place < 2 ^ 64 → eight_low_first (walk_octets w) 13 ≡ w.place
unfolding low_first number_at
place-back w fits =
    let p1 = w.place / 256 in
    let p2 = p1 / 256 in
    let p3 = p2 / 256 in
    let p4 = p3 / 256 in
    let p5 = p4 / 256 in
    let p6 = p5 / 256 in
    let top : p6 / 256 < 256 =
    less 256 p6 (less (2 ^ 16) p5 (less (2 ^ 24) p4 (less (2 ^ 32) p3 (less (2 ^ 40) p2 (less (2 ^ 48) p1 (less (2 ^ 56) w.place fits))))))
    in
    let first : 0 * 256 + p6 / 256 % 256 % 256 ≡ p6 / 256 = omega (arith, top) in
    rw (first, joined p6, joined p5, joined p4, joined p3, joined p2, joined p1, joined w.place)

pub walk-back : (w was : WalkState) → w.place < 2 ^ 64 → w.reserved ≡ replicate 3 0
    → walk_loaded was (walk_octets w) ≡ record { state = w; answer = 1 }
unfolding low_first
walk-back w was fits none =
    λ i. record { state = record { place = place-back w fits i; reader = w.reader; lost = w.lost; reserved = sym none i }; answer = 1 }
