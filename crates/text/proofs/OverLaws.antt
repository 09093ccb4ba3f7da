-- Laws of writing over a buffer: its length stays, pieces one after the other are one piece, what fits stands there whole, and nothing
-- else could have been written.
use mathlib.Core.Path.{◌≡◌, refl, sym, ap, ◌∙◌}
use mathlib.Core.List.{List, [], ◌∷◌, ◌++◌}
use Prim.Native.Nat.{ℕ, zero, suc, ◌+◌, ◌≤◌, ◌<◌}
use native.Mathlib.Nat.{zero-add, add-zero, suc-add, zero-min, suc-min-suc}
use native.Mathlib.Omega.{arith}
use lib.ListN.{length, take, drop, set, length-append, length-drop, take-append-drop}
use Rattle.text.specs.Over.{over, over_at, place_in, Written}

-- ---- from the front
over_none : (xs : List ℕ) → over xs [] ≡ []
unfolding over
over_none [] = refl
over_none (x ∷ xs) = refl

pub over-length : (xs buffer : List ℕ) → length (over xs buffer) ≡ length buffer
unfolding over
over-length [] buffer = refl
over-length (x ∷ xs) [] = refl
over-length (x ∷ xs) (y ∷ ys) = ap suc (over-length xs ys)

over-fits : (xs buffer : List ℕ) → length xs ≤ length buffer → over xs buffer ≡ xs ++ drop (length xs) buffer
unfolding over
over-fits [] buffer h = refl
over-fits (x ∷ xs) [] h = absurd (omega arith)
over-fits (x ∷ xs) (y ∷ ys) h = ap (λ (l : List ℕ). x ∷ l) (over-fits xs ys (omega arith))

over-cut : (xs buffer : List ℕ) → length buffer ≤ length xs → over xs buffer ≡ take (length buffer) xs
unfolding over
over-cut [] [] h = refl
over-cut [] (y ∷ ys) h = absurd (omega arith)
over-cut (x ∷ xs) [] h = refl
over-cut (x ∷ xs) (y ∷ ys) h = ap (λ (l : List ℕ). x ∷ l) (over-cut xs ys (omega arith))

-- ---- from a place on: by the first octet of the buffer, which stays
over_at_none : (at : ℕ) (xs : List ℕ) → over_at at xs [] ≡ []
unfolding over_at
over_at_none zero xs = over_none xs
over_at_none (suc at) xs = over_none xs

pub over_at-length : (at : ℕ) (xs buffer : List ℕ) → length (over_at at xs buffer) ≡ length buffer
unfolding over_at
over_at-length zero xs buffer = over-length xs buffer
over_at-length (suc at) xs [] = ap length (over_none xs)
over_at-length (suc at) xs (y ∷ ys) = ap suc (over_at-length at xs ys)

pub over_at-nil : (at : ℕ) (buffer : List ℕ) → over_at at [] buffer ≡ buffer
unfolding over_at over
over_at-nil at buffer = take-append-drop at buffer

pub over_at-fits : (xs buffer : List ℕ) → length xs ≤ length buffer → over_at 0 xs buffer ≡ xs ++ drop (length xs) buffer
unfolding over_at
over_at-fits xs buffer h = over-fits xs buffer h

pub over_at-whole : (at : ℕ) (xs buffer : List ℕ) → at + length xs ≤ length buffer
    → take at buffer ++ (xs ++ drop (length xs) (drop at buffer)) ≡ over_at at xs buffer
unfolding over_at
over_at-whole at xs buffer h =
    let room : length xs ≤ length (drop at buffer) = rw length-drop (omega arith) in
    ap (λ (l : List ℕ). take at buffer ++ l) (sym (over-fits xs (drop at buffer) room))

pub over_at_one : (at x : ℕ) (buffer : List ℕ) → over_at at (x ∷ []) buffer ≡ set buffer at x
unfolding over_at over
over_at_one at x [] = over_at_none at (x ∷ [])
over_at_one zero x (y ∷ ys) = refl
over_at_one (suc at) x (y ∷ ys) = ap (λ (l : List ℕ). y ∷ l) (over_at_one at x ys)

-- ---- pieces written one after the other are one piece
over-append : (xs ys buffer : List ℕ) → over_at (length xs) ys (over xs buffer) ≡ over (xs ++ ys) buffer
unfolding over_at over
over-append [] ys buffer = refl
over-append (x ∷ xs) ys [] = over_none ys
over-append (x ∷ xs) ys (z ∷ zs) = ap (λ (l : List ℕ). x ∷ l) (over-append xs ys zs)

pub over_at-append : (at : ℕ) (xs ys buffer : List ℕ) → over_at (at + length xs) ys (over_at at xs buffer) ≡ over_at at (xs ++ ys) buffer
unfolding over_at
over_at-append zero xs ys buffer = rw (zero-add (length xs)) (over-append xs ys buffer)
over_at-append (suc at) xs ys [] = rw (over_at_none (suc at) xs, over_at_none (suc at + length xs) ys, over_at_none (suc at) (xs ++ ys))
over_at-append (suc at) xs ys (z ∷ zs) = rw (suc-add at (length xs)) (ap (λ (l : List ℕ). z ∷ l) (over_at-append at xs ys zs))

-- a place as it is answered serves as well as the place itself
pub over_at-place : (at : ℕ) (xs buffer : List ℕ) → over_at (place_in buffer at) xs buffer ≡ over_at at xs buffer
unfolding over_at
over_at-place at xs [] = rw (over_at_none (place_in [] at) xs, over_at_none at xs)
over_at-place zero xs (y ∷ ys) = rw zero-min
over_at-place (suc at) xs (y ∷ ys) =
    rw (suc-add (length ys) 1, suc-min-suc at (length ys + 1)) (ap (λ (l : List ℕ). y ∷ l) (over_at-place at xs ys))

-- ---- what a contract tells
pub written-length : {at r : ℕ} {xs a b : List ℕ} → Written at xs a r b → length b ≡ length a
written-length {at} {xs = xs} {a} h = ap length h.octets ∙ over_at-length at xs a

-- an answered place is at most one past the end
pub written_bound : {at r : ℕ} {xs a b : List ℕ} → Written at xs a r b → r ≤ length b + 1
written_bound h = omega (arith, h.place, written-length h)

-- no piece: a text begins so, from place 0 with the answer 0
pub written_none : (at r : ℕ) (buffer : List ℕ) → r ≡ place_in buffer at → Written at [] buffer r buffer
written_none at r buffer h = record { place = rw add-zero h; octets = sym (over_at-nil at buffer) }

pub written_one : (at x : ℕ) (buffer : List ℕ) → at < length buffer → Written at (x ∷ []) buffer (at + 1) (set buffer at x)
written_one at x buffer h = record { place = omega arith; octets = sym (over_at_one at x buffer) }

-- one piece and then another, from the place that was answered: this is all that a caller of several pieces cites
pub written_then : {at r s : ℕ} {xs ys a b c : List ℕ} → Written at xs a r b → Written r ys b s c → Written at (xs ++ ys) a s c
written_then {at} {r} {s} {xs} {ys} {a} {b} {c} h k =
    let same : length (over_at at xs a) ≡ length a = over_at-length at xs a in
    record {
      place = rw length-append (omega (arith, h.place, k.place, written-length h));
      octets = rw (k.octets, h.octets, h.place, ← same, over_at-place (at + length xs) ys (over_at at xs a)) (over_at-append at xs ys a);
    }

-- a text from the front that fits stands there whole, and the rest of the buffer stays
pub written-fits : {r : ℕ} {xs a b : List ℕ} → Written 0 xs a r b → r ≤ length a → (r ≡ length xs) × (b ≡ xs ++ drop (length xs) a)
written-fits {r} {xs} {a} {b} h fits = (omega (arith, h.place, fits), h.octets ∙ over_at-fits xs a (omega (arith, h.place, fits)))

-- of one that does not fit, what fits stands there, and the answer is one past the end
pub written-cut : {r : ℕ} {xs a b : List ℕ} → Written 0 xs a r b → length a < length xs → (r ≡ length a + 1) × (b ≡ take (length a) xs)
unfolding over_at
written-cut {xs = xs} {a} h long = (omega (arith, h.place), h.octets ∙ over-cut xs a (omega arith))

-- any two outcomes are equal that a contract allows which says that this piece was written from this place on
pub written-settled : (at : ℕ) (piece was : List ℕ) (r q : ℕ) (b c : List ℕ)
    → Written at piece was r b → Written at piece was q c → (r ≡ q) × (b ≡ c)
written-settled at piece was r q b c x y = (x.place ∙ sym y.place, x.octets ∙ sym y.octets)
