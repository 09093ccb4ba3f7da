-- Laws of filling and sorting, over any list of owners and any streams: the round trip, filling and sorting by parts, counts.
use mathlib.Core.Path.{◌≡◌, refl, ap, ap₂, sym, ◌∙◌, fun_ext}
use mathlib.Core.Bool.{Bool, true, false, cond}
use mathlib.Core.Logic.{◌⊎◌, inl, inr, ⊎_elim}
use mathlib.Core.List.{List, [], ◌∷◌, ◌++◌, append_assoc}
use Prim.Native.Nat.{ℕ, zero, suc, ◌+◌, ◌≤◌, ◌<◌}
use native.Mathlib.Nat.{zero-add, add_assoc, not-suc-le-zero, le_of_suc-le-suc}
use native.Mathlib.Numerals.{one-add}
use native.Mathlib.Omega.{arith}
use lib.ListN.{length, get_or, take, drop, replicate, length-append, length-take}
use lib.Seq.{drop-drop, get_or-drop, take-add}
use Rattle.modes.specs.Owners.{same_owner}
use Rattle.modes.specs.declared.Owner.{Owner}
use Rattle.modes.specs.declared.Owner.TheVariants.{Service, Voice, Lsd, Nobody}
use Rattle.modes.proofs.OwnerLaws.{same-owner}
use Rattle.places.specs.Streams.{Streams, same, count, rest, fill, sort}
use Rattle.bits.specs.Bits.{nexts}

-- ---- two owners are one, or not
pub same_or : (o p : Owner) → (same o p ≡ 0) ⊎ ((same o p ≡ 1) × (o ≡ p))
unfolding same
same_or o p = go (same_owner o p) refl
  where
    go : (b : Bool) → same_owner o p ≡ b → (◌≡◌ {A = ℕ} (cond b 1 0) 0) ⊎ ((◌≡◌ {A = ℕ} (cond b 1 0) 1) × (o ≡ p))
    go true e = inr (refl, same-owner o p e)
    go false e = inl refl

pub same_self : (o : Owner) → same o o ≡ 1
unfolding same
same_self Service = refl
same_self Voice = refl
same_self Lsd = refl
same_self Nobody = refl

pub same_le : (o p : Owner) → same o p ≤ 1
same_le o p = ⊎_elim (λ e. omega arith) (λ w. omega arith) (same_or o p)

-- ---- the round trip: sorting what was filled gives the next bits of each stream back, and ones where it has none
pub sorted : (o : Owner) (ps : List Owner) (s : Streams) → sort o ps (fill ps s) ≡ nexts (count o ps) (s o)
unfolding sort fill nexts count rest
sorted o [] s = refl
sorted o (p ∷ ps) s = step (sorted o ps (rest (p ∷ []) s)) (same_or o p)
  where
    step : sort o ps (fill ps (rest (p ∷ []) s)) ≡ nexts (count o ps) (rest (p ∷ []) s o)
        → (same o p ≡ 0) ⊎ ((same o p ≡ 1) × (o ≡ p))
        → sort o (p ∷ ps) (fill (p ∷ ps) s) ≡ nexts (count o (p ∷ ps)) (s o)
    step ih (inl e) = rw (ih, e, zero-add)
    step ih (inr w) = rw (ih, w.0, one-add (count o ps), w.1) (ap (λ (q : Owner). get_or (s p) 0 true ∷ nexts (count q ps) (drop 1 (s p))) (sym w.1))

-- ---- counts
pub count-append : (o : Owner) (xs ys : List Owner) → count o (xs ++ ys) ≡ count o xs + count o ys
unfolding count
count-append o [] ys = sym (zero-add (count o ys))
count-append o (x ∷ xs) ys = rw (count-append o xs ys) (sym (add_assoc (same o x) (count o xs) (count o ys)))

pub count_all : (o : Owner) (n : ℕ) → count o (replicate n o) ≡ n
unfolding count
count_all o zero = refl
count_all o (suc n) = rw (same_self, count_all o n, one-add)

pub count_none : (o p : Owner) (n : ℕ) → same o p ≡ 0 → count o (replicate n p) ≡ 0
unfolding count
count_none o p zero e = refl
count_none o p (suc n) e = rw (e, count_none o p n e)

-- ---- filling by parts
pub rest_at : (ps : List Owner) (s : Streams) (o : Owner) → rest ps s o ≡ drop (count o ps) (s o)
unfolding rest
rest_at ps s o = refl

pub rest-rest : (xs ys : List Owner) (s : Streams) → rest ys (rest xs s) ≡ rest (xs ++ ys) s
unfolding rest
rest-rest xs ys s = fun_ext (λ o. drop-drop (count o ys) (count o xs) (s o) ∙ ap (λ (n : ℕ). drop n (s o)) (sym (count-append o xs ys)))

pub fill-append : (xs ys : List Owner) (s : Streams) → fill (xs ++ ys) s ≡ fill xs s ++ fill ys (rest xs s)
unfolding fill rest count
fill-append [] ys s = refl
fill-append (x ∷ xs) ys s =
    ap (λ (l : List Bool). get_or (s x) 0 true ∷ l)
    (fill-append xs ys (rest (x ∷ []) s) ∙ ap (λ (t : Streams). fill xs (rest (x ∷ []) s) ++ fill ys t) (rest-rest (x ∷ []) xs s))

pub length-fill : (ps : List Owner) (s : Streams) → length (fill ps s) ≡ length ps
unfolding fill
length-fill [] s = refl
length-fill (p ∷ ps) s = ap suc (length-fill ps (rest (p ∷ []) s))

pub fill_all : (o : Owner) (n : ℕ) (s : Streams) → fill (replicate n o) s ≡ nexts n (s o)
unfolding fill nexts rest count
fill_all o zero s = refl
fill_all o (suc n) s =
    ap (λ (l : List Bool). get_or (s o) 0 true ∷ l)
    (fill_all o n (rest (o ∷ []) s) ∙ ap (λ (k : ℕ). nexts n (drop (k + 0) (s o))) (same_self o))

-- filling looks at no more of a stream than the owner has places
pub fill-agree : (ps : List Owner) (s t : Streams) → ((o : Owner) (k : ℕ) → k < count o ps → get_or (s o) k true ≡ get_or (t o) k true) → fill ps s ≡ fill ps t
unfolding fill rest count
fill-agree [] s t h = refl
fill-agree (p ∷ ps) s t h =
    ap₂ (λ (b : Bool) (l : List Bool). b ∷ l) (h p 0 (rw same_self (omega arith)))
    (fill-agree ps (rest (p ∷ []) s) (rest (p ∷ []) t) (λ o k l. rw (get_or-drop, get_or-drop) (h o (same o p + 0 + k) (omega arith))))

-- ---- sorting by parts
pub sort-append : (o : Owner) (ps qs : List Owner) (bs : List Bool) → sort o (ps ++ qs) bs ≡ sort o ps bs ++ sort o qs (drop (length ps) bs)
unfolding sort
sort-append o [] qs bs = refl
sort-append o (p ∷ ps) qs bs =
    rw (sort-append o ps qs (drop 1 bs), drop-drop (length ps) 1 bs, one-add (length ps))
    (sym (append_assoc (take (same o p) bs) (sort o ps (drop 1 bs)) (sort o qs (drop (suc (length ps)) bs))))

pub sort_all : (o : Owner) (n : ℕ) (bs : List Bool) → sort o (replicate n o) bs ≡ take n bs
unfolding sort
sort_all o zero bs = refl
sort_all o (suc n) bs = rw (same_self o, sort_all o n (drop 1 bs)) (sym (take-add 1 n bs) ∙ ap (λ (k : ℕ). take k bs) (one-add n))

pub sort_none : (o p : Owner) (n : ℕ) (bs : List Bool) → same o p ≡ 0 → sort o (replicate n p) bs ≡ []
unfolding sort
sort_none o p zero bs e = refl
sort_none o p (suc n) bs e = rw (e, sort_none o p n (drop 1 bs) e)

pub length-sort : (o : Owner) (ps : List Owner) (bs : List Bool) → length ps ≤ length bs → length (sort o ps bs) ≡ count o ps
unfolding sort count
length-sort o [] bs h = refl
length-sort o (p ∷ ps) [] h = absurd (not-suc-le-zero h)
length-sort o (p ∷ ps) (b ∷ bs) h =
    rw (length-append (take (same o p) (b ∷ bs)) (sort o ps bs), length-sort o ps bs (le_of_suc-le-suc h), length-take) (omega (arith, same_le o p))
