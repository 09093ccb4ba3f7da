-- A frame octet by octet, and a block as its two halves.
use mathlib.Core.Path.{◌≡◌, refl, ap, sym, ◌∙◌, fun_ext}
use mathlib.Core.Bool.{Bool, true}
use mathlib.Core.List.{List, [], ◌∷◌, ◌++◌}
use Prim.Native.Nat.{ℕ, zero, suc, ◌+◌, ◌*◌, ◌≤◌, ◌<◌}
use mathlib.Core.Logic.{⊎_elim}
use native.Mathlib.Nat.{add-zero, eq-or-lt_of_le, le_of_suc-le-suc}
use native.Mathlib.Numerals.{add-one}
use native.Mathlib.Omega.{arith}
use lib.ListN.{length, get_or, get_or-append, drop, set, length-set}
use lib.Seq.{get_or-set_same, get_or-set_other, drop-nil, drop_at, get_or-append-add}
use Rattle.buffers.specs.Lengths.{line_octets}
use Rattle.bits.specs.Bits.{number, octets}
use Rattle.bits.proofs.PackLaws.{length-octets, octets-append, octets_one}
use Rattle.modes.specs.declared.Owner.{Owner}
use Rattle.modes.specs.declared.Owner.TheVariants.{Service, Voice, Lsd, Nobody}
use Rattle.places.specs.Streams.{Streams, count, rest, fill}
use Rattle.halves.specs.Sources.{by_owner}
use Rattle.places.specs.Layout.{row_by, rows_by, sc, Apart}
use Rattle.halves.specs.Frame.{frame_by}
use Rattle.places.specs.declared.Layout.{Layout}
use Rattle.places.proofs.StreamLaws.{fill-append, fill-agree, length-fill}
use Rattle.places.proofs.LayoutLaws.{count_service, count-voice, count-lsd, length-row, length-rows}

-- a frame's first n octets, and one more
abbrev pub done : Layout → Streams → ℕ → List ℕ
done p s n = octets n (fill (rows_by p n) s)

done_more : (p : Layout) (s : Streams) (n : ℕ) → p.width + p.columns ≤ 7
    → done p s (n + 1) ≡ done p s n ++ (number (fill (row_by p (n + 1)) (rest (rows_by p n) s)) ∷ [])
unfolding rows_by
done_more p s n h =
    let next : List Owner = row_by p (n + 1) in
    let e : rows_by p (n + 1) ≡ rows_by p n ++ next = ap (rows_by p) (add-one n) ∙ ap (λ (k : ℕ). rows_by p n ++ row_by p k) (sym (add-one n)) in
    ap (λ (l : List Owner). octets (n + 1) (fill l s)) e
    ∙ ap (octets (n + 1)) (fill-append (rows_by p n) next s)
    ∙ octets-append n 1 (fill (rows_by p n) s) (fill next (rest (rows_by p n) s)) (length-fill (rows_by p n) s ∙ length-rows p n h)
    ∙ ap (λ (l : List ℕ). done p s n ++ l) (octets_one (fill next (rest (rows_by p n) s)) (length-fill next (rest (rows_by p n) s) ∙ length-row p (n + 1) h))

-- a block is two frames, of any streams
pub two_frames : (p : Layout) (s : Streams) → p.width + p.columns ≤ 7
    → octets line_octets (fill (rows_by p 80 ++ rows_by p 80) s) ≡ frame_by p s ++ frame_by p (rest (rows_by p 80) s)
unfolding frame_by
two_frames p s h =
    ap (octets line_octets) (fill-append (rows_by p 80) (rows_by p 80) s)
    ∙ octets-append 80 80 (fill (rows_by p 80) s) (fill (rows_by p 80) (rest (rows_by p 80) s)) (length-fill (rows_by p 80) s ∙ length-rows p 80 h)

-- the even frame sees the first sixteen service bits alone
pub even-half : (p : Layout) (es os vs ds : List Bool) → length es ≡ 16 → frame_by p (by_owner (es ++ os) vs ds) ≡ frame_by p (by_owner es vs ds)
unfolding frame_by
even-half p es os vs ds he = ap (octets 80) (fill-agree (rows_by p 80) (by_owner (es ++ os) vs ds) (by_owner es vs ds) same_bits)
  where
    same_bits : (o : Owner) (k : ℕ) → k < count o (rows_by p 80) → get_or (by_owner (es ++ os) vs ds o) k true ≡ get_or (by_owner es vs ds o) k true
    same_bits Service k l = get_or-append es os true k (rw he (rw count_service at l))
    same_bits Voice k l = refl
    same_bits Lsd k l = refl
    same_bits Nobody k l = refl

-- and the odd one the rest of every stream
pub rest_frame : (p : Layout) (bs vs ds : List Bool) → Apart p
    → rest (rows_by p 80) (by_owner bs vs ds) ≡ by_owner (drop 16 bs) (drop (80 * p.width) vs) (drop (80 * p.columns + sc p 80) ds)
unfolding rest
rest_frame p bs vs ds h = fun_ext at
  where
    at : (o : Owner) → rest (rows_by p 80) (by_owner bs vs ds) o ≡ by_owner (drop 16 bs) (drop (80 * p.width) vs) (drop (80 * p.columns + sc p 80) ds) o
    at Service = rw (count_service p 80)
    at Voice = rw (count-voice p 80)
    at Lsd = rw (count-lsd p 80 h)
    at Nobody = drop-nil (count Nobody (rows_by p 80))

pub odd-half : (p : Layout) (es os vs ds : List Bool) → Apart p → length es ≡ 16
    → rest (rows_by p 80) (by_owner (es ++ os) vs ds) ≡ by_owner os (drop (80 * p.width) vs) (drop (80 * p.columns + sc p 80) ds)
odd-half p es os vs ds h he =
    rest_frame p (es ++ os) vs ds h
    ∙ ap (λ (l : List Bool). by_owner l (drop (80 * p.width) vs) (drop (80 * p.columns + sc p 80) ds)) (drop_at es os 16 he)

-- ---- an octet of what was written
pub octet-done : (p : Layout) (s : Streams) (n o : ℕ) → p.width + p.columns ≤ 7 → o < n
    → get_or (done p s n) o 0 ≡ number (fill (row_by p (o + 1)) (rest (rows_by p o) s))
octet-done p s zero o h l = absurd (omega arith)
octet-done p s (suc n) o h l =
    let x = number (fill (row_by p (n + 1)) (rest (rows_by p n) s)) in
    let more : done p s (suc n) ≡ done p s n ++ (x ∷ []) = ap (done p s) (sym (add-one n)) ∙ done_more p s n h in
    let len : length (done p s n) ≡ n = length-octets n (fill (rows_by p n) s) in
    ap (λ (l : List ℕ). get_or l o 0) more
    ∙ ⊎_elim
    (λ e. ap (λ (k : ℕ). get_or (done p s n ++ (x ∷ [])) k 0) (e ∙ sym len ∙ sym (add-zero (length (done p s n))))
    ∙ get_or-append-add (done p s n) (x ∷ []) 0 0
    ∙ ap (λ (k : ℕ). number (fill (row_by p (k + 1)) (rest (rows_by p k) s))) (sym e))
    (λ i. get_or-append (done p s n) (x ∷ []) 0 o (rw len i) ∙ octet-done p s n o h i)
    (eq-or-lt_of_le (le_of_suc-le-suc l))

-- ---- the first two of a list set
pub two_set : (l : List ℕ) (n x y : ℕ) (rule : ℕ → ℕ) → 2 ≤ length l → x ≡ rule 0 → y ≡ rule 1 → ((k : ℕ) → 2 ≤ k → k < n → get_or l k 0 ≡ rule k)
    → (k : ℕ) → k < n → get_or (set (set l 0 x) 1 y) k 0 ≡ rule k
two_set l n x y rule h ex ey rest zero hk = get_or-set_other (set l 0 x) 1 0 y 0 (λ e. omega arith) ∙ get_or-set_same l 0 x 0 (omega arith) ∙ ex
two_set l n x y rule h ex ey rest (suc zero) hk = get_or-set_same (set l 0 x) 1 y 0 (rw length-set (omega arith)) ∙ ey
two_set l n x y rule h ex ey rest (suc (suc k)) hk =
    get_or-set_other (set l 0 x) 1 (suc (suc k)) y 0 (λ e. omega arith) ∙ get_or-set_other l 0 (suc (suc k)) x 0 (λ e. omega arith) ∙ rest (suc (suc k)) (omega arith) hk
