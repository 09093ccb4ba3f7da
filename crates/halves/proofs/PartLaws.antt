-- The octets of a frame in two parts, voice with nobody's ones and data with the SC bit; eight octets of each part as one number.
use mathlib.Core.Path.{◌≡◌, refl, ap, sym, ◌∙◌}
use mathlib.Core.Logic.{◌⊎◌, inl, inr}
use mathlib.Core.Bool.{Bool, true, cond, ◌&&◌, and-false}
use mathlib.Core.List.{List, []}
use Prim.Native.Nat.{ℕ, ◌+◌, ◌-◌, ◌*◌, ◌^◌, ◌≤◌, ◌<◌}
use native.Mathlib.Nat.{add-mul, mul-add, mul_assoc, mul-one, zero-add, add-zero}
use native.Mathlib.Omega.{arith}
use borrow.Author.Tests.{le-leb, lt-leb}
use lib.Dec.{leb}
use lib.Pow.{pow-add, pow_pos}
use lib.ListN.{length, get_or, take, drop, length-drop}
use lib.Seq.{take_all, drop-nil, drop-drop, length-take-le, get_or-take, get_or-drop, ext_get_or}
use Rattle.bits.specs.Bits.{number, digit, nexts}
use Rattle.bits.proofs.BitLaws.{number_append}
use Rattle.bits.proofs.PackLaws.{length-octets}
use Rattle.bits.proofs.Table.{entry}
use Rattle.modes.specs.declared.Owner.{Owner}
use Rattle.places.specs.Streams.{Streams, fill, rest}
use Rattle.halves.specs.Sources.{by_owner}
use Rattle.places.specs.Layout.{row_by, rows_by, sc, Apart}
use Rattle.halves.specs.Frame.{frame_by}
use Rattle.eights.specs.Eight.{eights, own_at, ended_by, field_of, fields_of, raised_by, octet_in, octets_in, all_octets}
use Rattle.halves.specs.Parts.{word_at, head_at, tail_at}
use Rattle.places.specs.declared.Layout.{Layout}
use Rattle.bits.proofs.NextLaws.{length-nexts, nexts-append}
use Rattle.places.proofs.LayoutLaws.{channel_cases, channel_service, channel_lsd}
use Rattle.halves.proofs.OctetLaws.{ones, octet-lt, octet_parts, channel_unserved, channel_free}
use Rattle.eights.proofs.EightLaws.{number_one}
use Rattle.eights.proofs.RunLaws.{all_are}
use Rattle.eights.proofs.WordLaws.{eights_plus, eights_each, eights-lt, octet-of, raised_none}
use Rattle.halves.proofs.WrittenLaws.{done, octet-done}

-- ---- the first part: voice and nobody's ones
all_ones : (w g : ℕ) → (2 ^ w - 1) * 2 ^ g + (2 ^ g - 1) ≡ 2 ^ (w + g) - 1
all_ones w g =
    let split : 2 ^ w * 2 ^ g ≡ (2 ^ w - 1) * 2 ^ g + 2 ^ g =
    ap (λ (x : ℕ). x * 2 ^ g) (one_less (2 ^ w) (pow_pos w)) ∙ add-mul (2 ^ w - 1) 1 (2 ^ g) ∙ ap (λ (x : ℕ). (2 ^ w - 1) * 2 ^ g + x) (one (2 ^ g)) in
    rw (pow-add 2 w g) (omega (arith, split, pow_pos g))
  where
    one_less : (x : ℕ) → 1 ≤ x → x ≡ x - 1 + 1
    one_less x h = omega arith

    one : (x : ℕ) → 1 * x ≡ x
    one x = omega arith

-- muted, a head is ones alone
head_muted : (p : Layout) (v o : ℕ) → p.width + p.columns ≤ 7 → head_at p (drop v []) o ≡ (2 ^ (7 - p.columns) - 1) * 2 ^ (p.columns + 1)
unfolding head_at
head_muted p v o h =
    let g : ℕ = 7 - (p.width + p.columns) in
    let all : p.width + g ≡ 7 - p.columns = omega arith in
    rw (drop-nil v, drop-nil (o * p.width), ones p.width, all_ones p.width g, all)

pub heads-muted : (p : Layout) (bits : List Bool) (v k : ℕ) → p.width + p.columns ≤ 7
    → raised_by 0 8 ((2 ^ (7 - (0 + p.columns)) - 1) * 2 ^ (p.columns + 1)) bits ≡ word_at (head_at p (drop v [])) k
unfolding word_at
heads-muted p bits v k h =
    let ones : ℕ = (2 ^ (7 - p.columns) - 1) * 2 ^ (p.columns + 1) in
    rw (zero-add p.columns) (sym (raised_none 0 8 ones bits refl)) ∙ eights_each (λ j. ones) (λ j. head_at p (drop v []) (8 * k + j)) (λ j l. sym (head_muted p v (8 * k + j) h))

-- voice from octet i of its buffer on
pub heads-laid : (p : Layout) (bits : List Bool) (i v k : ℕ) → p.width + p.columns ≤ 7 → 8 * i ≡ v
    → raised_by p.width (8 - p.width) ((2 ^ (7 - (p.width + p.columns)) - 1) * 2 ^ (p.columns + 1)) (drop (8 * (i + k * p.width)) bits)
    ≡ word_at (head_at p (drop v bits)) k
unfolding raised_by word_at head_at fields_of
heads-laid p bits i v k h e = eights_each (λ j. fields_of w (drop at bits) j * 2 ^ (8 - w) + none) (λ j. head_at p (drop v bits) (8 * k + j)) each
  where
    w : ℕ
    w = p.width

    c : ℕ
    c = p.columns

    g : ℕ
    g = 7 - (w + c)

    none : ℕ
    none = (2 ^ g - 1) * 2 ^ (c + 1)

    at : ℕ
    at = 8 * (i + k * w)

    each : (j : ℕ) → j < 8 → fields_of w (drop at bits) j * 2 ^ (8 - w) + none ≡ head_at p (drop v bits) (8 * k + j)
    each j l =
        let up : 8 - w ≡ g + (c + 1) = omega arith in
        let from : at + j * w ≡ v + (8 * k + j) * w = rw (add-mul (8 * k) j w, mul_assoc 8 k w) (omega arith) in
        let x : ℕ = number (nexts w (drop (v + (8 * k + j) * w) bits)) in
        rw (drop-drop (j * w) at bits, drop-drop ((8 * k + j) * w) v bits, from, up, pow-add 2 g (c + 1), ← mul_assoc x (2 ^ g) (2 ^ (c + 1)), add-mul (x * 2 ^ g) (2 ^ g - 1) (2 ^ (c + 1)))

-- ---- the second part: data's columns and the SC bit
tail_service : (p : Layout) (bs ds : List Bool) (o : ℕ) → o < 16
    → tail_at p bs ds o ≡ number (nexts p.columns (drop (o * p.columns + sc p o) ds)) * 2 + digit (get_or (drop o bs) 0 true)
unfolding tail_at
tail_service p bs ds o h = rw (channel_service p (o + 1) (omega arith))

tail_free : (p : Layout) (ds : List Bool) (o : ℕ) → sc p (o + 1) ≡ sc p o
    → tail_at p [] ds o ≡ number (nexts p.columns (drop (o * p.columns + sc p o) ds)) * 2 + 1
unfolding tail_at
tail_free p ds o e = rw (channel_free p o (drop (o * p.columns + sc p o + p.columns) ds) e)

tail_owned : (p : Layout) (ds : List Bool) (o : ℕ) → 16 ≤ o → p.first ≤ o + 1 → o + 1 ≤ p.last
    → tail_at p [] ds o ≡ number (nexts (p.columns + 1) (drop (o * p.columns + sc p o) ds))
unfolding tail_at
tail_owned p ds o h f l =
    let at : ℕ = o * p.columns + sc p o in
    let last : List Bool = drop p.columns (drop at ds) in
    rw (channel_lsd p (o + 1) (omega arith) f l, nexts-append p.columns 1 (drop at ds), number_append (nexts p.columns (drop at ds)) (nexts 1 last), length-nexts 1 last, number_one last, drop-drop p.columns at ds)

-- data with no columns has the SC bit alone
tail_bit : (p : Layout) (bits : List Bool) (o : ℕ) → p.columns ≡ 0 → 16 ≤ o → own_at p.first p.last bits o ≡ tail_at p [] bits o
unfolding own_at tail_at nexts number
tail_bit p bits o z h =
    channel_cases p (o + 1) Ends
    (λ l. absurd (omega arith))
    (λ l f u.
    let at : o * 0 + sc p o + 0 ≡ o + 1 - p.first = omega arith in
    let none : o + 1 - p.first + 0 ≡ o + 1 - p.first = omega arith in
    rw (z, le-leb p.first (o + 1) f, le-leb (o + 1) p.last u, at, get_or-drop (o + 1 - p.first) bits 0 true, none) (sym (zero-add _)))
    (λ l b. rw (z, lt-leb p.first (o + 1) b))
    (λ l a. rw (z, lt-leb (o + 1) p.last a, and-false (leb p.first (o + 1))))
  where
    -- the octet ends in the next bit of this owner
    Ends : Owner → Type 0
    Ends w =
        digit (cond (leb p.first (o + 1) && leb (o + 1) p.last) (get_or bits (o + 1 - p.first) true) true)
        ≡ number (nexts p.columns (drop (o * p.columns + sc p o) bits)) * 2
        + digit (get_or (by_owner (drop o []) [] (drop (o * p.columns + sc p o + p.columns) bits) w) 0 true)

-- ---- eights of tails. Where data has columns they are read from bit `at` of its buffer on
columns_at : (p : Layout) (bits : List Bool) (o j d at : ℕ) → (p.columns ≡ 0) ⊎ (at + j * p.columns ≡ d + (o * p.columns + sc p o))
    → fields_of p.columns (drop at bits) j ≡ number (nexts p.columns (drop (o * p.columns + sc p o) (drop d bits)))
unfolding fields_of nexts
columns_at p bits o j d at (inl z) = rw z
columns_at p bits o j d at (inr e) = rw (drop-drop (j * p.columns) at bits, e, ← drop-drop (o * p.columns + sc p o) d bits)

in_octet : (c k j : ℕ) → (8 * k + j) * c ≡ 8 * (k * c) + j * c
in_octet c k j = rw (add-mul (8 * k) j c, mul_assoc 8 k c)

-- of an eight in which data has no SC octet
sc-le : (p : Layout) (n m : ℕ) → n ≤ m → sc p n ≤ sc p m
sc-le p n m h = omega arith

between : (x y z : ℕ) → x ≤ y → y ≤ z → z ≡ x → y ≡ x
between x y z h l e = omega arith

sc_same : (p : Layout) (n j : ℕ) → j ≤ 8 → sc p (n + 8) ≡ sc p n → sc p (n + j) ≡ sc p n
sc_same p n j h e = between (sc p n) (sc p (n + j)) (sc p (n + 8)) (sc-le p n (n + j) (omega arith)) (sc-le p (n + j) (n + 8) (omega arith)) e

pub eight_free : (p : Layout) (bits : List Bool) (k d at : ℕ) → sc p (8 * k + 8) ≡ sc p (8 * k)
    → (p.columns ≡ 0) ⊎ (at ≡ d + 8 * (k * p.columns) + sc p (8 * k))
    → raised_by p.columns 1 1 (drop at bits) ≡ word_at (tail_at p [] (drop d bits)) k
unfolding raised_by word_at
eight_free p bits k d at free e =
    eights_each (λ j. fields_of c (drop at bits) j * 2 + 1) (λ j. tail_at p [] (drop d bits) (8 * k + j)) each
  where
    c : ℕ
    c = p.columns

    place : (j : ℕ) → j < 8 → (c ≡ 0) ⊎ (at ≡ d + 8 * (k * c) + sc p (8 * k)) → (c ≡ 0) ⊎ (at + j * c ≡ d + ((8 * k + j) * c + sc p (8 * k + j)))
    place j l (inl z) = inl z
    place j l (inr f) = inr (rw (sc_same p (8 * k) j (omega arith) free, in_octet c k j) (omega (arith, f)))

    each : (j : ℕ) → j < 8 → fields_of c (drop at bits) j * 2 + 1 ≡ tail_at p [] (drop d bits) (8 * k + j)
    each j l =
        let next : 8 * k + j + 1 ≡ 8 * k + (j + 1) = omega arith in
        let none : sc p (8 * k + j + 1) ≡ sc p (8 * k + j) = ap (sc p) next ∙ sc_same p (8 * k) (j + 1) (omega arith) free ∙ sym (sc_same p (8 * k) j (omega arith) free) in
        rw (tail_free p (drop d bits) (8 * k + j) none, ← columns_at p bits (8 * k + j) j d at (place j l e))

pub eight_owned : (p : Layout) (bits : List Bool) (k d at : ℕ) → 2 ≤ k → p.first ≤ 8 * k + 1 → 8 * k + 8 ≤ p.last
    → at ≡ d + 8 * (k * p.columns) + sc p (8 * k)
    → raised_by (p.columns + 1) 0 0 (drop at bits) ≡ word_at (tail_at p [] (drop d bits)) k
unfolding raised_by word_at fields_of
eight_owned p bits k d at h f l e =
    eights_each (λ j. fields_of (c + 1) (drop at bits) j * 1 + 0) (λ j. tail_at p [] (drop d bits) (8 * k + j)) each
  where
    c : ℕ
    c = p.columns

    each : (j : ℕ) → j < 8 → fields_of (c + 1) (drop at bits) j * 1 + 0 ≡ tail_at p [] (drop d bits) (8 * k + j)
    each j i =
        let o : ℕ = 8 * k + j in
        let from : at + j * (c + 1) ≡ d + (o * c + sc p o) = rw (mul-add j c 1, mul-one j) (omega (arith, e, in_octet c k j)) in
        rw (tail_owned p (drop d bits) o (omega arith) (omega arith) (omega arith), drop-drop (j * (c + 1)) at bits, from, drop-drop (o * c + sc p o) d bits, mul-one, add-zero)

-- of an eight whose octets go one by one
pub eight-cut : (p : Layout) (bits : List Bool) (k : ℕ) → p.columns ≡ 0 → 2 ≤ k
    → eights (λ j. own_at p.first p.last bits (8 * k + j)) ≡ word_at (tail_at p [] bits) k
unfolding word_at
eight-cut p bits k z h =
    eights_each (λ j. own_at p.first p.last bits (8 * k + j)) (λ j. tail_at p [] bits (8 * k + j)) (λ j l. tail_bit p bits (8 * k + j) z (omega arith))

-- ---- the service bits stand in the first two eights, and without them ones
abbrev columns_only : Layout → List Bool → ℕ → ℕ
columns_only p ds o = number (nexts p.columns (drop (o * p.columns + sc p o) ds)) * 2

with_service : (p : Layout) (bs ds : List Bool) (k : ℕ) → k < 2
    → word_at (columns_only p ds) k + eights (fields_of 1 (drop (8 * k) bs)) ≡ word_at (tail_at p bs ds) k
unfolding word_at fields_of
with_service p bs ds k h =
    eights_plus (λ j. columns_only p ds (8 * k + j)) (fields_of 1 (drop (8 * k) bs))
    ∙ eights_each (λ j. columns_only p ds (8 * k + j) + fields_of 1 (drop (8 * k) bs) j) (λ j. tail_at p bs ds (8 * k + j)) each
  where
    each : (j : ℕ) → j < 8 → columns_only p ds (8 * k + j) + fields_of 1 (drop (8 * k) bs) j ≡ tail_at p bs ds (8 * k + j)
    each j l = rw (tail_service p bs ds (8 * k + j) (omega arith), drop-drop (j * 1) (8 * k) bs, mul-one j, number_one (drop (8 * k + j) bs))

without_service : (k : ℕ) → eights (fields_of 1 (drop (8 * k) [])) ≡ eights (λ j. 1)
unfolding fields_of
without_service k = eights_each (fields_of 1 (drop (8 * k) [])) (λ j. 1) (λ j l. rw (drop-nil (8 * k), drop-nil (j * 1), number_one []))

pub eight-served : (p : Layout) (bs ds : List Bool) (k octet : ℕ) → k < 2 → eights (field_of octet 1) ≡ eights (fields_of 1 (drop (8 * k) bs))
    → (eights (λ j. 1) ≤ word_at (tail_at p [] ds) k) × (ended_by (word_at (tail_at p [] ds) k) octet ≡ word_at (tail_at p bs ds) k)
unfolding ended_by
eight-served p bs ds k octet h e =
    let ones : word_at (columns_only p ds) k + eights (λ j. 1) ≡ word_at (tail_at p [] ds) k =
    ap (λ (x : ℕ). word_at (columns_only p ds) k + x) (sym (without_service k)) ∙ with_service p [] ds k h in
    (omega (arith, ones), omega (arith, ones, e, with_service p bs ds k h))

pub eight_unserved : (p : Layout) (bs ds : List Bool) (k : ℕ) → 2 ≤ k → word_at (tail_at p [] ds) k ≡ word_at (tail_at p bs ds) k
unfolding word_at tail_at
eight_unserved p bs ds k h =
    eights_each (λ j. tail_at p [] ds (8 * k + j)) (λ j. tail_at p bs ds (8 * k + j))
    (λ j l. rw (channel_unserved p (8 * k + j) (drop (8 * k + j) bs) (drop (8 * k + j) []) _ (omega arith)))

-- ---- both parts are the frame's octets
abbrev pub octet_at : Layout → Streams → ℕ → ℕ
octet_at p s o = number (fill (row_by p (o + 1)) (rest (rows_by p o) s))

pub parts_are : (p : Layout) (bs vs ds : List Bool) (k : ℕ) → Apart p
    → word_at (head_at p vs) k + word_at (tail_at p bs ds) k ≡ word_at (octet_at p (by_owner bs vs ds)) k
unfolding word_at head_at tail_at
parts_are p bs vs ds k a =
    eights_plus (λ j. head_at p vs (8 * k + j)) (λ j. tail_at p bs ds (8 * k + j))
    ∙ eights_each (λ j. head_at p vs (8 * k + j) + tail_at p bs ds (8 * k + j)) (λ j. octet_at p (by_owner bs vs ds) (8 * k + j))
    (λ j l. sym (octet_parts p (8 * k + j) bs vs ds a))

pub word_lt : (p : Layout) (s : Streams) (k : ℕ) → p.width + p.columns ≤ 7 → word_at (octet_at p s) k < 2 ^ 64
unfolding word_at
word_lt p s k h = eights-lt (λ j. octet_at p s (8 * k + j)) (λ j. octet-lt p (8 * k + j + 1) (rest (rows_by p (8 * k + j)) s) h)

word-octets : (p : Layout) (s : Streams) (k : ℕ) → p.width + p.columns ≤ 7 → k < 10
    → take 8 (octets_in (word_at (octet_at p s) k)) ≡ take 8 (drop (8 * k) (frame_by p s))
unfolding frame_by word_at
word-octets p s k h hk = ext_get_or 0 (take 8 es) (take 8 (drop (8 * k) fs)) lengths each
  where
    f : ℕ → ℕ
    f j = octet_at p s (8 * k + j)

    es : List ℕ
    es = octets_in (eights f)

    fs : List ℕ
    fs = done p s 80

    lengths : length (take 8 es) ≡ length (take 8 (drop (8 * k) fs))
    lengths = sym (length-take-le 8 (drop (8 * k) fs) (rw (length-drop (8 * k) fs, length-octets 80 (fill (rows_by p 80) s)) (omega arith)))

    small : (j : ℕ) → f j < 256
    small j = octet-lt p (8 * k + j + 1) (rest (rows_by p (8 * k + j)) s) h

    each : (j : ℕ) → j < length (take 8 es) → get_or (take 8 es) j 0 ≡ get_or (take 8 (drop (8 * k) fs)) j 0
    each j l =
        entry 8 (octet_in (eights f)) 0 j l
        ∙ octet-of f small j l
        ∙ sym (octet-done p s 80 (8 * k + j) h (omega arith))
        ∙ sym (get_or-take 8 (drop (8 * k) fs) j 0 l ∙ get_or-drop (8 * k) fs j 0)

-- a frame is the octets of its ten words
pub words_are : (p : Layout) (s : Streams) (f : ℕ → ℕ) → p.width + p.columns ≤ 7 → ((k : ℕ) → k < 10 → f k ≡ word_at (octet_at p s) k)
    → all_octets f 10 ≡ frame_by p s
words_are p s f h e =
    let fs : List ℕ = frame_by p s in
    let long : length fs ≤ 80 = unfold frame_by in omega (arith, length-octets 80 (fill (rows_by p 80) s)) in
    all_are f fs 10 (λ k l. ap octets_in (e k l) ∙ word-octets p s k h l) ∙ take_all 80 fs long
