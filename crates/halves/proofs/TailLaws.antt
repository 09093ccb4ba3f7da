-- The tails of a frame as they are laid, in runs of eights: where each run begins in data's buffer, and that it is there.
use mathlib.Core.Path.{◌≡◌, refl, ap, sym, ◌∙◌}
use mathlib.Core.Logic.{◌⊎◌, inl, inr}
use mathlib.Core.Bool.{Bool, true, false}
use mathlib.Core.List.{List, []}
use Prim.Native.Nat.{ℕ, ◌+◌, ◌-◌, ◌*◌, ◌/◌, ◌%◌, ◌^◌, ◌≤◌, ◌<◌}
use native.Mathlib.Nat.{add-mul, mul-add, mul-one, mul-le-mul}
use native.Mathlib.Omega.{arith}
use borrow.Author.Tests.{leb-true, leb-false}
use lib.Dec.{leb}
use lib.ListN.{length, take, drop, length-drop}
use lib.Seq.{take_all, take_at, drop_at, drop-drop}
use Rattle.bits.specs.Bits.{bits_of, low_bits, number, nexts}
use Rattle.bits.proofs.RunLaws.{drop-bits_of}
use Rattle.bits.proofs.BitLaws.{length-low_bits, low_bits-append, number_fits, number-low_bits}
use Rattle.bits.proofs.NextLaws.{nexts-take}
use Rattle.halves.specs.Sources.{by_owner}
use Rattle.places.specs.Layout.{in_eights, sc, Apart}
use Rattle.eights.specs.Eight.{eights, ended_by, field_of, fields_of, raised_by}
use Rattle.halves.specs.Parts.{word_at, tail_at}
use Rattle.places.specs.declared.Layout.{Layout}
use Rattle.places.proofs.LayoutLaws.{eights_at}
use Rattle.halves.proofs.PartLaws.{eight_free, eight_owned, eight-served, parts_are, word_lt}
use Rattle.eights.proofs.WordLaws.{lane_is}

-- ten eights in three runs
pub by_runs : (f g : ℕ → ℕ) (a b : ℕ) → ((k : ℕ) → k < a → f k ≡ g k) → ((k : ℕ) → a ≤ k → k < b → f k ≡ g k)
    → ((k : ℕ) → b ≤ k → k < 10 → f k ≡ g k) → (k : ℕ) → k < 10 → f k ≡ g k
by_runs f g a b before own after k l = go (leb a k) (leb b k) refl refl
  where
    go : (x y : Bool) → leb a k ≡ x → leb b k ≡ y → f k ≡ g k
    go false y ea eb = before k (leb-false a k ea)
    go true false ea eb = own k (leb-true a k ea) (leb-false b k eb)
    go true true ea eb = after k (leb-true b k eb) l

-- a buffer lent on from octet i: its bits from its octet m on
pub octets_on : (xs : List ℕ) (i m : ℕ) → drop (8 * m) (bits_of (take (length xs - i) (drop i xs))) ≡ drop (8 * (i + m)) (bits_of xs)
octets_on xs i m =
    let whole : length (drop i xs) ≤ length xs - i = rw length-drop (omega arith) in
    let e : 8 * i + 8 * m ≡ 8 * (i + m) = omega arith in
    rw (take_all (length xs - i) (drop i xs) whole, ← drop-bits_of i xs, drop-drop (8 * m) (8 * i) (bits_of xs), e)

-- the columns of eights `from` to k
pub columns_to : (c from k : ℕ) → from ≤ k → from * c + (k - from) * c ≡ k * c
columns_to c from k h =
    let e : from + (k - from) ≡ k = omega arith in
    sym (add-mul from (k - from) c) ∙ ap (λ (x : ℕ). x * c) e

pub columns_le : (c k : ℕ) → c ≤ 7 → k ≤ 10 → k * c ≤ 70
columns_le c k hc hk = mul-le-mul hk hc

-- data has no columns, or begins with an octet
begins : (p : Layout) (d : ℕ) → Apart p → (in_eights p ≡ true → d % 8 ≡ 0) → (p.columns ≡ 0) ⊎ ((in_eights p ≡ true) × (8 * (d / 8) ≡ d))
begins p d a h = go a.even
  where
    go : (p.columns ≡ 0) ⊎ (in_eights p ≡ true) → (p.columns ≡ 0) ⊎ ((in_eights p ≡ true) × (8 * (d / 8) ≡ d))
    go (inl z) = inl z
    go (inr t) = inr (t, omega (arith, h t))

-- a run of columns: i is the octet of data's buffer that it begins with
laid_free : (p : Layout) (bits : List Bool) (from i k d : ℕ) → from ≤ k → sc p (8 * k + 8) ≡ sc p (8 * k)
    → (p.columns ≡ 0) ⊎ (8 * i ≡ d + 8 * (from * p.columns) + sc p (8 * k))
    → raised_by p.columns 1 1 (drop (8 * (i + (k - from) * p.columns)) bits) ≡ word_at (tail_at p [] (drop d bits)) k
laid_free p bits from i k d l free begun = eight_free p bits k d (8 * (i + (k - from) * c)) free (go begun)
  where
    c : ℕ
    c = p.columns

    go : (c ≡ 0) ⊎ (8 * i ≡ d + 8 * (from * c) + sc p (8 * k)) → (c ≡ 0) ⊎ (8 * (i + (k - from) * c) ≡ d + 8 * (k * c) + sc p (8 * k))
    go (inl z) = inl z
    go (inr e) = inr (omega (arith, e, columns_to c from k l))

-- before data's SC octets, or where it has none
pub laid-before : (p : Layout) (bits : List Bool) (k d : ℕ) → Apart p → (in_eights p ≡ true → d % 8 ≡ 0) → (p.last < p.first) ⊎ (k < (p.first - 1) / 8)
    → raised_by p.columns 1 1 (drop (8 * (d / 8 + (k - 0) * p.columns)) bits) ≡ word_at (tail_at p [] (drop d bits)) k
laid-before p bits k d ok h w = laid_free p bits 0 (d / 8) k d (omega arith) (none 8 (omega arith) w) (go (begins p d ok h))
  where
    none : (j : ℕ) → j ≤ 8 → (p.last < p.first) ⊎ (k < (p.first - 1) / 8) → sc p (8 * k + j) ≡ sc p (8 * k)
    none j l (inl e) = omega (arith, e)
    none j l (inr e) = omega (arith, e)

    zero_yet : (p.last < p.first) ⊎ (k < (p.first - 1) / 8) → sc p (8 * k) ≡ 0
    zero_yet (inl e) = omega (arith, e)
    zero_yet (inr e) = omega (arith, e)

    go : (p.columns ≡ 0) ⊎ ((in_eights p ≡ true) × (8 * (d / 8) ≡ d)) → (p.columns ≡ 0) ⊎ (8 * (d / 8) ≡ d + 8 * (0 * p.columns) + sc p (8 * k))
    go (inl z) = inl z
    go (inr e) = inr (omega (arith, e.1, zero_yet w))

pub laid_owned : (p : Layout) (bits : List Bool) (a b k d : ℕ) → Apart p → (in_eights p ≡ true → d % 8 ≡ 0) → in_eights p ≡ true
    → a ≡ (p.first - 1) / 8 → b ≡ (p.last + 7) / 8 → a ≤ k → k < b
    → raised_by (p.columns + 1) 0 0 (drop (8 * (d / 8 + a * p.columns + (k - a) * (p.columns + 1))) bits) ≡ word_at (tail_at p [] (drop d bits)) k
laid_owned p bits a b k d ok h t ea eb l m =
    let c : ℕ = p.columns in
    let f : p.first ≡ 8 * a + 1 = omega (arith, ea, (eights_at p t).0, ok.after) in
    let e : p.last ≡ 8 * b = omega (arith, eb, (eights_at p t).1) in
    let n : (k - a) * (c + 1) ≡ (k - a) * c + (k - a) = rw (mul-add (k - a) c 1, mul-one (k - a)) in
    let from : 8 * (d / 8 + a * c + (k - a) * (c + 1)) ≡ d + 8 * (k * c) + sc p (8 * k) = omega (arith, f, e, n, l, m, h t, columns_to c a k l) in
    eight_owned p bits k d (8 * (d / 8 + a * c + (k - a) * (c + 1))) (omega (arith, ea, l, ok.after)) (omega (arith, f, l)) (omega (arith, e, m)) from

pub laid-after : (p : Layout) (bits : List Bool) (a b k d : ℕ) → Apart p → (in_eights p ≡ true → d % 8 ≡ 0)
    → a ≡ (p.first - 1) / 8 → b ≡ (p.last + 7) / 8 → b ≤ k
    → raised_by p.columns 1 1 (drop (8 * (d / 8 + b * p.columns + (b - a) + (k - b) * p.columns)) bits) ≡ word_at (tail_at p [] (drop d bits)) k
laid-after p bits a b k d ok h ea eb l = laid_free p bits b (d / 8 + b * c + (b - a)) k d l (omega (arith, eb)) (go (begins p d ok h))
  where
    c : ℕ
    c = p.columns

    go : (c ≡ 0) ⊎ ((in_eights p ≡ true) × (8 * (d / 8) ≡ d)) → (c ≡ 0) ⊎ (8 * (d / 8 + b * c + (b - a)) ≡ d + 8 * (b * c) + sc p (8 * k))
    go (inl z) = inl z
    go (inr w) =
        let f : p.first ≡ 8 * a + 1 = omega (arith, ea, (eights_at p w.0).0, ok.after) in
        let e : p.last ≡ 8 * b = omega (arith, eb, (eights_at p w.0).1) in
        inr (omega (arith, f, e, w.1, ok.runs, l))

-- ---- the service bits as two octets
service_first : (s : ℕ) → s < 65536 → number (nexts 8 (low_bits 16 s)) ≡ s / 256
service_first s h =
    let long : 8 ≤ length (low_bits 16 s) = rw (length-low_bits 16 s) (omega arith) in
    rw (nexts-take 8 (low_bits 16 s) long, low_bits-append 8 8 s, take_at (low_bits 8 (s / 256)) (low_bits 8 s) 8 (length-low_bits 8 (s / 256)))
    (number_fits 8 (s / 256) (omega arith))

service_second : (s : ℕ) → number (nexts 8 (drop 8 (low_bits 16 s))) ≡ s % 256
service_second s =
    let long : 8 ≤ length (low_bits 8 s) = rw (length-low_bits 8 s) (omega arith) in
    let short : length (low_bits 8 s) ≤ 8 = rw (length-low_bits 8 s) (omega arith) in
    rw (low_bits-append 8 8 s, drop_at (low_bits 8 (s / 256)) (low_bits 8 s) 8 (length-low_bits 8 (s / 256)), nexts-take 8 (low_bits 8 s) long, take_all 8 (low_bits 8 s) short)
    (number-low_bits 8 s)

-- ---- the service bits in the first two eights, and how large the tails are
tails-lt : (p : Layout) (bs ds : List Bool) (k : ℕ) → Apart p → word_at (tail_at p bs ds) k < 2 ^ 64
tails-lt p bs ds k a = omega (arith, parts_are p bs [] ds k a, word_lt p (by_owner bs [] ds) k a.within)

-- what `ended` asks of an eight and an octet, and what it makes of them
abbrev pub Served : Layout → ℕ → List Bool → ℕ → ℕ → ℕ → Type 0
Served p s ds k word octet =
    (eights (λ (j : ℕ). 1) ≤ word) × (ended_by word octet < 2 ^ 64) × (ended_by word octet ≡ word_at (tail_at p (low_bits 16 s) ds) k)

served : (p : Layout) (s : ℕ) (ds : List Bool) (k word octet : ℕ) → Apart p → k < 2 → octet ≡ number (nexts 8 (drop (8 * k) (low_bits 16 s)))
    → word ≡ word_at (tail_at p [] ds) k → Served p s ds k word octet
served p s ds k word octet a h eo ew =
    let bs : List Bool = low_bits 16 s in
    let bits : eights (field_of octet 1) ≡ eights (fields_of 1 (drop (8 * k) bs)) = ap (λ (x : ℕ). eights (field_of x 1)) eo ∙ lane_is 1 (drop (8 * k) bs) in
    let given = eight-served p bs ds k octet h bits in
    rw ew (given.0, rw given.1 (tails-lt p bs ds k a), given.1)

pub served_first : (p : Layout) (s : ℕ) (ds : List Bool) (word : ℕ) → Apart p → s < 65536 → word ≡ word_at (tail_at p [] ds) 0 → Served p s ds 0 word (s / 256)
served_first p s ds word a h e = served p s ds 0 word (s / 256) a (omega arith) (sym (service_first s h)) e

pub served-second : (p : Layout) (s : ℕ) (ds : List Bool) (word : ℕ) → Apart p → word ≡ word_at (tail_at p [] ds) 1 → Served p s ds 1 word (s % 256)
served-second p s ds word a e = served p s ds 1 word (s % 256) a (omega arith) (sym (service_second s)) e
