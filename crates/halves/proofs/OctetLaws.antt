-- The number of an octet of a frame: voice, nobody's ones, data and the service channel's bit, put together.
use mathlib.Core.Path.{◌≡◌, refl, ap, ap₂, ◌∙◌}
use mathlib.Core.Bool.{Bool, true}
use mathlib.Core.List.{List, [], ◌∷◌, ◌++◌}
use Prim.Native.Nat.{ℕ, zero, suc, ◌+◌, ◌-◌, ◌*◌, ◌^◌, ◌≤◌, ◌<◌, min}
use native.Mathlib.Nat.{zero-add, add-zero, pow-suc, pow-succ', one-mul, mul-one, mul_assoc}
use native.Mathlib.Numerals.{add-one}
use native.Mathlib.Omega.{arith}
use lib.Pow.{pow_pos}
use lib.ListN.{get_or, drop, replicate}
use lib.Seq.{drop-nil}
use Rattle.bits.specs.Bits.{digit, number, nexts}
use Rattle.bits.proofs.BitLaws.{number_append, number_bound}
use Rattle.modes.specs.declared.Owner.{Owner}
use Rattle.modes.specs.declared.Owner.TheVariants.{Service, Voice, Lsd, Nobody}
use Rattle.places.specs.Streams.{Streams, same, count, rest, fill}
use Rattle.halves.specs.Sources.{by_owner}
use Rattle.places.specs.Layout.{columns_by, channel_by, row_by, rows_by, sc, Apart}
use Rattle.places.specs.declared.Layout.{Layout}
use Rattle.places.proofs.StreamLaws.{fill-append, fill_all, rest_at, rest-rest, count-append, count_all, count_none, length-fill}
use Rattle.bits.proofs.NextLaws.{length-nexts}
use Rattle.places.proofs.LayoutLaws.{channel_cases, count-voice, count-lsd, count_service, length-row}

-- n places of a stream that has no bits
pub ones : (n : ℕ) → number (nexts n []) ≡ 2 ^ n - 1
unfolding number nexts
ones zero = refl
ones (suc n) = rw (length-nexts n [], ones n, pow-succ' 2 n, one-mul) (omega (arith, pow_pos n))

fill_columns : (p : Layout) (s : Streams) → s Nobody ≡ []
    → fill (columns_by p) s ≡ nexts p.width (s Voice) ++ nexts (7 - (p.width + p.columns)) [] ++ nexts p.columns (s Lsd)
unfolding columns_by rest same
fill_columns p s e =
    let w : List Owner = replicate p.width Voice in
    let g : List Owner = replicate (7 - (p.width + p.columns)) Nobody in
    let c : List Owner = replicate p.columns Lsd in
    let none : count Lsd (w ++ g) ≡ 0 = simp (count-append, count_none Lsd Voice, count_none Lsd Nobody) in
    fill-append (w ++ g) c s
    ∙ ap₂ ◌++◌
    (fill-append w g s
    ∙ ap₂ ◌++◌ (fill_all Voice p.width s)
    (fill_all Nobody (7 - (p.width + p.columns)) (rest w s)
    ∙ ap (λ (l : List Bool). nexts (7 - (p.width + p.columns)) (drop (count Nobody w) l)) e
    ∙ ap (nexts (7 - (p.width + p.columns))) (drop-nil (count Nobody w))))
    (fill_all Lsd p.columns (rest (w ++ g) s) ∙ ap (λ (k : ℕ). nexts p.columns (drop k (s Lsd))) none)

-- an octet's number, from any streams
octet : (p : Layout) (o : ℕ) (s : Streams) → s Nobody ≡ []
    → number (fill (row_by p o) s)
    ≡ ((number (nexts p.width (s Voice)) * 2 ^ (7 - (p.width + p.columns)) + (2 ^ (7 - (p.width + p.columns)) - 1)) * 2 ^ p.columns
    + number (nexts p.columns (s Lsd))) * 2 + digit (get_or (rest (columns_by p) s (channel_by p o)) 0 true)
unfolding row_by fill number
octet p o s e =
    let w : List Bool = nexts p.width (s Voice) in
    let g : List Bool = nexts (7 - (p.width + p.columns)) [] in
    let c : List Bool = nexts p.columns (s Lsd) in
    let b : Bool = get_or (rest (columns_by p) s (channel_by p o)) 0 true in
    ap number (fill-append (columns_by p) (channel_by p o ∷ []) s ∙ ap (λ (l : List Bool). l ++ (b ∷ [])) (fill_columns p s e))
    ∙ number_append (w ++ g ++ c) (b ∷ [])
    ∙ rw (number_append (w ++ g) c, number_append w g, length-nexts, length-nexts, ones, mul-one, add-zero)

-- it is an octet
pub octet-lt : (p : Layout) (o : ℕ) (s : Streams) → p.width + p.columns ≤ 7 → number (fill (row_by p o) s) < 256
octet-lt p o s h = rw (length-fill, length-row p o h) at (number_bound (fill (row_by p o) s))

-- octet o + 1 of a frame
pub octet-at : (p : Layout) (o : ℕ) (s : Streams) → s Nobody ≡ [] → Apart p
    → number (fill (row_by p (o + 1)) (rest (rows_by p o) s))
    ≡ ((number (nexts p.width (drop (o * p.width) (s Voice))) * 2 ^ (7 - (p.width + p.columns))
    + (2 ^ (7 - (p.width + p.columns)) - 1)) * 2 ^ p.columns
    + number (nexts p.columns (drop (o * p.columns + sc p o) (s Lsd)))) * 2
    + digit (get_or (rest (rows_by p o ++ columns_by p) s (channel_by p (o + 1))) 0 true)
octet-at p o s e h =
    octet p (o + 1) (rest (rows_by p o) s)
    (rest_at (rows_by p o) s Nobody ∙ ap (drop (count Nobody (rows_by p o))) e ∙ drop-nil (count Nobody (rows_by p o)))
    ∙ rw (rest-rest (rows_by p o) (columns_by p) s, rest_at (rows_by p o) s Voice, rest_at (rows_by p o) s Lsd, count-voice p o, count-lsd p o h)

-- ---- the service channel's bit of octet o + 1
before_service : (p : Layout) (o : ℕ) → count Service (rows_by p o ++ columns_by p) ≡ min o 16
unfolding columns_by same
before_service p o = simp (count-append, count_service, count_none Service Voice, count_none Service Nobody, count_none Service Lsd, add-zero)

before-lsd : (p : Layout) (o : ℕ) → Apart p → count Lsd (rows_by p o ++ columns_by p) ≡ o * p.columns + sc p o + p.columns
unfolding columns_by same
before-lsd p o h = simp (count-append, count-lsd p o h, count_all, count_none Lsd Voice, count_none Lsd Nobody, zero-add)

-- it is a service bit, the next data bit, or 1
pub channel_next : (p : Layout) (o : ℕ) (service voice lsd : List Bool) → Apart p
    → get_or (rest (rows_by p o ++ columns_by p) (by_owner service voice lsd) (channel_by p (o + 1))) 0 true
    ≡ get_or (by_owner (drop o service) [] (drop (o * p.columns + sc p o + p.columns) lsd) (channel_by p (o + 1))) 0 true
channel_next p o service voice lsd h =
    channel_cases p (o + 1)
    (λ (w : Owner). get_or (rest (rows_by p o ++ columns_by p) (by_owner service voice lsd) w) 0 true
    ≡ get_or (by_owner (drop o service) [] (drop (o * p.columns + sc p o + p.columns) lsd) w) 0 true)
    (λ l. let k : min o 16 ≡ o = omega arith in rw (rest_at, before_service p o, k))
    (λ l f u. rw (rest_at, before-lsd p o h))
    (λ l b. rw (rest_at, drop-nil))
    (λ l a. rw (rest_at, drop-nil))

-- ---- octet o + 1 in two parts: voice and nobody's ones, and the last bits, which are data's and the channel's
join_tail : (x c low last : ℕ) → (x * 2 ^ c + low) * 2 + last ≡ x * 2 ^ (c + 1) + (low * 2 + last)
join_tail x c low last = rw (add-one, pow-suc, ← mul_assoc x (2 ^ c) 2) (omega arith)

pub octet_parts : (p : Layout) (o : ℕ) (service voice lsd : List Bool) → Apart p
    → number (fill (row_by p (o + 1)) (rest (rows_by p o) (by_owner service voice lsd)))
    ≡ (number (nexts p.width (drop (o * p.width) voice)) * 2 ^ (7 - (p.width + p.columns))
    + (2 ^ (7 - (p.width + p.columns)) - 1)) * 2 ^ (p.columns + 1)
    + (number (nexts p.columns (drop (o * p.columns + sc p o) lsd)) * 2
    + digit (get_or (by_owner (drop o service) [] (drop (o * p.columns + sc p o + p.columns) lsd) (channel_by p (o + 1))) 0 true))
octet_parts p o service voice lsd h =
    octet-at p o (by_owner service voice lsd) refl h
    ∙ rw (channel_next p o service voice lsd h) (join_tail _ p.columns _ _)

-- past the service bits these do not count; and where they are left out and data has no SC octet, the bit is 1
pub channel_unserved : (p : Layout) (o : ℕ) (bs cs ds : List Bool) → 16 ≤ o
    → get_or (by_owner cs [] ds (channel_by p (o + 1))) 0 true ≡ get_or (by_owner bs [] ds (channel_by p (o + 1))) 0 true
channel_unserved p o bs cs ds h =
    channel_cases p (o + 1) (λ (w : Owner). get_or (by_owner cs [] ds w) 0 true ≡ get_or (by_owner bs [] ds w) 0 true)
    (λ l. absurd (omega arith))
    (λ l f u. refl)
    (λ l b. refl)
    (λ l a. refl)

pub channel_free : (p : Layout) (o : ℕ) (ds : List Bool) → sc p (o + 1) ≡ sc p o → get_or (by_owner (drop o []) [] ds (channel_by p (o + 1))) 0 true ≡ true
channel_free p o ds e =
    channel_cases p (o + 1) (λ (w : Owner). get_or (by_owner (drop o []) [] ds w) 0 true ≡ true)
    (λ l. rw (drop-nil o))
    (λ l f u. absurd (omega (arith, e)))
    (λ l b. refl)
    (λ l a. refl)
