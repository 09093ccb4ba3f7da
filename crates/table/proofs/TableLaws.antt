-- Laws of the table of places: each row's ranges lie in a frame, listed values are small, and what a table in the source says.
use mathlib.Core.Path.{◌≡◌, refl, sym, ap, ◌∙◌}
use mathlib.Core.Bool.{Bool, true, false, false≢true, cond, ◌&&◌}
use mathlib.Core.List.{List, [], ◌∷◌}
use Prim.Native.Nat.{ℕ, ◌+◌, ◌≤◌, ◌<◌}
use native.Mathlib.Omega.{arith}
use lib.Dec.{eqb, leb, ltb}
use borrow.Author.Tests.{leb-true, ltb-true, ltb-false, eqb-true, ne_eqb, lt-ltb, le-ltb}
use Rattle.std.proofs.Math.ListN.{get_or-map}
use Rattle.std.specs.Prelude.{Option, map, get_or}
use Rattle.std.specs.Option.{option_map}
use Rattle.numbers.specs.Numbers.{octet}
use Rattle.bits.proofs.Table.{table, entry}
use Rattle.bits.proofs.BoolLaws.{and_left, and_right}
use Rattle.std.specs.Prelude.{Some, None, is_some, unwrap_or}
use Rattle.table.specs.Table.{bits_and_sc, octet_bits_to, octet_bits_from, not_listed, audio_table, lsd_table, beside, audio_listed, lsd_listed, audio_places, lsd_places, listed_audio, listed_lsd}
use Rattle.table.specs.declared.Places.{Places}

-- ---- what all rows have, each looked-up row has
abbrev all : (ℕ → Places → Bool) → List (ℕ × Places) → Bool
all test [] = true
all test (row ∷ rows) = test row.0 row.1 && all test rows

pub beside_all : (test : Places → Bool) (rows : List (ℕ × Places)) (other : Places) (v : ℕ)
    → all (λ (key : ℕ) (p : Places). test p) rows ≡ true → test other ≡ true → test (unwrap_or (beside rows v) other) ≡ true
unfolding beside
beside_all test [] other v t o = o
beside_all test (row ∷ rows) other v t o =
    let rest = all (λ (key : ℕ) (p : Places). test p) rows in
    pick (eqb v row.0) (and_left (test row.1) rest t) (beside_all test rows other v (and_right (test row.1) rest t) o)
  where
    pick : (b : Bool) → test row.1 ≡ true → test (unwrap_or (beside rows v) other) ≡ true
        → test (unwrap_or (cond b (Some row.1) (beside rows v)) other) ≡ true
    pick true here there = here
    pick false here there = there

-- a value past every key is none of the rows'
pub beside_past : (n : ℕ) (rows : List (ℕ × Places)) (v : ℕ)
    → all (λ (key : ℕ) (p : Places). ltb key n) rows ≡ true → n ≤ v → beside rows v ≡ None
unfolding beside
beside_past n [] v t h = refl
beside_past n (row ∷ rows) v t h =
    let rest = all (λ (key : ℕ) (p : Places). ltb key n) rows in
    let small : row.0 < n = ltb-true row.0 n (and_left (ltb row.0 n) rest t) in
    ap (λ (b : Bool). cond b (Some row.1) (beside rows v)) (ne_eqb v row.0 (λ e. omega arith))
    ∙ beside_past n rows v (and_right (ltb row.0 n) rest t) h

-- ---- listed values are small
small : (n : ℕ) (rows : List (ℕ × Places)) (v : ℕ)
    → all (λ (key : ℕ) (p : Places). ltb key n) rows ≡ true → is_some (beside rows v) ≡ true → v < n
small n rows v keys t = go (ltb v n) refl
  where
    go : (b : Bool) → ltb v n ≡ b → v < n
    go true e = ltb-true v n e
    go false e = absurd (false≢true (sym (ap is_some (beside_past n rows v keys (ltb-false v n e))) ∙ t))

pub audio-small : (v : ℕ) → listed_audio v ≡ true → v < 32
unfolding audio_listed audio_table
audio-small v t = small 32 audio_table v refl t

pub lsd-small : (v : ℕ) → listed_lsd v ≡ true → v < 15
unfolding lsd_listed lsd_table
lsd-small v t = small 15 lsd_table v refl t

-- ---- the source's two tables, whose entries are turned into places
pub audio_past : (v : ℕ) → 32 ≤ v → audio_listed v ≡ None
unfolding audio_listed audio_table
audio_past v h = beside_past 32 audio_table v refl h

pub lsd_past : (v : ℕ) → 15 ≤ v → lsd_listed v ≡ None
unfolding lsd_listed lsd_table
lsd_past v h = beside_past 15 lsd_table v refl h

-- a table of which each entry turns into what is listed says at each place what is listed there
said : {A : Type 0} (n : ℕ) (turn : A → Option Places) (listed : ℕ → Option Places) (entries : List A) (d : A) (v : ℕ) → v < n
    → map turn entries ≡ table n listed → turn (get_or entries v d) ≡ listed v
said n turn listed entries d v h e =
    sym (get_or-map turn entries v d) ∙ ap (λ (l : List (Option Places)). get_or l v (turn d)) e ∙ entry n listed (turn d) v h

-- an entry of the table of audio: w, or 8 where the value is not listed; and one of the table of data: a, f and l
unfoldable pub audio_entry : ℕ → ℕ
audio_entry v = cond (listed_audio v) (audio_places v).to 8

abbrev audio_said : ℕ → Option Places
audio_said w = cond (ltb w 8) (Some (octet_bits_to w)) None

unfoldable pub lsd_entry : ℕ → List ℕ
lsd_entry v = (lsd_places v).from ∷ (lsd_places v).first.0 ∷ (lsd_places v).last.0 ∷ []

abbrev pub row_of : List ℕ → Option Places
row_of row = Some (bits_and_sc (get_or row 0 0) 7 (octet (get_or row 1 0)) (octet (get_or row 2 0)))

pub audio-said : (v : ℕ) → v < 32 → audio_said (get_or (table 32 audio_entry) v 8) ≡ audio_listed v
unfolding audio_entry audio_places audio_listed audio_table beside
audio-said v h = said 32 audio_said audio_listed (table 32 audio_entry) 8 v h refl

pub lsd-said : (v : ℕ) → v < 15 → row_of (get_or (table 15 lsd_entry) v []) ≡ lsd_listed v
unfolding lsd_entry lsd_places lsd_listed lsd_table beside
lsd-said v h = said 15 row_of lsd_listed (table 15 lsd_entry) [] v h refl

-- so what an entry is taken for is what the value holds: w octet bits, or none and a mark where it is not listed
audio_entered : (v : ℕ) → v < 32 → audio_said (audio_entry v) ≡ audio_listed v
audio_entered v h = ap audio_said (sym (entry 32 audio_entry 8 v h)) ∙ audio-said v h

pub audio_given : (v w : ℕ) → v < 32 → w ≡ audio_entry v → w < 8 → Some (octet_bits_to w) ≡ audio_listed v
audio_given v w h e l =
    ap (λ (b : Bool). cond b (Some (octet_bits_to w)) None) (sym (lt-ltb w 8 l)) ∙ ap audio_said e ∙ audio_entered v h

pub audio_missing : (v w : ℕ) → v < 32 → w ≡ audio_entry v → 8 ≤ w → None ≡ audio_listed v
audio_missing v w h e l =
    ap (λ (b : Bool). cond b (Some (octet_bits_to w)) None) (sym (le-ltb w 8 l)) ∙ ap audio_said e ∙ audio_entered v h

abbrev audio_or_none : Option Places → Places
audio_or_none p = unwrap_or p (not_listed (octet_bits_to 0))

pub audio-listed : (v w : ℕ) → v < 32 → w ≡ audio_entry v → w < 8 → octet_bits_to w ≡ audio_places v
unfolding audio_places
audio-listed v w h e l = ap audio_or_none (audio_given v w h e l)

pub audio_not_listed : (v w : ℕ) → v < 32 → w ≡ audio_entry v → 8 ≤ w → not_listed (octet_bits_to 0) ≡ audio_places v
unfolding audio_places
audio_not_listed v w h e l = ap audio_or_none (audio_missing v w h e l)

pub lsd_row : (v : ℕ) → v < 15 → bits_and_sc (lsd_places v).from 7 (lsd_places v).first (lsd_places v).last ≡ lsd_places v
unfolding lsd_entry lsd_places
lsd_row v h =
    ap (λ (p : Option Places). unwrap_or p (not_listed (octet_bits_from 8))) (ap row_of (sym (entry 15 lsd_entry [] v h)) ∙ lsd-said v h)

-- ---- the mark says whether the table lists a value
beside_marked : (rows : List (ℕ × Places)) (other : Places) (v : ℕ)
    → all (λ (key : ℕ) (p : Places). p.listed) rows ≡ true → other.listed ≡ false → (unwrap_or (beside rows v) other).listed ≡ is_some (beside rows v)
unfolding beside
beside_marked [] other v t o = o
beside_marked (row ∷ rows) other v t o =
    let rest = all (λ (key : ℕ) (p : Places). p.listed) rows in
    pick (eqb v row.0) (and_left row.1.listed rest t) (beside_marked rows other v (and_right row.1.listed rest t) o)
  where
    pick : (b : Bool) → row.1.listed ≡ true → (unwrap_or (beside rows v) other).listed ≡ is_some (beside rows v)
        → (unwrap_or (cond b (Some row.1) (beside rows v)) other).listed ≡ is_some (cond b (Some row.1) (beside rows v))
    pick true here there = here
    pick false here there = there

pub audio_marked : (v : ℕ) → (audio_places v).listed ≡ listed_audio v
unfolding audio_places audio_listed audio_table
audio_marked v = beside_marked audio_table (not_listed (octet_bits_to 0)) v refl refl

pub lsd_marked : (v : ℕ) → (lsd_places v).listed ≡ listed_lsd v
unfolding lsd_places lsd_listed lsd_table
lsd_marked v = beside_marked lsd_table (not_listed (octet_bits_from 8)) v refl refl

-- ---- both ranges lie in a frame's octets
pub record Fit (p : Places) : Type 0 where
  pub starts : 1 ≤ p.from
  pub spans : p.from ≤ p.to + 1
  pub ends : p.to ≤ 7
  pub opens : 1 ≤ p.first.0
  pub runs : p.first.0 ≤ p.last.0 + 1
  pub closes : p.last.0 ≤ 80

abbrev pub fits : Places → Bool
fits p =
    leb 1 p.from && (leb p.from (p.to + 1)
    && (leb p.to 7 && (leb 1 p.first.0 && (leb p.first.0 (p.last.0 + 1) && leb p.last.0 80))))

pub fit : (p : Places) → fits p ≡ true → Fit p
fit p t =
    let a = leb 1 p.from in
    let b = leb p.from (p.to + 1) in
    let c = leb p.to 7 in
    let d = leb 1 p.first.0 in
    let e = leb p.first.0 (p.last.0 + 1) in
    let f = leb p.last.0 80 in
    let t2 = and_right a (b && (c && (d && (e && f)))) t in
    let t3 = and_right b (c && (d && (e && f))) t2 in
    let t4 = and_right c (d && (e && f)) t3 in
    let t5 = and_right d (e && f) t4 in
    record {
      starts = leb-true 1 p.from (and_left a (b && (c && (d && (e && f)))) t);
      spans = leb-true p.from (p.to + 1) (and_left b (c && (d && (e && f))) t2);
      ends = leb-true p.to 7 (and_left c (d && (e && f)) t3);
      opens = leb-true 1 p.first.0 (and_left d (e && f) t4);
      runs = leb-true p.first.0 (p.last.0 + 1) (and_left e f t5);
      closes = leb-true p.last.0 80 (and_right e f t5);
    }

pub audio-fit : (v : ℕ) → Fit (audio_places v)
unfolding audio_places audio_listed audio_table
audio-fit v = fit (audio_places v) (beside_all fits audio_table (not_listed (octet_bits_to 0)) v refl refl)

pub lsd-fit : (v : ℕ) → Fit (lsd_places v)
unfolding lsd_places lsd_listed lsd_table
lsd-fit v = fit (lsd_places v) (beside_all fits lsd_table (not_listed (octet_bits_from 8)) v refl refl)

-- ---- audio is octet bits 1 to w and no SC octet, data is octet bits a to 7, whatever the value
abbrev from_one : Places → Bool
from_one p = eqb p.from 1 && (eqb p.first.0 17 && eqb p.last.0 16)

pub audio_shape : (v : ℕ) → ((audio_places v).from ≡ 1) × ((audio_places v).first.0 ≡ 17) × ((audio_places v).last.0 ≡ 16)
unfolding audio_places audio_listed audio_table
audio_shape v =
    let p = audio_places v in
    let t : from_one p ≡ true = beside_all from_one audio_table (not_listed (octet_bits_to 0)) v refl refl in
    let u = and_right (eqb p.from 1) (eqb p.first.0 17 && eqb p.last.0 16) t in (
      eqb-true p.from 1 (and_left (eqb p.from 1) (eqb p.first.0 17 && eqb p.last.0 16) t),
      eqb-true p.first.0 17 (and_left (eqb p.first.0 17) (eqb p.last.0 16) u),
      eqb-true p.last.0 16 (and_right (eqb p.first.0 17) (eqb p.last.0 16) u),
    )

abbrev to_seven : Places → Bool
to_seven p = eqb p.to 7 && leb 17 p.first.0

pub lsd_shape : (v : ℕ) → ((lsd_places v).to ≡ 7) × (17 ≤ (lsd_places v).first.0)
unfolding lsd_places lsd_listed lsd_table
lsd_shape v =
    let p = lsd_places v in
    let t : to_seven p ≡ true = beside_all to_seven lsd_table (not_listed (octet_bits_from 8)) v refl refl in
    let a = eqb p.to 7 in
    let b = leb 17 p.first.0 in
    (eqb-true p.to 7 (and_left a b t), leb-true 17 p.first.0 (and_right a b t))
